use Rattle.ark_extensions.specs.ElementLaws.{embedding}
use Rattle.ark_extensions.proofs.laws.embedding.Goals as goal

pub returns : goal.returns
returns g c = embedding g.F.Field.field g.met.F.Field.field_laws g.M.QuadraticModulus.non_residue
