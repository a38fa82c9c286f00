use Rattle.ark_extensions.specs.ElementLaws.{square_of_root}
use Rattle.ark_extensions.proofs.laws.square_of_root.Goals as goal

pub returns : goal.returns
returns g c = square_of_root g.F.Field.field g.met.F.Field.field_laws g.M.QuadraticModulus.non_residue
