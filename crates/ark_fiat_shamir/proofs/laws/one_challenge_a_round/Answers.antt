use Rattle.ark_bytes.specs.declared.compress.Compress.TheVariants.{Yes}
use Rattle.ark_fiat_shamir.proofs.Determined.{determined}
use Rattle.ark_fiat_shamir.proofs.laws.one_challenge_a_round.Goals as goal

pub returns : goal.returns
returns g c = determined g.F.Field.field (g.F.Spelled.format Yes) g.F.Field.element_size (g.met.F.Field.elements_law Yes)
