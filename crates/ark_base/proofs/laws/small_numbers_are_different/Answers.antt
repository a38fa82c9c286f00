use Rattle.ark_base.specs.Element.{numbering}
use Rattle.ark_base.specs.ResiduesLaws.{numbers_differ}
use Rattle.ark_base.proofs.laws.small_numbers_are_different.Goals as goal

pub returns : goal.returns
returns g c = numbers_differ (numbering {M = g.row.M.Denot} {g = g.M.PrimeModulus}) g.M.PrimeModulus.modulus.prime
