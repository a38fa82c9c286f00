use Rattle.ark_prime256.specs.Element.{numbering}
use Rattle.ark_base.specs.ResiduesLaws.{numbers_differ}
use Rattle.ark_prime256.proofs.laws.small_numbers_are_different256.Goals as goal

pub returns : goal.returns
returns g c = numbers_differ (numbering g.M.PrimeModulus256.modulus) g.M.PrimeModulus256.modulus.numbers.prime
