use Rattle.std.proofs.Common.{◌∙◌}
use Rattle.ark_prime256.proofs.Element.{same_words_or_numbers}
use Rattle.ark_prime256.proofs.prime_field.PrimeField256PartialEq.eq.Goals as goal

pub returns : goal.returns
returns g c = c.eq.ensures ∙ same_words_or_numbers g.M.PrimeModulus256.modulus c.args.self.now c.args.other.now
