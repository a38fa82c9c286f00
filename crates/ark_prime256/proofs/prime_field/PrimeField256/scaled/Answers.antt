use Rattle.std.proofs.Common.{sym, ◌∙◌}
use Rattle.ark_prime256.proofs.Element.{unit_times}
use Rattle.ark_prime256.proofs.prime_field.PrimeField256.scaled.Goals as goal

pub returns : goal.returns
returns g c = c.to_words.ensures ∙ sym (unit_times {g = g.M.PrimeModulus256} g.M.PrimeModulus256.modulus c.args.self)
