use Rattle.std.proofs.Common.{◌∙◌}
use Rattle.ark_prime256.proofs.Element.{unit_times}
use Rattle.ark_prime256.proofs.prime_field.PrimeField256.from_scaled.Goals as goal

pub returns-then-is_below-clause-some : goal.returns-then-is_below-clause-some
returns-then-is_below-clause-some g c = unit_times {g = g.M.PrimeModulus256} g.M.PrimeModulus256.modulus _ ∙ c.new-value.ensures
