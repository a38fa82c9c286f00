use Rattle.std.proofs.Common.{sym, refl, ◌∙◌}
use Rattle.ark_prime256.specs.ElementLaws.{equal_elements}
use Rattle.ark_prime256.proofs.prime_field.PrimeField256Field.inverse.Goals as goal

pub returns-then-eq-clause-none : goal.returns-then-eq-clause-none
returns-then-eq-clause-none g c =
    (λ none. (equal_elements g.M.PrimeModulus256.modulus c.args.self.now c.zero.result).0 (sym c.if-eq.ensures) ∙ c.zero.ensures, λ zero. refl)
