-- Why the elements are a field with roots of unity: the laws that the impls of a prime field cite.
use Rattle.std.specs.Prelude.{◌≡◌, ◌≢◌, ℕ}
use Rattle.std.proofs.Common.{Decides, refl, true, ◌==◌, ◌&&◌, ap}
use Rattle.std.proofs.lemmas.Bool.{and_parts, and_from, eqb-true, eq-eqb}
use Rattle.ark_math.specs.Field.{IsField, natural}
use Rattle.ark_math.specs.Prime.{IsPrime}
use Rattle.ark_math.specs.Module.{IsModule, IsItself, itself}
use Rattle.ark_math.specs.Root.{AreRoots, AreGreatest}
use Rattle.ark_base.specs.ResiduesLaws as laws
use Rattle.ark_base.specs.Element.{numbering, residue_of, prime_field, Shown, adicity, generator_of, prime_root, two_adic_root, large_root, same_from_value}
use Rattle.ark_base.specs.declared.prime_field.PrimeField.{PrimeField}
use Rattle.ark_base.specs.declared.prime_field.PrimeModulus.{Ghosts}

pub prime_field_laws : {M : Type 0} {g : Ghosts M} (P : IsPrime g.MODULUS) → IsField (prime_field {M = M} {g = g} P)
prime_field_laws P = laws.residues_laws numbering P

pub prime_module_laws : {M : Type 0} {g : Ghosts M} (P : IsPrime g.MODULUS) → IsModule (prime_field {M = M} {g = g} P) (itself (prime_field {M = M} {g = g} P))
prime_module_laws P = laws.residues_module_laws numbering P

pub prime_field_equals : {M : Type 0} {g : Ghosts M} (a b : PrimeField M g) → Decides (a.value == b.value && true) (a ≡ b)
prime_field_equals a b =
    (λ t. same_from_value a b (eqb-true _ _ (and_parts _ _ t).0), λ e. and_from _ _ (eq-eqb _ _ (ap (λ x. x.value) e)) refl)

-- a number's residue is one, that many times over
pub natural_residue : {M : Type 0} {g : Ghosts M} (P : IsPrime g.MODULUS) (n : ℕ) (r : PrimeField M g) → r ≡ residue_of P n → r ≡ natural (prime_field {M = M} {g = g} P) n
natural_residue P n r e = laws.natural_residue numbering P n r (ap (λ x. x.value) e)

module _ (M : Type 0) (g : Ghosts M) (S : Shown g) where
  pub prime_roots : AreRoots (prime_field {M = M} {g = g} S.prime) (adicity g) (prime_root {M = M} {g = g} S)
  prime_roots = laws.residue_roots numbering S

  pub generator_not_zero : generator_of {M = M} {g = g} S ≢ (prime_field {M = M} {g = g} S.prime).zero
  generator_not_zero = laws.generator_not_zero numbering S

  pub prime_greatest : AreGreatest (adicity g) (prime_root {M = M} {g = g} S) (two_adic_root {M = M} {g = g} S) (large_root {M = M} {g = g} S)
  prime_greatest = laws.residue_greatest numbering S

  pub prime_itself : IsItself (prime_field {M = M} {g = g} S.prime) (itself (prime_field {M = M} {g = g} S.prime)) (λ x. x)
  prime_itself = laws.residues_itself numbering S.prime
