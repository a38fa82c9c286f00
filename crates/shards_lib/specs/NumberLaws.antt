-- The elements of the prime field of 65537 elements are the numbers up to 2^16.
use Rattle.std.specs.Prelude.{◌≡◌, ◌≢◌, ◌⊎◌, ℕ, ◌<◌, ◌≤◌}
use Rattle.std.proofs.lemmas.Bool.{cases_eq}
use Rattle.std.proofs.Common.{inl, inr, ap, sym, refl, ◌∙◌, arith, mod-eq_of_lt}
use Rattle.ark_math.specs.Field.{natural}
use Rattle.ark_math.specs.Prime.{IsPrime}
use Rattle.ark_base.specs.Element.{number, prime_field, residue_of, same_from_value}
use Rattle.ark_base.specs.ElementLaws.{natural_residue, prime_field_laws}
use Rattle.ark_base.specs.declared.prime_field.PrimeField.{PrimeField}
use Rattle.ark_base.specs.declared.prime_field.PrimeModulus.{Ghosts}

module _ (M : Type 0) (g : Ghosts M) where
  pub fits : g.MODULUS ≡ 65537 → (x : PrimeField M g) → number x ≤ 65536
  fits e x = let below : x.value < g.MODULUS = x.reduced in omega (arith, below, e)

  pub of_natural : (P : IsPrime g.MODULUS) → g.MODULUS ≡ 65537 → (n : ℕ) → n ≤ 65536 → number (natural (prime_field {M = M} {g = g} P) n) ≡ n
  of_natural P e n h =
      let below : n < g.MODULUS = omega (arith, h, e) in
      ap number (sym (natural_residue P n (residue_of P n) refl)) ∙ mod-eq_of_lt below

  pub to_natural : (P : IsPrime g.MODULUS) (x : PrimeField M g) → natural (prime_field {M = M} {g = g} P) (number x) ≡ x
  to_natural P x = sym (natural_residue P x.value x (same_from_value _ _ (sym (mod-eq_of_lt x.reduced))))

  pub sixteen : g.TWO_ADICITY ≡ 16 → 16 ≤ g.TWO_ADICITY
  sixteen e = omega (arith, e)

  -- what an element times is one, and zero for zero
  inverse_if : IsPrime g.MODULUS → (x : PrimeField M g) → (number x ≡ 0) ⊎ (number x ≢ 0) → PrimeField M g
  inverse_if P x (inl none) = x
  inverse_if P x (inr some) = ((prime_field_laws P).inverts x (λ e. some (ap number e))).0

  inverse_if-law : (P : IsPrime g.MODULUS) (x : PrimeField M g) (h : (number x ≡ 0) ⊎ (number x ≢ 0)) → x ≢ (prime_field {M = M} {g = g} P).zero
      → (prime_field {M = M} {g = g} P).times x (inverse_if P x h) ≡ (prime_field {M = M} {g = g} P).one
  unfolding inverse_if
  inverse_if-law P x (inl none) ne = absurd (ne (same_from_value _ _ none))
  inverse_if-law P x (inr some) ne = ((prime_field_laws P).inverts x (λ e. some (ap number e))).1

  pub inverse : IsPrime g.MODULUS → PrimeField M g → PrimeField M g
  inverse P x = inverse_if P x (cases_eq (number x) 0)

  pub inverse_law : (P : IsPrime g.MODULUS) (x : PrimeField M g) → x ≢ (prime_field {M = M} {g = g} P).zero
      → (prime_field {M = M} {g = g} P).times x (inverse P x) ≡ (prime_field {M = M} {g = g} P).one
  unfolding inverse
  inverse_law P x ne = inverse_if-law P x (cases_eq (number x) 0) ne
