-- Euler's criterion, in the direction that computes: where v to the (p - 1) / 2 leaves p - 1, v is no square modulo p.
use Rattle.std.proofs.Common.{◌≡◌, ◌≢◌, ℕ, zero, suc, ◌*◌, ◌-◌, ◌/◌, ◌%◌, ◌^◌, ◌<◌, Option, sym, ap, ◌∙◌, arith, mod-eq_of_lt, lt_trans, lt_of_le_of_lt, div-le_self}
use Rattle.ark_math.specs.Field.{FieldOn, power}
use Rattle.ark_math.specs.Prime.{power_mod}
use Rattle.ark_math.specs.Root.{Adicity}
use Rattle.ark_math.proofs.Algebra.Powers.{times_zero, power-double, power_even}
use Rattle.ark_base.specs.PowerMod.{power_mod-is}
use Rattle.ark_base.specs.Modulus.{IsModulus}
use Rattle.ark_base.specs.Residues.{Numbering, residue_of, residues}
use Rattle.ark_base.specs.ResiduesLaws.{residues_laws, number_of_residue, number_of_zero, number_of_one, power_number, fermat}

module _ {F : Type 0} {b p : ℕ} {s : Adicity} {g two_adic : ℕ} {large : Option ℕ} {greatest : ℕ} (N : Numbering F p) (S : IsModulus b p s g two_adic large greatest) where
  abbrev R : FieldOn F
  R = residues N S.prime

  module _ (v : ℕ) (below : v < p) (odd : 2 < p) (euler : power_mod p b v ((p - 1) / 2) ≡ p - 1) where
    abbrev w : F
    w = residue_of N S.prime v

    less : (p - 1) / 2 < 2 ^ b
    less = lt_of_le_of_lt (div-le_self (p - 1) 2) (lt_trans (omega (arith, odd)) S.small)

    half_number : N.number (power R w ((p - 1) / 2)) ≡ p - 1
    half_number =
        power_number N S.prime w ((p - 1) / 2)
        ∙ ap (λ u. u ^ ((p - 1) / 2) % p) (number_of_residue N S.prime v ∙ mod-eq_of_lt below)
        ∙ sym (power_mod-is p b v ((p - 1) / 2) less) ∙ euler

    is_odd : p % 2 ≢ 0
    is_odd = S.prime.undivided 2 (omega arith) odd

    even : (p - 1) % 2 ≢ 1
    even e = is_odd (omega (arith, odd, e))

    square_at_half : (x : F) → R.times x x ≡ w → N.number (power R x (p - 1)) ≡ p - 1
    square_at_half x e =
        ap N.number (sym (power_even R (residues_laws N S.prime) x (p - 1) even) ∙ ap (λ y. power R y ((p - 1) / 2)) e) ∙ half_number

    zero_at : (n : ℕ) → 0 < n → power R R.zero n ≡ R.zero
    zero_at zero h = absurd (omega (arith, h))
    zero_at (suc n) h =
        let L = residues_laws N S.prime in
        L.times_comm R.zero (power R R.zero n) ∙ times_zero R L (power R R.zero n)

    -- a square's power is one, or zero
    no_other : (x : F) → R.times x x ≡ w → x ≢ R.zero → ⊥
    no_other x e ne =
        let one : 1 ≡ p - 1 = sym (number_of_one N S.prime) ∙ ap N.number (sym (fermat N S x ne)) ∙ square_at_half x e in
        omega (arith, odd, one)

    no_zero : (x : F) → R.times x x ≡ w → x ≢ R.zero
    no_zero x e z =
        let none : 0 ≡ p - 1 =
        sym (number_of_zero N S.prime) ∙ ap N.number (sym (ap (λ y. power R y (p - 1)) z ∙ zero_at (p - 1) (omega (arith, odd))))
        ∙ square_at_half x e in
        omega (arith, odd, none)

    pub no_square_by_power : (x : F) → R.times x x ≢ w
    no_square_by_power x e = no_other x e (no_zero x e)

    -- a root of minus one, where four divides p - 1
    pub root_of_minus_one : (p - 1) % 4 ≡ 0 → (i : F) × (R.times i i ≡ R.negated R.one)
    root_of_minus_one four =
        let quarter = (p - 1) / 4 in
        let half : quarter * 2 ≡ (p - 1) / 2 = omega (arith, four) in
        let minus_one : N.number (R.negated R.one) ≡ p - 1 =
        number_of_residue N S.prime (p - N.number R.one)
        ∙ ap (λ n. (p - n) % p) (number_of_one N S.prime) ∙ mod-eq_of_lt (omega (arith, odd)) in (
          power R w quarter,
          N.same _ _ (ap N.number (sym (power-double R (residues_laws N S.prime) w quarter) ∙ ap (power R w) half) ∙ half_number ∙ sym minus_one),
        )
