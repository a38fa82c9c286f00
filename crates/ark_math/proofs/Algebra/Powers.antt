-- Powers, and roots of one.
use Rattle.std.proofs.Common.{◌≡◌, ◌≢◌, ℕ, zero, suc, ◌+◌, ◌*◌, ◌/◌, ◌%◌, ◌<◌, sym, ◌∙◌, ap, refl, arith}
use Rattle.ark_math.specs.Field.{FieldOn, IsField, power, natural, minus}
use Rattle.ark_math.specs.Root.{HasOrder}
use Rattle.ark_math.proofs.Algebra.Groups.{itself_is_module, scale_zero, one_times}
use Rattle.ark_math.proofs.Algebra.Solve.{◌⊕◌, ◌⊖◌, ◌⊗◌, unit, nought, negative, raised}
use Rattle.ark_math.proofs.Algebra.Ring.{ring1, ring1_by, ring2, ring3, ring4}

module _ {F : Type 0} (K : FieldOn F) (L : IsField K) where
  pub power-one : (n : ℕ) → power K K.one n ≡ K.one
  power-one zero = refl
  power-one (suc n) = one_times K L (power K K.one n) ∙ power-one n

  pub power-add : (x : F) (m n : ℕ) → power K x (m + n) ≡ K.times (power K x m) (power K x n)
  power-add x zero n =
      let e : 0 + n ≡ n = omega arith in
      ap (power K x) e ∙ sym (one_times K L (power K x n))
  power-add x (suc m) n =
      let e : suc m + n ≡ suc (m + n) = omega arith in
      ap (power K x) e ∙ (ap (K.times x) (power-add x m n) ∙ sym (L.times_assoc x (power K x m) (power K x n)))

  pub power-mul : (x : F) (m n : ℕ) → power K x (m * n) ≡ power K (power K x m) n
  power-mul x m zero =
      let e : m * 0 ≡ 0 = omega arith in
      ap (power K x) e
  power-mul x m (suc n) =
      let e : m * suc n ≡ m + m * n = omega arith in
      ap (power K x) e ∙ (power-add x m (m * n) ∙ ap (K.times (power K x m)) (power-mul x m n))

  pub power_comm : (x : F) (m n : ℕ) → power K (power K x m) n ≡ power K (power K x n) m
  power_comm x m n =
      let e : m * n ≡ n * m = omega arith in
      sym (power-mul x m n) ∙ (ap (power K x) e ∙ power-mul x n m)

  pub power-double : (x : F) (n : ℕ) → power K x (n * 2) ≡ K.times (power K x n) (power K x n)
  power-double x n =
      let e : n * 2 ≡ n + n = omega arith in
      ap (power K x) e ∙ power-add x n n

  pub times_zero : (x : F) → K.times x K.zero ≡ K.zero
  times_zero x = scale_zero (itself_is_module K L) x

  -- no divisors of zero
  pub zero_factor : (d s : F) → d ≢ K.zero → K.times d s ≡ K.zero → s ≡ K.zero
  zero_factor d s ne h =
      let i = L.inverts d ne in
      sym (L.times_one s)
      ∙ ap (K.times s) (sym i.1)
      ∙ ring3 K L (λ s d y. (s ⊗ (d ⊗ y), y ⊗ (d ⊗ s))) refl s d i.0
      ∙ ap (K.times i.0) h
      ∙ times_zero i.0

  -- a root of one that isn't one is minus one
  is_negated_one : (x : F) → K.times x x ≡ K.one → x ≢ K.one → x ≡ K.negated K.one
  is_negated_one x h ne =
      let z : K.plus x K.one ≡ K.zero =
      zero_factor (minus K x K.one) (K.plus x K.one)
      (λ e. ne (ring1_by K L (λ x. (x, unit, x ⊖ unit, nought)) refl x e))
      (ring1_by K L (λ x. ((x ⊖ unit) ⊗ (x ⊕ unit), nought, x ⊗ x, unit)) refl x h) in
      ring1_by K L (λ x. (x, negative unit, x ⊕ unit, nought)) refl x z

  -- the power halfway to the order
  pub half_of_order : (w : F) (h : ℕ) → 0 < h → HasOrder K w (h * 2) → power K w h ≡ K.negated K.one
  half_of_order w h pos o =
      is_negated_one (power K w h) (sym (power-double w h) ∙ o.one) (o.least h pos (omega arith))

  pub negated_one_even : (x : F) (i : ℕ) → x ≡ K.negated K.one → power K x (2 * i) ≡ K.one
  negated_one_even x i e =
      power-mul x 2 i
      ∙ ap (λ t. power K t i) (ap (λ t. power K t 2) e ∙ ring1 K L (λ x. (raised (negative unit) 2, unit)) refl K.one)
      ∙ power-one i

  pub negated_one_odd : (x : F) (i : ℕ) → x ≡ K.negated K.one → power K x (2 * i + 1) ≡ K.negated K.one
  negated_one_odd x i e =
      let n : 2 * i + 1 ≡ suc (2 * i) = omega arith in
      ap (power K x) n ∙ (ap (K.times x) (negated_one_even x i e) ∙ (L.times_one x ∙ e))

  pub power-times : (x y : F) (n : ℕ) → power K (K.times x y) n ≡ K.times (power K x n) (power K y n)
  power-times x y zero = sym (L.times_one K.one)
  power-times x y (suc n) =
      ap (K.times (K.times x y)) (power-times x y n) ∙ ring4 K L (λ x y p q. ((x ⊗ y) ⊗ (p ⊗ q), (x ⊗ p) ⊗ (y ⊗ q))) refl x y _ _

  pub powers_inverse : (x y : F) (n : ℕ) → K.times x y ≡ K.one → K.times (power K x n) (power K y n) ≡ K.one
  powers_inverse x y n e = sym (power-times x y n) ∙ (ap (λ t. power K t n) e ∙ power-one n)

  pub natural-add : (m n : ℕ) → natural K (m + n) ≡ K.plus (natural K m) (natural K n)
  natural-add m zero =
      let e : m + 0 ≡ m = omega arith in
      ap (natural K) e ∙ sym (L.plus_zero (natural K m))
  natural-add m (suc n) =
      let e : m + suc n ≡ suc (m + n) = omega arith in
      ap (natural K) e ∙ (ap (λ t. K.plus t K.one) (natural-add m n) ∙ L.plus_assoc (natural K m) (natural K n) K.one)

  pub natural-mul : (m n : ℕ) → natural K (m * n) ≡ K.times (natural K m) (natural K n)
  natural-mul m zero =
      let e : m * 0 ≡ 0 = omega arith in
      ap (natural K) e ∙ sym (times_zero (natural K m))
  natural-mul m (suc n) =
      let e : m * suc n ≡ m * n + m = omega arith in
      ap (natural K) e
      ∙ natural-add (m * n) m
      ∙ ap (λ t. K.plus t (natural K m)) (natural-mul m n)
      ∙ ring2 K L (λ m n. (m ⊗ n ⊕ m, m ⊗ (n ⊕ unit))) refl (natural K m) (natural K n)

  square_power : (x : F) (m : ℕ) → power K (K.times x x) m ≡ power K x (2 * m)
  square_power x m = ap (λ y. power K (K.times x y) m) (sym (L.times_one x)) ∙ sym (power-mul x 2 m)

  -- the steps of a power by squaring
  pub power_even : (x : F) (n : ℕ) → n % 2 ≢ 1 → power K (K.times x x) (n / 2) ≡ power K x n
  power_even x n h = square_power x (n / 2) ∙ ap (power K x) (omega arith)

  pub power_odd : (r x : F) (n : ℕ) → n % 2 ≡ 1 → K.times (K.times r x) (power K (K.times x x) (n / 2)) ≡ K.times r (power K x n)
  power_odd r x n h =
      let e : suc (2 * (n / 2)) ≡ n = omega arith in
      L.times_assoc r x (power K (K.times x x) (n / 2))
      ∙ ap (λ y. K.times r (K.times x y)) (square_power x (n / 2))
      ∙ ap (λ k. K.times r (power K x k)) e
