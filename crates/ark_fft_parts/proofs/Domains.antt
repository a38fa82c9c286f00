-- The domains of the parts, by the field's roots.
use Rattle.std.proofs.Common.{◌≡◌, ◌≢◌, ℕ, ◌+◌, ◌-◌, ◌*◌, ◌^◌, ◌<◌, ◌≤◌, sym, ◌∙◌, ap, subst, arith, pow-add}
use Rattle.std.proofs.Math.Nat.{pow-zero, pow-le-pow_right}
use Rattle.ark_math.specs.Field.{FieldOn, IsField, power}
use Rattle.ark_math.specs.Root.{Adicity, Splits, IsSupported, AreRoots, HasOrder, odd_base}
use Rattle.ark_math.specs.Domain.{Kind, domain_of}
use Rattle.ark_math.proofs.Algebra.NonZero.{positive, power_not_zero, times_not_zero}
use Rattle.ark_math.proofs.Domains.Sizes.{radix2_splits}
use Rattle.ark_math.proofs.Numbers.GreatestPowers.{few_factors}
use Rattle.ark_math.proofs.Roots.Order.{root_not_zero}

-- a size with no odd factor is a power of two
pub power_of_two : (s : Adicity) (n twos odds : ℕ) → Splits s n twos odds → odds ≡ 0 → n ≡ 2 ^ twos
power_of_two s n twos odds splits even =
    splits.product ∙ (ap (λ k. 2 ^ twos * odd_base s.odd ^ k) even ∙ (ap (λ k. 2 ^ twos * k) (pow-zero (odd_base s.odd)) ∙ omega arith))

-- a smaller power of two is supported too
pub smaller_splits : (s : Adicity) (n twos odds e : ℕ) → Splits s n twos odds → odds ≡ 0 → e ≤ twos → Splits s (2 ^ e) e 0
smaller_splits s n twos odds e splits even within =
    let is : n ≡ 2 ^ twos = power_of_two s n twos odds splits even in
    let less : 2 ^ e ≤ 2 ^ twos = pow-le-pow_right (omega arith) within in
    radix2_splits s (2 ^ e) e (omega arith) (omega (arith, splits.twos_within)) (omega (arith, splits.fits))

-- and its exponent is below 64
pub few_levels : (s : Adicity) (n twos odds e : ℕ) → Splits s n twos odds → odds ≡ 0 → e ≤ twos → e < 64
few_levels s n twos odds e splits even within =
    let is : n ≡ 2 ^ twos = power_of_two s n twos odds splits even in
    let whole : n ≡ 2 ^ twos * 1 = omega arith in
    let few : twos < 64 = few_factors 2 twos 1 n (omega arith) (omega arith) whole splits.fits in
    omega arith

-- by as many rows
pub size_in_parts : (n twos e : ℕ) → n ≡ 2 ^ twos → e ≤ twos → n ≡ 2 ^ e * 2 ^ (twos - e)
size_in_parts n twos e is within =
    let both : twos ≡ e + (twos - e) = omega arith in
    is ∙ (ap (λ k. 2 ^ k) both ∙ pow-add 2 e (twos - e))

module _ {F : Type 0} (K : FieldOn F) (N : IsField K) (s : Adicity) (root : ℕ → F) (R : AreRoots K s root) where
  -- the root of c elements is the power r of that of r * c
  pub part_root : (n r c : ℕ) (w v : F) → n ≡ r * c → IsSupported s n → IsSupported s c → w ≡ root n → v ≡ root c → v ≡ power K w r
  part_root n r c w v size whole part of_whole of_part =
      let turned : r * c ≡ c * r = omega arith in
      let same : n ≡ c * r = size ∙ turned in
      of_part ∙ (R.tower c r part (subst (IsSupported s) same whole) ∙ ap (λ x. power K x r) (sym (of_whole ∙ ap root same)))

  -- the root of a supported size is one of that order
  pub order_of : (n : ℕ) (w : F) → IsSupported s n → w ≡ root n → HasOrder K w n
  order_of n w whole is = subst (λ x. HasOrder K x n) (sym is) (R.order n whole)

  pub some_items : (n : ℕ) → IsSupported s n → 0 < n
  some_items n whole = positive K N n (R.invertible n whole)

  pub element_not_zero : (n : ℕ) (w h : F) (i : ℕ) → IsSupported s n → w ≡ root n → h ≢ K.zero → K.times h (power K w i) ≢ K.zero
  element_not_zero n w h i whole is ne =
      times_not_zero K N h (power K w i) ne (power_not_zero K N w i (root_not_zero K N w n (order_of n w whole is) (some_items n whole)))

-- a domain by its size, root and offset
pub same_part : {F : Type 0} (kind : Kind) {m n : ℕ} {v w o p : F} → m ≡ n → v ≡ w → o ≡ p → domain_of kind m v o ≡ domain_of kind n w p
same_part kind size roots offsets = λ i. record { kind = kind; size = size i; root = roots i; offset = offsets i }
