-- The exponents of a supported size are those of the greatest powers that divide it.
use Rattle.std.proofs.Common.{◌≡◌, ◌≢◌, ℕ, ◌*◌, ◌/◌, ◌%◌, ◌^◌, ◌<◌, ◌≤◌, None, Some, sym, ap, subst, ◌∙◌, arith, mod-eq_of_lt}
use Rattle.std.proofs.Math.Nat.{mul-one, mul-div_cancel_left, mul-le-mul_left}
use Rattle.std.proofs.lemmas.Nat.{pow_pos, mul-lt}
use Rattle.ark_math.specs.Root.{Adicity, IsAdicity, Splits, IsSupported, IsGreatestPower, odd_base, odd_most}
use Rattle.ark_math.proofs.Domains.Sizes.{power_lt}
use Rattle.ark_math_transforms.proofs.Domains.MixedSizes.{exponent_of_two, base_positive}
use Rattle.ark_math.proofs.Numbers.Factors.{power_positive}
use Rattle.ark_math.proofs.Numbers.GreatestPowers.{greatest_power}

one_greatest : (k n e f : ℕ) → IsGreatestPower k n e → IsGreatestPower k n f → e ≡ f
one_greatest k n e f p q =
    let l : f ≤ e = p.greatest f q.divides in
    let m : e ≤ f = q.greatest e p.divides in
    omega arith

module _ (s : Adicity) (n : ℕ) (lawful : IsAdicity s) (size : IsSupported s n) where
  twos_are : (a : ℕ) → IsGreatestPower 2 n a → a ≡ size.0
  twos_are a p =
      let h = exponent_of_two s n size.0 size.1 lawful size.2.product in
      let q = greatest_power 2 size.0 h.0 (omega arith) (λ z. absurd (omega (arith, h.2, z))) in
      one_greatest 2 n a size.0 p (subst (λ m. IsGreatestPower 2 m size.0) (sym h.1) q)

  pub size_not_zero : n ≢ 0
  size_not_zero z =
      let base = power_positive (odd_base s.odd) size.1 (base_positive s lawful) in
      let some : 0 < 2 ^ size.0 * odd_base s.odd ^ size.1 = mul-lt 0 0 (2 ^ size.0) (odd_base s.odd ^ size.1) (pow_pos size.0) base in
      omega (arith, some, size.2.product, z)

  pub twos_below : size.0 < 64
  twos_below =
      let base = power_positive (odd_base s.odd) size.1 (base_positive s lawful) in
      let within : 2 ^ size.0 * 1 ≤ 2 ^ size.0 * odd_base s.odd ^ size.1 = mul-le-mul_left (2 ^ size.0) base in
      let fits : n < 2 ^ 64 = size.2.fits in
      power_lt size.0 64 (omega (arith, within, fits, size.2.product))

  pub few_twos : (a : ℕ) → IsGreatestPower 2 n a → a < 64
  few_twos a p = omega (arith, twos_below, twos_are a p)

  pub base_above_one : (base most : ℕ) → s.odd ≡ Some (base, most) → 2 ≤ base
  base_above_one base most some = omega (arith, (lawful (base, most) some).0)

  rest_is : (a : ℕ) → a ≡ size.0 → n / 2 ^ a ≡ odd_base s.odd ^ size.1
  rest_is a e = ap (λ t. n / 2 ^ t) e ∙ ap (λ m. m / 2 ^ size.0) size.2.product ∙ mul-div_cancel_left (odd_base s.odd ^ size.1) (pow_pos size.0)

  pub splits_without_base : (a : ℕ) → s.odd ≡ None → IsGreatestPower 2 n a → Splits s n a 0
  splits_without_base a none p =
      let within : size.1 ≤ odd_most s.odd = size.2.odds_within in
      let zero : odd_most s.odd ≡ 0 = ap odd_most none in
      let odds : size.1 ≡ 0 = omega (arith, within, zero) in
      subst (λ t. Splits s n t 0) (sym (twos_are a p)) (subst (λ o. Splits s n size.0 o) odds size.2)

  pub splits_with_base : (a b base most : ℕ) → s.odd ≡ Some (base, most) → IsGreatestPower 2 n a → (n / 2 ^ a ≢ 0 → IsGreatestPower base (n / 2 ^ a) b) → Splits s n a b
  splits_with_base a b base most some p q =
      let twos = twos_are a p in
      let three : 3 ≤ base = (lawful (base, most) some).0 in
      let is : odd_base s.odd ≡ base = ap odd_base some in
      let rest : n / 2 ^ a ≡ base ^ size.1 * 1 = rest_is a twos ∙ ap (λ q. q ^ size.1) is ∙ sym (mul-one (base ^ size.1)) in
      let above : 0 < base ^ size.1 = power_positive base size.1 (omega (arith, three)) in
      let positive : n / 2 ^ a ≢ 0 = λ z. omega (arith, rest, above, z) in
      let one : 1 % base ≡ 1 = mod-eq_of_lt (omega (arith, three)) in
      let greatest = greatest_power base size.1 1 (omega (arith, three)) (λ z. absurd (omega (arith, one, z))) in
      let odds = one_greatest base (base ^ size.1 * 1) b size.1 (subst (λ m. IsGreatestPower base m b) rest (q positive)) greatest in
      subst (λ t. Splits s n t b) (sym twos) (subst (λ o. Splits s n size.0 o) (sym odds) size.2)
