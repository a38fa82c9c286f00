-- The least size of a mixed domain: the least of those with each power of the base.
use Rattle.std.proofs.Common.{◌≡◌, ℕ, suc, zero, ◌+◌, ◌*◌, ◌%◌, ◌^◌, ◌<◌, ◌≤◌, min, inl, inr, sym, ap, ap₂, ◌∙◌, subst, arith, Option, None, Some, IsSome, IfSome, IfNone, MatchOption, refl}
use Rattle.std.proofs.Math.Nat.{pow-zero, pow-suc, pow-le-pow_right, pow-le-pow_left, one-le-pow, mul-le-mul_left, mul-le-mul_right}
use Rattle.std.proofs.lemmas.Bool.{cases_lt, cases_eq}
use Rattle.std.proofs.lemmas.Nat.{mul-mod}
use Rattle.std.proofs.lemmas.Grind.{div_ceil_times}
use Rattle.std.specs.Int.{IsNextPowerOfTwo, div_ceil}
use Rattle.ark_math.specs.Root.{Adicity, IsAdicity, Splits, odd_base, odd_most}
use Rattle.ark_math.specs.Domain.{Kind, radix2, mixed_radix, IsSize, IsSizeWith, IsLeast, HasNone, IsMixedRadix, IsExponentOfTwo}
use Rattle.ark_math.proofs.Domains.Sizes.{power_between, power_le, power_lt, next_at_most, one_least}

-- ---- the sizes with one power of the base

-- a quotient rounded up is the least that gives so much
ceil_at_most : (k d x : ℕ) → 0 < d → k ≤ x * d → div_ceil k d ≤ x
ceil_at_most k d x some l =
    let b = div_ceil_times k d some in
    elim (cases_lt x (div_ceil k d)) [
      | inl h ↦
          let m : suc x * d ≤ div_ceil k d * d = mul-le-mul_right d h in
          let e : suc x * d ≡ x * d + d = omega arith in
          absurd (omega arith)
      | inr h ↦ h
    ]

module _ (s : Adicity) (k odds : ℕ) where
  abbrev part : ℕ
  part = odd_base s.odd ^ odds

  -- none where the power alone is past the word
  pub none_past_power : (p : ℕ) → p ≡ part → 2 ^ 64 ≤ p → HasNone (IsSizeWith s odds) k
  none_past_power p is past m size =
      let some : 1 ≤ 2 ^ size.0 = one-le-pow size.0 2 (omega arith) in
      let l : 1 * p ≤ 2 ^ size.0 * p = mul-le-mul_right p some in
      let e : m ≡ 2 ^ size.0 * p = size.1.product ∙ ap (λ x. 2 ^ size.0 * x) (sym is) in
      let f = size.1.fits in
      absurd (omega arith)

  module _ (p : ℕ) (is : p ≡ part) (some : 0 < p) where
    at_size : (m : ℕ) (size : IsSizeWith s odds m) → m ≡ 2 ^ size.0 * p
    at_size m size = size.1.product ∙ ap (λ x. 2 ^ size.0 * x) (sym is)

    -- the twos of a size at or above k are enough
    enough : (m : ℕ) (size : IsSizeWith s odds m) → k ≤ m → div_ceil k p ≤ 2 ^ size.0
    enough m size l = ceil_at_most k p (2 ^ size.0) some (subst (λ x. k ≤ x) (at_size m size) l)

    none_above : ((m : ℕ) (size : IsSizeWith s odds m) → k ≤ m → ⊥) → HasNone (IsSizeWith s odds) k
    none_above h m size = elim (cases_lt m k) [
      | inl l ↦ l
      | inr l ↦ absurd (h m size l)
    ]

    pub none_past_word : 2 ^ 63 < div_ceil k p → HasNone (IsSizeWith s odds) k
    none_past_word past = none_above
        (λ m size l.
        let f = enough m size l in
        let lt : 2 ^ 63 < 2 ^ size.0 = omega arith in
        let b : 63 < size.0 = power_lt 63 size.0 lt in
        let c : 2 ^ 64 ≤ 2 ^ size.0 = pow-le-pow_right (omega arith) b in
        let d : 2 ^ size.0 * 1 ≤ 2 ^ size.0 * p = mul-le-mul_left (2 ^ size.0) some in
        let e = at_size m size in
        let fits = size.1.fits in
        omega arith)

    module _ (t r : ℕ) (next : IsNextPowerOfTwo (div_ceil k p) t) (lo : 2 ^ r ≤ t) (hi : t < 2 * 2 ^ r) where
      exponent : t ≡ 2 ^ r
      exponent =
          let e = next.0.1 in
          let f : r ≡ next.0.0 = power_between r next.0.0 (omega arith) (omega arith) in
          e ∙ ap (λ x. 2 ^ x) (sym f)

      twos_at_most : (m : ℕ) (size : IsSizeWith s odds m) → k ≤ m → t ≤ 2 ^ size.0
      twos_at_most m size l = next_at_most (div_ceil k p) t r size.0 exponent next.2 (enough m size l)

      pub none_past_adicity : s.two < r → HasNone (IsSizeWith s odds) k
      none_past_adicity past = none_above
          (λ m size l.
          let b : r ≤ size.0 = power_le r size.0 (subst (λ x. x ≤ 2 ^ size.0) exponent (twos_at_most m size l)) in
          let w = size.1.twos_within in
          omega arith)

      size_at_most : (m : ℕ) (size : IsSizeWith s odds m) → k ≤ m → t * p ≤ m
      size_at_most m size l = subst (λ x. t * p ≤ x) (sym (at_size m size)) (mul-le-mul_right p (twos_at_most m size l))

      pub none_past_product : 2 ^ 64 ≤ t * p → HasNone (IsSizeWith s odds) k
      none_past_product past = none_above
          (λ m size l.
          let b = size_at_most m size l in
          let fits = size.1.fits in
          omega arith)

      pub splits_with : r ≤ s.two → odds ≤ odd_most s.odd → t * p < 2 ^ 64 → Splits s (t * p) r odds
      splits_with within few fits = record {
        product = ap (λ x. x * p) exponent ∙ ap (λ x. 2 ^ r * x) is;
        twos_within = within;
        odds_within = few;
        fits = fits;
      }

      pub least_with : r ≤ s.two → odds ≤ odd_most s.odd → t * p < 2 ^ 64 → IsLeast (IsSizeWith s odds) k (t * p)
      least_with within few fits = record {
        holds = (r, splits_with within few fits);
        above =
            let a = (div_ceil_times k p some).0 in
            let n : div_ceil k p ≤ t = next.1 in
            let b : div_ceil k p * p ≤ t * p = mul-le-mul_right p n in
            omega arith;
        least = size_at_most;
      }

-- ---- the least of all

-- the sizes with less than b factors of the base
abbrev IsSizeBelow : Adicity → ℕ → ℕ → Type 0
IsSizeBelow s b n = (twos : ℕ) × (odds : ℕ) × (odds < b) × Splits s n twos odds

-- the least of them, with its exponents, where there is one
abbrev pub IsLeastBelow : Adicity → ℕ → ℕ → Option (ℕ × ℕ × ℕ) → Type 0
IsLeastBelow s k b o = MatchOption o (HasNone (IsSizeBelow s b) k) (λ p. IsLeast (IsSizeBelow s b) k p.0 × Splits s p.0 p.1 p.2)

abbrev pub IsImproved : ℕ → Option (ℕ × ℕ × ℕ) → Type 0
IsImproved n o = MatchOption o Unit (λ p. n < p.0)

module _ (s : Adicity) (k : ℕ) where
  pub least_below-none : IsLeastBelow s k 0 None
  least_below-none m size = absurd (omega (arith, size.2))

  below : (b m : ℕ) → IsSizeBelow s b m → IsSizeBelow s (b + 1) m
  below b m size = (size.0, size.1, omega (arith, size.2), size.3)

  here : (b m : ℕ) → IsSizeWith s b m → IsSizeBelow s (b + 1) m
  here b m size = (size.0, b, omega arith, size.1)

  data Either (b m : ℕ) : Type 0 where
    before : IsSizeBelow s b m → Either b m
    now : IsSizeWith s b m → Either b m

  either : (b m : ℕ) → IsSizeBelow s (b + 1) m → Either b m
  either b m size = elim (cases_eq size.1 b) [
    | inl e ↦ now (size.0, subst (λ o. Splits s m size.0 o) e size.3)
    | inr ne ↦ before (size.0, size.1, omega (arith, size.2), size.3)
  ]

  pub least_below-same : (b : ℕ) (o : Option (ℕ × ℕ × ℕ)) → HasNone (IsSizeWith s b) k → IsLeastBelow s k b o → IsLeastBelow s k (b + 1) o
  least_below-same b None none h = λ m size. elim (either b m size) [
    | before w ↦ h m w
    | now w ↦ none m w
  ]
  least_below-same b (Some p) none h = (
    record {
      holds = below b p.0 h.0.holds;
      above = h.0.above;
      least = λ m size l. elim (either b m size) [
        | before w ↦ h.0.least m w l
        | now w ↦ let f = none m w in absurd (omega arith)
      ];
    },
    h.1,
  )

  pub least_below-more : (b n twos : ℕ) (o : Option (ℕ × ℕ × ℕ)) → IsLeast (IsSizeWith s b) k n → Splits s n twos b → IsImproved n o → IsLeastBelow s k b o → IsLeastBelow s k (b + 1) (Some (n, twos, b))
  least_below-more b n twos None l e i h = (
    record {
      holds = here b n l.holds;
      above = l.above;
      least = λ m size a. elim (either b m size) [
        | before w ↦ let f = h m w in absurd (omega arith)
        | now w ↦ l.least m w a
      ];
    },
    e,
  )
  least_below-more b n twos (Some p) l e i h = (
    record {
      holds = here b n l.holds;
      above = l.above;
      least = λ m size a. elim (either b m size) [
        | before w ↦ let f = h.0.least m w a in omega arith
        | now w ↦ l.least m w a
      ];
    },
    e,
  )

  pub least_below-kept : (b n : ℕ) (o : Option (ℕ × ℕ × ℕ)) → IsLeast (IsSizeWith s b) k n → (IsImproved n o → ⊥) → IsLeastBelow s k b o → IsLeastBelow s k (b + 1) o
  least_below-kept b n None l i h = absurd (i tt)
  least_below-kept b n (Some p) l i h = (
    record {
      holds = below b p.0 h.0.holds;
      above = h.0.above;
      least = λ m size a. elim (either b m size) [
        | before w ↦ h.0.least m w a
        | now w ↦
            let f = l.least m w a in
            elim (cases_lt n p.0) [
              | inl lt ↦ absurd (i lt)
              | inr le ↦ omega arith
            ]
      ];
    },
    h.1,
  )

  -- no size has more than 64 factors of the base
  few_odds : (m twos odds : ℕ) → 2 ≤ odd_base s.odd → Splits s m twos odds → odds ≤ 64
  few_odds m twos odds base h = elim (cases_lt 64 odds) [
    | inl past ↦
        let enough : 64 ≤ odds = omega arith in
        let a : 2 ^ 64 ≤ 2 ^ odds = pow-le-pow_right (omega arith) enough in
        let b : 2 ^ odds ≤ odd_base s.odd ^ odds = pow-le-pow_left base odds in
        let some : 1 ≤ 2 ^ twos = one-le-pow twos 2 (omega arith) in
        let c : 1 * odd_base s.odd ^ odds ≤ 2 ^ twos * odd_base s.odd ^ odds = mul-le-mul_right (odd_base s.odd ^ odds) some in
        let e = h.product in
        let f = h.fits in
        absurd (omega arith)
    | inr few ↦ few
  ]

  all_below : (b m : ℕ) → 2 ≤ odd_base s.odd → min (odd_most s.odd) 64 < b → IsSize s mixed_radix m → IsSizeBelow s b m
  all_below b m base l size =
      let few = few_odds m size.1.0 size.1.1 base size.1.2 in
      let w = size.1.2.odds_within in
      (size.1.0, size.1.1, omega arith, size.1.2)

  module _ (b : ℕ) (base : 2 ≤ odd_base s.odd) (l : min (odd_most s.odd) 64 < b) where
    pub least_of_all : (o : Option (ℕ × ℕ × ℕ)) → IsSome s.odd → IsLeastBelow s k b o → IfSome o (λ p. IsLeast (IsSize s mixed_radix) k p.0)
    least_of_all None based h = tt
    least_of_all (Some p) based h = record {
      holds = (based, (p.1, p.2, h.1));
      above = h.0.above;
      least = λ m size a. h.0.least m (all_below b m base l size) a;
    }

    pub none_of_all : (o : Option (ℕ × ℕ × ℕ)) → IsLeastBelow s k b o → IfNone o (HasNone (IsSize s mixed_radix) k)
    none_of_all None h = λ m size. h m (all_below b m base l size)
    none_of_all (Some p) h = tt

-- a base is at least 2
pub base_above : (o : Option (ℕ × ℕ)) (p : ℕ × ℕ) → ((p : ℕ × ℕ) → o ≡ Some p → (3 ≤ p.0) × (p.0 % 2 ≡ 1)) → o ≡ Some p → 2 ≤ odd_base o
base_above o p h e = let l = (h p e).0 in subst (λ x. 2 ≤ odd_base x) (sym e) (omega arith)

-- ---- what the types choose

pub mixed_sizes : (s : Adicity) (k : ℕ) (kind : Kind) (n : ℕ) → IsMixedRadix s k kind n → IsSize s kind n × (k ≤ n)
mixed_sizes s k radix2 n h = absurd h
mixed_sizes s k mixed_radix n h = (h.holds, h.above)

pub mixed_none : (s : Adicity) (k : ℕ) → HasNone (IsSize s mixed_radix) k → (kind : Kind) (n : ℕ) → IsMixedRadix s k kind n → ⊥
mixed_none s k none radix2 n h = h
mixed_none s k none mixed_radix n h = let f = none n h.holds in let a = h.above in omega arith

pub one_mixed_size : (s : Adicity) (k : ℕ) (a b : Kind) (m n : ℕ) → IsMixedRadix s k a m → IsMixedRadix s k b n → (a ≡ b) × (m ≡ n)
one_mixed_size s k radix2 b m n f g = absurd f
one_mixed_size s k mixed_radix radix2 m n f g = absurd g
one_mixed_size s k mixed_radix mixed_radix m n f g = (refl, one_least (IsSize s mixed_radix) k m n f g)

-- ---- the exponent of two in a size

odd_times : (x y : ℕ) → x % 2 ≡ 1 → y % 2 ≡ 1 → (x * y) % 2 ≡ 1
odd_times x y e f = mul-mod x y 2 ∙ ap₂ (λ a b. (a * b) % 2) e f

odd_power : (q k : ℕ) → q % 2 ≡ 1 → q ^ k % 2 ≡ 1
odd_power q zero e = ap (λ x. x % 2) (pow-zero q)
odd_power q (suc k) e = ap (λ x. x % 2) (pow-suc q k) ∙ odd_times (q ^ k) q (odd_power q k e) e

odd_base_is_odd : (o : Option (ℕ × ℕ)) → ((p : ℕ × ℕ) → o ≡ Some p → (3 ≤ p.0) × (p.0 % 2 ≡ 1)) → odd_base o % 2 ≡ 1
odd_base_is_odd None h = refl
odd_base_is_odd (Some p) h = (h p refl).1

pub exponent_of_two : (s : Adicity) (n twos odds : ℕ) → IsAdicity s → n ≡ 2 ^ twos * odd_base s.odd ^ odds → IsExponentOfTwo n twos
exponent_of_two s n twos odds h e = (odd_base s.odd ^ odds, e, odd_power (odd_base s.odd) odds (odd_base_is_odd s.odd h))

-- a base is positive
pub base_positive : (s : Adicity) → IsAdicity s → 0 < odd_base s.odd
base_positive s h = let e = odd_base_is_odd s.odd h in odd_positive (odd_base s.odd) e
  where
    odd_positive : (x : ℕ) → x % 2 ≡ 1 → 0 < x
    odd_positive zero e = absurd (omega arith)
    odd_positive (suc x) e = omega arith
