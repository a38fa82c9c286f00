-- The sizes of domains: powers of two, and the least one.
use Rattle.std.proofs.Common.{◌≡◌, ℕ, suc, ◌*◌, ◌/◌, ◌^◌, ◌<◌, ◌≤◌, max, inl, inr, sym, ap, ◌∙◌, subst, arith, Option, None, Some, refl, pow-suc, mul-one}
use Rattle.std.proofs.Math.Pow.{pow-lt}
use Rattle.std.proofs.Math.Nat.{pow-le-pow_right, pow-zero, one-le-pow}
use Rattle.std.proofs.lemmas.Bool.{cases_lt}
use Rattle.std.proofs.lemmas.Bool.Decides.{nat_tests}
use Rattle.std.specs.Int.{IsNextPowerOfTwo}
use Rattle.ark_math.specs.Root.{Adicity, Splits, adicity_of, odd_base}
use Rattle.ark_math.specs.Cost.{IsLog2Up, forward, counted_items}
use Rattle.ark_math.specs.Domain.{Kind, radix2, mixed_radix, IsSize, IsLeast, IsRadix2}

pub two_of : (two : ℕ) (base most : Option ℕ) → (adicity_of two base most).two ≡ two
two_of two None most = refl
two_of two (Some base) None = refl
two_of two (Some base) (Some most) = refl

-- powers of two rise
pub power_le : (a b : ℕ) → 2 ^ a ≤ 2 ^ b → a ≤ b
power_le a b h = elim (cases_lt b a) [
  | inl l ↦ let m : 2 ^ b < 2 ^ a = pow-lt l in absurd (omega arith)
  | inr l ↦ l
]

pub power_lt : (a b : ℕ) → 2 ^ a < 2 ^ b → a < b
power_lt a b h = elim (cases_lt a b) [
  | inl l ↦ l
  | inr l ↦ let m : 2 ^ b ≤ 2 ^ a = pow-le-pow_right (omega arith) l in absurd (omega arith)
]

-- the exponent between
pub power_between : (r k : ℕ) → 2 ^ r ≤ 2 ^ k → 2 ^ k < 2 * 2 ^ r → r ≡ k
power_between r k lo hi =
    let e : 2 ^ suc r ≡ 2 ^ r * 2 = pow-suc 2 r in
    let a : r ≤ k = power_le r k lo in
    let b : k < suc r = power_lt k (suc r) (omega arith) in
    omega arith

-- the next power of two is at or below each power of two that is at or above
pub next_at_most : (k p a b : ℕ) → p ≡ 2 ^ a → p / 2 < max 1 k → k ≤ 2 ^ b → p ≤ 2 ^ b
next_at_most k p a b e h l = elim (cases_lt b a) [
  | inl below ↦
      let m : 2 ^ suc b ≤ 2 ^ a = pow-le-pow_right (omega arith) below in
      let two : 2 ^ suc b ≡ 2 ^ b * 2 = pow-suc 2 b in
      let some : 1 ≤ 2 ^ b = one-le-pow b 2 (omega arith) in
      absurd (omega arith)
  | inr above ↦ let m : 2 ^ a ≤ 2 ^ b = pow-le-pow_right (omega arith) above in omega arith
]

module _ (k p r : ℕ) (next : IsNextPowerOfTwo k p) (lo : 2 ^ r ≤ p) (hi : p < 2 * 2 ^ r) where
  next_exponent : p ≡ 2 ^ r
  next_exponent =
      let e = next.0.1 in
      let f : r ≡ next.0.0 = power_between r next.0.0 (omega arith) (omega arith) in
      e ∙ ap (λ x. 2 ^ x) (sym f)

  pub next_log : IsLog2Up k r
  next_log = (subst (λ x. k ≤ x) next_exponent next.1, λ b l. power_le r b (subst (λ x. x ≤ 2 ^ b) next_exponent (next_at_most k p r b next_exponent next.2 l)))

-- the logarithms of what a transform goes by
pub log_of_power : (n e : ℕ) → n ≡ 2 ^ e → IsLog2Up n e
log_of_power n e h = (omega arith, λ k l. power_le e k (subst (λ x. x ≤ 2 ^ k) h l))

pub log_of_short : (n len e : ℕ) → len ≤ n / 4 → IsLog2Up len e → IsLog2Up (counted_items n len forward) e
log_of_short n len e l h =
    let is : counted_items n len forward ≡ len = grind (arith, nat_tests) in
    subst (λ x. IsLog2Up x e) (sym is) h

pub log_of_long : (n len e : ℕ) → n / 4 < len → n ≡ 2 ^ e → IsLog2Up (counted_items n len forward) e
log_of_long n len e l h =
    let is : counted_items n len forward ≡ n = grind (arith, nat_tests) in
    subst (λ x. IsLog2Up x e) (sym is) (log_of_power n e h)

pub log_within : (n len e levels : ℕ) → len ≤ n / 4 → n ≡ 2 ^ levels → IsLog2Up len e → e ≤ levels
log_within n len e levels l is h = h.1 levels (omega arith)

module _ (s : Adicity) where
  pub radix2_splits : (p e : ℕ) → p ≡ 2 ^ e → e ≤ s.two → p < 2 ^ 64 → Splits s p e 0
  radix2_splits p e is within fits =
      let one : odd_base s.odd ^ 0 ≡ 1 = pow-zero (odd_base s.odd) in
      let product : 2 ^ e * 1 ≡ 2 ^ e * odd_base s.odd ^ 0 = ap (λ x. 2 ^ e * x) (sym one) in
      record { product = omega arith; twos_within = within; odds_within = omega arith; fits = fits }

  pub size_power : (n : ℕ) → IsSize s radix2 n → (b : ℕ) × (n ≡ 2 ^ b) × (b ≤ s.two) × (n < 2 ^ 64)
  size_power n h =
      let one : odd_base s.odd ^ 0 ≡ 1 = pow-zero (odd_base s.odd) in
      let product : 2 ^ h.0 * odd_base s.odd ^ 0 ≡ 2 ^ h.0 * 1 = ap (λ x. 2 ^ h.0 * x) one in
      let f = h.1.product in
      (h.0, omega arith, h.1.twos_within, h.1.fits)

  module _ (k p r : ℕ) (next : IsNextPowerOfTwo k p) (lo : 2 ^ r ≤ p) (hi : p < 2 * 2 ^ r) where
    exponent : p ≡ 2 ^ r
    exponent = next_exponent k p r next lo hi

    pub next_splits : r < 64 → r ≤ s.two → Splits s p r 0
    next_splits few within =
        let small : 2 ^ r < 2 ^ 64 = pow-lt few in
        radix2_splits p r exponent within (subst (λ x. x < 2 ^ 64) (sym exponent) small)

    -- the next power of two is chosen where the field has a root of that order
    pub next_is_least : r < 64 → r ≤ s.two → IsLeast (IsSize s radix2) k p
    next_is_least few within =
        record {
          holds = (r, next_splits few within);
          above = next.1;
          least = λ m size l.
              let b = size_power m size in
              subst (λ x. p ≤ x) (sym b.1) (next_at_most k p r b.0 exponent next.2 (subst (λ x. k ≤ x) b.1 l));
        }

    -- and there is none where it has not
    pub none_past_adicity : s.two < r → (n : ℕ) → IsLeast (IsSize s radix2) k n → ⊥
    none_past_adicity past n least =
        let b = size_power n least.holds in
        let w = b.2 in
        let l : p ≤ 2 ^ b.0 = next_at_most k p r b.0 exponent next.2 (subst (λ x. k ≤ x) b.1 least.above) in
        let m : r ≤ b.0 = power_le r b.0 (subst (λ x. x ≤ 2 ^ b.0) exponent l) in
        omega arith

  pub none_past_word : (k : ℕ) → 2 ^ 63 < k → (n : ℕ) → IsLeast (IsSize s radix2) k n → ⊥
  none_past_word k past n least =
      let b = size_power n least.holds in
      let f = b.1 in
      let fits = b.3 in
      let above = least.above in
      let l : b.0 < 64 = power_lt b.0 64 (subst (λ x. x < 2 ^ 64) b.1 b.3) in
      let few : b.0 ≤ 63 = omega arith in
      let m : 2 ^ b.0 ≤ 2 ^ 63 = pow-le-pow_right (omega arith) few in
      omega arith

pub even_size : (s : Adicity) (n twos odds : ℕ) → Splits s n twos odds → odds ≡ 0 → IsSize s radix2 n
even_size s n twos odds h e = (twos, subst (λ o. Splits s n twos o) e h)

pub power_of_two : (s : Adicity) (n twos odds : ℕ) → n ≡ 2 ^ twos * odd_base s.odd ^ odds → odds ≡ 0 → n ≡ 2 ^ twos
power_of_two s n twos odds h e =
    let one : odd_base s.odd ^ odds ≡ 1 = ap (λ o. odd_base s.odd ^ o) e ∙ pow-zero (odd_base s.odd) in
    h ∙ ap (λ x. 2 ^ twos * x) one ∙ mul-one (2 ^ twos)

pub radix2_sizes : (s : Adicity) (k : ℕ) (kind : Kind) (n : ℕ) → IsRadix2 s k kind n → IsSize s kind n × (k ≤ n)
radix2_sizes s k radix2 n h = (h.holds, h.above)
radix2_sizes s k mixed_radix n h = absurd h

pub radix2_none : (s : Adicity) (k : ℕ) → ((n : ℕ) → IsLeast (IsSize s radix2) k n → ⊥) → (kind : Kind) (n : ℕ) → IsRadix2 s k kind n → ⊥
radix2_none s k none radix2 n h = none n h
radix2_none s k none mixed_radix n h = h

pub one_least : (P : ℕ → Type 0) (k m n : ℕ) → IsLeast P k m → IsLeast P k n → m ≡ n
one_least P k m n a b =
    let lo = a.least n b.holds b.above in
    let hi = b.least m a.holds a.above in
    omega arith

pub one_radix2_size : (s : Adicity) (k : ℕ) (a b : Kind) (m n : ℕ) → IsRadix2 s k a m → IsRadix2 s k b n → (a ≡ b) × (m ≡ n)
one_radix2_size s k radix2 radix2 m n f g = (refl, one_least (IsSize s radix2) k m n f g)
one_radix2_size s k radix2 mixed_radix m n f g = absurd g
one_radix2_size s k mixed_radix b m n f g = absurd f
