-- The counts of a transform are told by its size, kind and length alone.
use Rattle.std.proofs.Common.{◌≡◌, ℕ, suc, ◌*◌, ◌/◌, ◌^◌, ◌%◌, ◌<◌, ◌≤◌, Option, None, Some, refl, sym, ap, subst, ◌∙◌, arith, ⊎_elim}
use Rattle.std.proofs.Math.Nat.{eq_of_mul-eq-mul_left, mul-le-mul_left, pow-suc, pow-le-pow_right}
use Rattle.std.proofs.lemmas.Bool.{cases_lt}
use Rattle.std.proofs.lemmas.Nat.{pow_pos}
use Rattle.ark_math.specs.Root.{Adicity, IsAdicity, Splits, odd_base, odd_most, IsGreatestPower}
use Rattle.ark_math.specs.Domain.{Kind, radix2, mixed_radix, IsExponentOfTwo}
use Rattle.ark_math.specs.Cost.{Direction, GoesBy}
use Rattle.ark_math.proofs.Numbers.Factors.{power_positive}
use Rattle.ark_math_transforms.proofs.Domains.MixedSizes.{exponent_of_two}
use Rattle.ark_math.proofs.Numbers.GreatestPowers.{greatest_power, one_log2}

-- powers of a base of at least 2 rise
power_rises : (b o p : ℕ) → 2 ≤ b → o < p → b ^ o < b ^ p
power_rises b o p two less =
    let more : b ^ (suc o) ≤ b ^ p = pow-le-pow_right (omega arith) less in
    let pos : 0 < b ^ o = power_positive b o (omega arith) in
    let twice : b ^ o * 2 ≤ b ^ o * b = mul-le-mul_left (b ^ o) two in
    omega (arith, pow-suc b o)

one_power : (b o p : ℕ) → 2 ≤ b → b ^ o ≡ b ^ p → o ≡ p
one_power b o p two e = ⊎_elim
    (λ (l : o < p). let h = power_rises b o p two l in absurd (omega arith))
    (λ (m : p ≤ o). ⊎_elim
    (λ (l : p < o). let h = power_rises b p o two l in absurd (omega arith))
    (λ (l : o ≤ p). omega arith)
    (cases_lt p o))
    (cases_lt o p)

is_greatest : (n e : ℕ) → IsExponentOfTwo n e → IsGreatestPower 2 n e
is_greatest n e h = subst (λ m. IsGreatestPower 2 m e) (sym h.1) (greatest_power 2 e h.0 (omega arith) (λ z. absurd (omega (arith, h.2, z))))

one_exponent : (n e f : ℕ) → IsExponentOfTwo n e → IsExponentOfTwo n f → e ≡ f
one_exponent n e f h k =
    let a = is_greatest n e h in
    let b = is_greatest n f k in
    let l : f ≤ e = a.greatest f b.divides in
    let m : e ≤ f = b.greatest e a.divides in
    omega arith

one_odds : (o : Option (ℕ × ℕ)) (a b : ℕ) → ((p : ℕ × ℕ) → o ≡ Some p → (3 ≤ p.0) × (p.0 % 2 ≡ 1)) → a ≤ odd_most o → b ≤ odd_most o → odd_base o ^ a ≡ odd_base o ^ b → a ≡ b
one_odds None a b h l m e = omega (arith, l, m)
one_odds (Some p) a b h l m e = one_power p.0 a b (omega (arith, (h p refl).0)) e

-- a size splits in one way
pub one_split : (s : Adicity) (n a b c d : ℕ) → IsAdicity s → Splits s n a b → Splits s n c d → (a ≡ c) × (b ≡ d)
one_split s n a b c d lawful h k =
    let twos : a ≡ c = one_exponent n a c (exponent_of_two s n a b lawful h.product) (exponent_of_two s n c d lawful k.product) in
    let same : 2 ^ a * odd_base s.odd ^ b ≡ 2 ^ a * odd_base s.odd ^ d = sym h.product ∙ k.product ∙ ap (λ t. 2 ^ t * odd_base s.odd ^ d) (sym twos) in
    (twos, one_odds s.odd b d lawful h.odds_within k.odds_within (eq_of_mul-eq-mul_left (2 ^ a) (pow_pos a) (odd_base s.odd ^ b) (odd_base s.odd ^ d) same))

-- there is one count of butterflies and of steps
pub one_cost : (s : Adicity) (kind : Kind) (n len : ℕ) (direction : Direction) (b t b2 t2 : ℕ) → IsAdicity s → GoesBy s kind n len direction b t → GoesBy s kind n len direction b2 t2 → (b ≡ b2) × (t ≡ t2)
one_cost s radix2 n len direction b t b2 t2 lawful (e, log, is, none) (f, log2, is2, none2) = (is ∙ ap (λ x. n / 2 * x) (one_log2 _ e f log log2) ∙ sym is2, none ∙ sym none2)
one_cost s mixed_radix n len direction b t b2 t2 lawful (e, o, h, is, steps) (f, p, k, is2, steps2) =
    let same = one_split s n e o f p lawful h k in
    (is ∙ ap (λ x. x * n / 2) same.0 ∙ sym is2, steps ∙ ap (λ x. x * n / odd_base s.odd) same.1 ∙ sym steps2)
