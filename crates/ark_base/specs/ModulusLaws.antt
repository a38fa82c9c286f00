-- What a modulus shows of its prime and its generator: the tests that compute, and what they tell.
use Rattle.std.proofs.Common.{◌≡◌, ℕ, zero, suc, ◌-◌, ◌*◌, ◌/◌, ◌<◌, ◌≤◌, ◌%◌, ◌^◌, Option, None, Some, Bool, true, ◌==◌, ◌&&◌, ◌||◌, inl, inr, arith, ap, sym, subst, ◌∙◌, mod-lt, le_of_lt, mul_comm, mul_right_comm, zero-mul, pow-suc}
use Rattle.std.proofs.Math.Nat.{mod-mod_of_dvd, zero-mod, mul-mod_left, mod-add-div', div-lt_self}
use Rattle.std.proofs.lemmas.Nat.Gcd.{dvd_of_mod-eq-zero}
use Rattle.std.proofs.lemmas.Bool.{and_parts, or_cases, eqb-true, leb-true, cases_eq}
use Rattle.ark_math.specs.Root.{Adicity, odd_base, odd_most, greatest_size}
use Rattle.ark_math.specs.Prime.{IsPrime, power_mod}
use Rattle.ark_base.specs.Generator.{for_odd}
use Rattle.ark_math.proofs.Numbers.Prime.{prime_from_test}
use Rattle.ark_base.specs.PowerMod.{power_mod-is}
use Rattle.ark_base.specs.GeneratorLaws.{is_odd_base}
use Rattle.ark_base.specs.Lucas.{is_small_prime, Parts, primes_of, are_primes, passes, prime_from_parts, small_from_parts, generator_from_parts}
use Rattle.ark_base.specs.Modulus.{AreSizes, IsModulus, power_below}

-- the sizes of domains
abbrev pub are_sizes : ℕ → Adicity → Bool
are_sizes p s =
    (p - 1) % greatest_size s == 0
    && (is_odd_base s.odd
    && (odd_most s.odd == 0 || is_small_prime (odd_base s.odd)))

odd_of : (o : Option (ℕ × ℕ)) → is_odd_base o ≡ true → (p : ℕ × ℕ) → o ≡ Some p → (3 ≤ p.0) × (p.0 % 2 ≡ 1)
odd_of None t p e = cc
odd_of (Some q) t p e =
    let same : q ≡ p = cc in
    let parts = and_parts _ _ t in
    subst (λ x. (3 ≤ x.0) × (x.0 % 2 ≡ 1)) same (leb-true 3 q.0 parts.0, eqb-true _ _ parts.1)

sizes_from_test : (p : ℕ) (s : Adicity) → are_sizes p s ≡ true → AreSizes p s
sizes_from_test p s t =
    let outer = and_parts _ _ t in
    let inner = and_parts _ _ outer.1 in
    record {
      divided = eqb-true _ _ outer.0;
      odd = odd_of s.odd inner.0;
      base = elim (or_cases _ _ inner.1) [ inl z ↦ inl (eqb-true _ _ z) | inr d ↦ inr (prime_from_test _ _ d) ];
    }

pub power_below-is : (b p x n : ℕ) → n < 2 ^ b → power_below b p x n ≡ x ^ n % p
unfolding power_below
power_below-is b p x n h = power_mod-is p b x n h

power_mod-lt : (p b x n : ℕ) → 0 < p → power_mod p b x n < p
power_mod-lt p zero x n h = mod-lt 1 h
power_mod-lt p (suc b) x n h = mod-lt _ h

pub power_below-lt : {p : ℕ} → IsPrime p → (b x n : ℕ) → power_below b p x n < p
unfolding power_below
power_below-lt {p} P b x n = power_mod-lt p b x n (le_of_lt P.above_one)

pub below_modulus : {p : ℕ} → IsPrime p → (b r x n : ℕ) → r ≡ power_below b p x n → r < p
below_modulus {p} P b r x n e = subst (λ y. y < p) (sym e) (power_below-lt P b x n)

-- a modulus, by tests that compute; c has the primes of p - 1, each small or with a certificate of its own
pub modulus_from_parts : {b p : ℕ} {s : Adicity} {g two_adic : ℕ} {large : Option ℕ} {greatest : ℕ} (c : Parts) →
    (passes b p g (primes_of c) && are_primes b c) ≡ true →
    are_sizes p s ≡ true →
    two_adic ≡ power_mod p b g ((p - 1) / 2 ^ s.two) →
    large ≡ for_odd s.odd (power_mod p b g ((p - 1) / greatest_size s)) →
    greatest ≡ greatest_size s →
    IsModulus b p s g two_adic large greatest
unfolding power_below
modulus_from_parts {b} {p} {s} {g} c t u two_adic_is large_is greatest_is = record {
  prime = prime_from_parts b p g c t;
  small = small_from_parts b p g c t;
  generator = record { powers = generator_from_parts b p g c t; sizes = sizes_from_test p s u };
  two_adic_is = two_adic_is;
  large_is = large_is;
  greatest_is = greatest_is;
}

-- ---- proper parts of p - 1

divides : (t n r : ℕ) → t % n ≡ 0 → n % r ≡ 0 → t % r ≡ 0
divides t n r e f = sym (mod-mod_of_dvd r t (dvd_of_mod-eq-zero r f)) ∙ ap (λ y. y % r) e ∙ zero-mod r

-- a proper part of a positive number
pub record IsPart (t r : ℕ) : Type 0 where
  pub some : 0 < t / r
  pub less : t / r < t

part_of : (t r : ℕ) → 0 < t → 1 < r → t % r ≡ 0 → IsPart t r
part_of t r lo above z =
    let whole : t / r * r ≡ t = omega (arith, mod-add-div' t r) in
    record {
      some = elim (cases_eq (t / r) 0) [
        | inl e ↦ let none : t / r * r ≡ 0 = ap (λ y. y * r) e ∙ zero-mul r in absurd (omega arith)
        | inr ne ↦ omega arith
      ];
      less = div-lt_self lo above;
    }

factor_divides : (b e y : ℕ) → 0 < e → (b ^ e * y) % b ≡ 0
factor_divides b zero y h = absurd (omega arith)
factor_divides b (suc e) y h =
    ap (λ t. (t * y) % b) (pow-suc b e) ∙ ap (λ t. t % b) (mul_right_comm (b ^ e) b y) ∙ mul-mod_left (b ^ e * y) b

module _ {p : ℕ} {s : Adicity} (P : IsPrime p) (S : AreSizes p s) where
  pub half_part : 0 < s.two → IsPart (p - 1) 2
  half_part lo =
      let above = P.above_one in
      part_of (p - 1) 2 (omega arith) (omega arith) (divides (p - 1) (greatest_size s) 2 S.divided (factor_divides 2 s.two (odd_base s.odd ^ odd_most s.odd) lo))

  pub odd_part : 0 < odd_most s.odd → IsPart (p - 1) (odd_base s.odd)
  odd_part lo =
      let above = P.above_one in
      let q = odd_base s.odd in
      let b = odd_most s.odd in
      let z : greatest_size s % q ≡ 0 = ap (λ t. t % q) (mul_comm (2 ^ s.two) (q ^ b)) ∙ factor_divides q b (2 ^ s.two) lo in
      elim S.base [
        | inl none ↦ absurd (omega arith)
        | inr Q ↦ part_of (p - 1) q (omega arith) Q.above_one (divides (p - 1) (greatest_size s) q S.divided z)
      ]
