-- Rows of Montgomery's product, over plain numbers.
use Rattle.std.proofs.Common.{◌≡◌, ℕ, ◌+◌, ◌*◌, ◌-◌, ◌/◌, ◌%◌, ◌<◌, ◌≤◌, ◌^◌, sym, ap, ◌∙◌, arith, mod-eq_of_lt}
use Rattle.std.proofs.Math.Nat.{mod-add-div, mul-le-mul_right, add-mul-mod_self_right, add-mod_right}
use Rattle.std.proofs.lemmas.Nat.{mul-mod_second}
use Rattle.ark_prime256.specs.Words.{IsReduced}

-- with t times i, modulo 2 ^ 64, as m, the low word of t + m * p is zero
pub low_is_zero : (t i p m z c : ℕ) → (p * i + 1) % 18446744073709551616 ≡ 0 → m ≡ (t * i) % 18446744073709551616 →
    z < 18446744073709551616 → z + c * 18446744073709551616 ≡ m * p + 0 + t → z ≡ 0
low_is_zero t i p m z c inverse is below row =
    let q = t * i / 18446744073709551616 in
    let k = (p * i + 1) / 18446744073709551616 in
    let e : m + 18446744073709551616 * q ≡ t * i = ap (λ y. y + 18446744073709551616 * q) is ∙ mod-add-div (t * i) 18446744073709551616 in
    let f : 18446744073709551616 * k ≡ p * i + 1 = omega (arith, mod-add-div (p * i + 1) 18446744073709551616, inverse) in
    let e' : (m + 18446744073709551616 * q) * p ≡ t * i * p = ap (λ y. y * p) e in
    let f' : t * (18446744073709551616 * k) ≡ t * (p * i + 1) = ap (λ y. t * y) f in
    let whole : z + 18446744073709551616 * (c + q * p) ≡ 18446744073709551616 * (t * k) = omega (arith, e', f', row) in
    omega (arith, whole, below)

-- what a row leaves fits, and is below twice the modulus again
pub row_below : (t x a p m r : ℕ) → t < 2 * p → x < 18446744073709551616 → a < p → m < 18446744073709551616 → 18446744073709551616 * r ≡ t + x * a + m * p → r < 2 * p
row_below t x a p m r lt lx la lm e =
    let h : x * a ≤ 18446744073709551615 * a = mul-le-mul_right a (omega (arith, lx)) in
    let g : m * p ≤ 18446744073709551615 * p = mul-le-mul_right p (omega (arith, lm)) in
    omega (arith, h, g, lt, la, e)

-- the sum before a row's reduction has five words, also when the reduction is added
pub row_fits : (t x a p u : ℕ) → t < 2 * p → x < 18446744073709551616 → a < p → p < 2 ^ 255 → u ≡ t + x * a → u + 18446744073709551615 * p < 2 ^ 320
row_fits t x a p u lt lx la small e =
    let h : x * a ≤ 18446744073709551615 * a = mul-le-mul_right a (omega (arith, lx)) in
    omega (arith, h, lt, la, small, e)

-- the same, at the last word of the result
pub top_fits : (u m p r w : ℕ) → u + 18446744073709551615 * p < 2 ^ 320 → m < 18446744073709551616 → 18446744073709551616 * r ≡ u + m * p → 2 ^ 192 * w ≤ r → w < 18446744073709551616
top_fits u m p r w fits lm e part =
    let g : m * p ≤ 18446744073709551615 * p = mul-le-mul_right p (omega (arith, lm)) in
    omega (arith, fits, g, e, part)

-- four rows make a product, and some times p
pub record IsProduct (a b p r : ℕ) : Type 0 where
  pub times : ℕ
  pub whole : 2 ^ 256 * r ≡ a * b + times * p

pub four_rows : (a p x0 x1 x2 x3 t1 t2 t3 t4 : ℕ) →
    IsReduced (0 + x0 * a) p t1 → IsReduced (t1 + x1 * a) p t2 → IsReduced (t2 + x2 * a) p t3 → IsReduced (t3 + x3 * a) p t4 →
    IsProduct a (x0 + 2 ^ 64 * x1 + 2 ^ 128 * x2 + 2 ^ 192 * x3) p t4
four_rows a p x0 x1 x2 x3 t1 t2 t3 t4 r1 r2 r3 r4 = record {
  times = r1.times + 2 ^ 64 * r2.times + 2 ^ 128 * r3.times + 2 ^ 192 * r4.times;
  whole = omega (arith, r1.whole, r2.whole, r3.whole, r4.whole);
}

-- a number below twice p, less p where it isn't below p
pub less_once_is : (t p : ℕ) → p ≤ t → t < 2 * p → t - p ≡ t % p
less_once_is t p le lt =
    let e : t - p + p ≡ t = omega (arith, le) in
    let below : t - p < p = omega (arith, le, lt) in
    sym (ap (λ y. y % p) (sym e) ∙ add-mod_right (t - p) p ∙ mod-eq_of_lt below)

pub residue_of_product : (a b p r s : ℕ) → IsProduct a b p r → s ≡ r % p → (2 ^ 256 * s) % p ≡ (a * b) % p
residue_of_product a b p r s h e =
    ap (λ y. (2 ^ 256 * y) % p) e ∙ mul-mod_second (2 ^ 256) r p ∙ ap (λ y. y % p) h.whole ∙ add-mul-mod_self_right (a * b) h.times p

-- the words of a reduction
pub reduce_is : (t0 t1 t2 t3 top p0 p1 p2 p3 m z c0 w0 c1 w1 c2 w2 c3 : ℕ) → z ≡ 0 →
    z + c0 * 18446744073709551616 ≡ m * p0 + 0 + t0 →
    w0 + c1 * 18446744073709551616 ≡ m * p1 + c0 + t1 →
    w1 + c2 * 18446744073709551616 ≡ m * p2 + c1 + t2 →
    w2 + c3 * 18446744073709551616 ≡ m * p3 + c2 + t3 →
    2 ^ 64 * (w0 + 2 ^ 64 * w1 + 2 ^ 128 * w2 + 2 ^ 192 * (top + c3)) ≡ t0 + 2 ^ 64 * t1 + 2 ^ 128 * t2 + 2 ^ 192 * t3 + 2 ^ 256 * top + m * (p0 + 2 ^ 64 * p1 + 2 ^ 128 * p2 + 2 ^ 192 * p3)
reduce_is t0 t1 t2 t3 top p0 p1 p2 p3 m z c0 w0 c1 w1 c2 w2 c3 zero e0 e1 e2 e3 = omega (arith, zero, e0, e1, e2, e3)

-- a difference modulo p, where it is below zero, and where it isn't
pub less_wraps : (p l r s : ℕ) → r ≤ p → l < r → s ≡ l + (p - r) → s ≡ (l + (p - r)) % p
less_wraps p l r s within less e =
    let small : l + (p - r) < p = omega arith in
    e ∙ sym (mod-eq_of_lt small)

pub more_stays : (p l r s : ℕ) → l < p → r ≤ p → r ≤ l → s ≡ l - r → s ≡ (l + (p - r)) % p
more_stays p l r s below within more e =
    let small : l - r < p = omega arith in
    let moved : l + (p - r) ≡ l - r + p = omega arith in
    e ∙ sym (ap (λ y. y % p) moved ∙ add-mod_right (l - r) p ∙ mod-eq_of_lt small)
