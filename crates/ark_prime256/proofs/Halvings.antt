-- Euclid's algorithm by halvings and differences, over plain numbers.
use Rattle.std.proofs.Common.{◌≡◌, ℕ, zero, suc, ◌+◌, ◌-◌, ◌*◌, ◌/◌, ◌%◌, ◌^◌, ◌<◌, sym, ap, ◌∙◌, arith, mul_assoc, mul_comm, pow-suc, pow-add, mod-lt, mod-eq_of_lt, inl, inr, ◌≤◌, subst}
use Rattle.std.proofs.Math.Nat.{pow-zero, mod-add-div, mul-mod_left, zero-mod, mul-le-mul_right, eq_of_mul-eq-mul_right}
use Rattle.std.proofs.lemmas.Nat.{mod-mul-add, div_below}
use Rattle.std.proofs.lemmas.Bool.{cases_lt}

-- ---- zeros at the end of a word

pub zeros_below : (n k : ℕ) → ((i : ℕ) → i < k → n / 2 ^ i % 2 ≡ 0) → n % 2 ^ k ≡ 0
zeros_below n zero h = ap (λ m. n % m) (pow-zero 2) ∙ omega arith
zeros_below n (suc k) h =
    let few = zeros_below n k (λ i l. h i (omega arith)) in
    let q = n / 2 ^ k in
    let whole : n % 2 ^ k + 2 ^ k * q ≡ n = mod-add-div n (2 ^ k) in
    let even : q ≡ 2 * (q / 2) = omega (arith, h k (omega arith)) in
    let e : 2 ^ k * q ≡ 2 ^ k * (2 * (q / 2)) = ap (λ m. 2 ^ k * m) even in
    let f : q / 2 * (2 ^ k * 2) ≡ n = omega (arith, whole, few, e) in
    ap (λ m. n % m) (pow-suc 2 k) ∙ ap (λ m. m % (2 ^ k * 2)) (sym f) ∙ mul-mod_left (q / 2) (2 ^ k * 2)

pub some_zeros : (n k : ℕ) → n % 2 ≡ 0 → n / 2 ^ k % 2 ≡ 1 → 0 < k
some_zeros n zero even odd =
    let e : n / 2 ^ 0 ≡ n = ap (λ m. n / m) (pow-zero 2) ∙ omega arith in
    let f : n % 2 ≡ 1 = ap (λ m. m % 2) (sym e) ∙ odd in
    absurd (omega (arith, even, f))
some_zeros n (suc k) even odd = omega arith

-- ---- shifts, with d for a power of two, and e for what is left of it to a word

-- a product by e, without what is above a word, keeps what is below d
part_below : (h d e : ℕ) → 0 < d → d * e ≡ 18446744073709551616 → h % d * e + e ≤ 18446744073709551616
part_below h d e some whole =
    let less : h % d < d = mod-lt h some in
    let g : (h % d + 1) * e ≤ d * e = mul-le-mul_right e (omega (arith, less)) in
    omega (arith, g, whole)

some_left : (d e : ℕ) → d * e ≡ 18446744073709551616 → 0 < e
some_left d zero whole = absurd (omega (arith, whole))
some_left d (suc e) whole = omega arith

kept_below : (h d e : ℕ) → 0 < d → d * e ≡ 18446744073709551616 → (h * e) % 18446744073709551616 ≡ h % d * e
kept_below h d e some whole =
    let q = h / d in
    let parts : h * e ≡ (h % d + d * q) * e = ap (λ y. y * e) (sym (mod-add-div h d)) in
    let above : q * (d * e) ≡ q * 18446744073709551616 = ap (λ y. q * y) whole in
    let split : h * e ≡ q * 18446744073709551616 + h % d * e = omega (arith, parts, above) in
    let most = part_below h d e some whole in
    let left = some_left d e whole in
    ap (λ y. y % 18446744073709551616) split ∙ mod-mul-add q 18446744073709551616 (h % d * e) (omega (arith, most, left))

pub shift_fits : (l h d e : ℕ) → 0 < d → d * e ≡ 18446744073709551616 → l < 18446744073709551616 → l / d + (h * e) % 18446744073709551616 < 18446744073709551616
shift_fits l h d e some whole below =
    let low : l / d < e = div_below l d e some (subst (λ y. l < y) (sym whole ∙ mul_comm d e) below) in
    let high = kept_below h d e some whole in
    let most = part_below h d e some whole in
    omega (arith, low, high, most)

pub shift_is : (l h d e : ℕ) → 0 < d → d * e ≡ 18446744073709551616 → (l / d + (h * e) % 18446744073709551616) * d + l % d ≡ l + 18446744073709551616 * (h % d)
shift_is l h d e some whole =
    let low : l % d + d * (l / d) ≡ l = mod-add-div l d in
    let high : (h * e) % 18446744073709551616 * d ≡ h % d * e * d = ap (λ y. y * d) (kept_below h d e some whole) in
    let whole' : h % d * (d * e) ≡ h % d * 18446744073709551616 = ap (λ y. h % d * y) whole in
    omega (arith, low, high, whole')

pub quotient_is : (a0 a1 a2 a3 w0 w1 w2 w3 d : ℕ) → a0 % d ≡ 0 →
    w0 * d + a0 % d ≡ a0 + 18446744073709551616 * (a1 % d) → w1 * d + a1 % d ≡ a1 + 18446744073709551616 * (a2 % d) →
    w2 * d + a2 % d ≡ a2 + 18446744073709551616 * (a3 % d) → w3 * d + a3 % d ≡ a3 + 18446744073709551616 * (0 % d) →
    (w0 + 2 ^ 64 * w1 + 2 ^ 128 * w2 + 2 ^ 192 * w3) * d ≡ a0 + 2 ^ 64 * a1 + 2 ^ 128 * a2 + 2 ^ 192 * a3
quotient_is a0 a1 a2 a3 w0 w1 w2 w3 d even e0 e1 e2 e3 =
    let none = zero-mod d in
    omega (arith, even, e0, e1, e2, e3, none)

top_below : (a0 a1 a2 a3 d e : ℕ) → d * e ≡ 18446744073709551616 → (a0 + 2 ^ 64 * a1 + 2 ^ 128 * a2 + 2 ^ 192 * a3) * d < 2 ^ 256 → a3 < e
top_below a0 a1 a2 a3 d e whole fits =
    elim (cases_lt a3 e) [
      | inl less ↦ less
      | inr more ↦ let g : e * d ≤ a3 * d = mul-le-mul_right d more in absurd (omega (arith, g, fits, whole))
    ]

pub multiple_is : (a0 a1 a2 a3 w0 w1 w2 w3 d e : ℕ) → 0 < e → d * e ≡ 18446744073709551616 → (a0 + 2 ^ 64 * a1 + 2 ^ 128 * a2 + 2 ^ 192 * a3) * d < 2 ^ 256 →
    w0 * e + 0 % e ≡ 0 + 18446744073709551616 * (a0 % e) → w1 * e + a0 % e ≡ a0 + 18446744073709551616 * (a1 % e) →
    w2 * e + a1 % e ≡ a1 + 18446744073709551616 * (a2 % e) → w3 * e + a2 % e ≡ a2 + 18446744073709551616 * (a3 % e) →
    w0 + 2 ^ 64 * w1 + 2 ^ 128 * w2 + 2 ^ 192 * w3 ≡ (a0 + 2 ^ 64 * a1 + 2 ^ 128 * a2 + 2 ^ 192 * a3) * d
multiple_is a0 a1 a2 a3 w0 w1 w2 w3 d e some whole fits e0 e1 e2 e3 =
    let none = zero-mod e in
    let top : a3 % e ≡ a3 = mod-eq_of_lt (top_below a0 a1 a2 a3 d e whole fits) in
    let a = a0 + 18446744073709551616 * a1 + 340282366920938463463374607431768211456 * a2 + 6277101735386680763835789423207666416102355444464034512896 * a3 in
    let times : (w0 + 18446744073709551616 * w1 + 340282366920938463463374607431768211456 * w2 + 6277101735386680763835789423207666416102355444464034512896 * w3) * e ≡ a * 18446744073709551616 =
    omega (arith, e0, e1, e2, e3, none, top) in
    eq_of_mul-eq-mul_right e some _ _ (times ∙ ap (λ y. a * y) (sym whole) ∙ sym (mul_assoc a d e))

-- the double fits, as what it is halved of is still above zero
pub doubled_fits : (left u c d : ℕ) → 0 < left → u * d ≡ left → left * c < 2 ^ 256 → c * d < 2 ^ 256
doubled_fits left zero c d some e fits = absurd (omega (arith, some, e))
doubled_fits left (suc u) c d some e fits =
    let g : (suc u * d) * c ≡ left * c = ap (λ y. y * c) e in
    omega (arith, g, fits)

pub powers_of_word : (z : ℕ) → z < 64 → 2 ^ z * 2 ^ (64 - z) ≡ 18446744073709551616
powers_of_word z few =
    let e : z + (64 - z) ≡ 64 = omega arith in
    sym (pow-add 2 z (64 - z)) ∙ ap (λ n. 2 ^ n) e
