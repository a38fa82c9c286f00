-- Montgomery's reduction by a word of 32 bits, over plain numbers.
use Rattle.std.proofs.Common.{◌≡◌, ℕ, ◌+◌, ◌*◌, ◌/◌, ◌%◌, ◌-◌, ◌≤◌, sym, ap, ◌∙◌, arith}
use Rattle.std.proofs.Math.Nat.{mod-add-div, add-mul-mod_self_right}
use Rattle.std.proofs.lemmas.Nat.{mul-mod_second}

-- with v times i, modulo 2 ^ 32, as m, the low word of v + m * p is zero
low_is_zero : (v i p m : ℕ) → (p * i + 1) % 4294967296 ≡ 0 → m ≡ (v % 4294967296 * i) % 4294967296 → (v + m * p) % 4294967296 ≡ 0
low_is_zero v i p m inverse is =
    let w = v % 4294967296 in
    let h = w * i / 4294967296 in
    let k = (p * i + 1) / 4294967296 in
    let e : m + 4294967296 * h ≡ w * i = ap (λ y. y + 4294967296 * h) is ∙ mod-add-div (w * i) 4294967296 in
    let f : 4294967296 * k ≡ p * i + 1 = omega (arith, mod-add-div (p * i + 1) 4294967296, inverse) in
    let e' : (m + 4294967296 * h) * p ≡ w * i * p = ap (λ y. y * p) e in
    let f' : w * (4294967296 * k) ≡ w * (p * i + 1) = ap (λ y. w * y) f in
    let whole : v + m * p + 4294967296 * (h * p) ≡ 4294967296 * (w * k + v / 4294967296) = omega (arith, e', f', mod-add-div v 4294967296) in
    omega (arith, whole)

pub reduced_is : (v i p m r : ℕ) → (p * i + 1) % 4294967296 ≡ 0 → m ≡ (v % 4294967296 * i) % 4294967296 → r ≡ (v + m * p) / 4294967296 % p →
    (4294967296 * r) % p ≡ v % p
reduced_is v i p m r inverse is e =
    let s = v + m * p in
    let whole : 4294967296 * (s / 4294967296) ≡ s = omega (arith, mod-add-div s 4294967296, low_is_zero v i p m inverse is) in
    ap (λ y. (4294967296 * y) % p) e
    ∙ mul-mod_second 4294967296 (s / 4294967296) p
    ∙ ap (λ y. y % p) whole
    ∙ add-mul-mod_self_right v m p

-- a word of 64 bits less 2 ^ 32 times p
pub less_wide : (v p w : ℕ) → w ≡ 4294967296 * p → w ≤ v → (v - w) % p ≡ v % p
less_wide v p w is more =
    sym (add-mul-mod_self_right (v - w) 4294967296 p) ∙ ap (λ y. y % p) (omega (arith, is, more))
