-- Montgomery's form of a number modulo an odd p, times a power of two, and back, over plain numbers.
use Rattle.std.proofs.Common.{◌≡◌, ℕ, zero, suc, ◌+◌, ◌-◌, ◌*◌, ◌/◌, ◌%◌, ◌^◌, ◌<◌, ◌≤◌, arith, sym, ap, ◌∙◌, add-mul, mul_assoc, mul_comm, mul-one, pow-suc, mod-eq_of_lt, mod-lt, le_of_lt}
use Rattle.std.proofs.Math.Nat.{pow-zero, add-mod, add-mod-mod, add-mul-mod_self_right, mod-add-div}
use Rattle.std.proofs.lemmas.Nat.{mul-mod_first, mul-mod_second, mul-pow, pow-mod}

-- the inverse of two modulo p, and its power: that of 2 ^ k
abbrev pub half_of : ℕ → ℕ
half_of p = (p + 1) / 2

unfoldable pub inverse_of_power : ℕ → ℕ → ℕ
inverse_of_power p k = half_of p ^ k % p

ones : (k : ℕ) → 1 ^ k ≡ 1
ones zero = pow-zero 1
ones (suc k) = pow-suc 1 k ∙ mul-one (1 ^ k) ∙ ones k

two_halves : (p : ℕ) → 1 < p → p % 2 ≡ 1 → (2 * half_of p) % p ≡ 1
two_halves p above odd =
    let e : 2 * half_of p ≡ 1 + 1 * p = omega (arith, odd) in
    ap (λ y. y % p) e ∙ add-mul-mod_self_right 1 1 p ∙ mod-eq_of_lt above

pub inverse_undoes : (p k : ℕ) → 1 < p → p % 2 ≡ 1 → (2 ^ k * inverse_of_power p k) % p ≡ 1
unfolding inverse_of_power
inverse_undoes p k above odd =
    mul-mod_second (2 ^ k) (half_of p ^ k) p
    ∙ ap (λ y. y % p) (sym (mul-pow 2 (half_of p) k))
    ∙ sym (pow-mod (2 * half_of p) k p)
    ∙ ap (λ y. y ^ k % p) (two_halves p above odd)
    ∙ ap (λ y. y % p) (ones k)
    ∙ mod-eq_of_lt above

-- ---- the form of a number, and back, with s for 2 ^ k and r for its inverse

pub form_back : (p s r v : ℕ) → (s * r) % p ≡ 1 → v < p → ((v * s) % p * r) % p ≡ v
form_back p s r v one below =
    mul-mod_first (v * s) r p
    ∙ ap (λ y. y % p) (mul_assoc v s r)
    ∙ sym (mul-mod_second v (s * r) p)
    ∙ ap (λ y. (v * y) % p) one
    ∙ ap (λ y. y % p) (mul-one v)
    ∙ mod-eq_of_lt below

-- forms of one number are one
pub form_of_number : (p s r a : ℕ) → (s * r) % p ≡ 1 → a < p → ((a * r) % p * s) % p ≡ a
form_of_number p s r a one below = form_back p r s a (ap (λ y. y % p) (mul_comm r s) ∙ one) below

pub same_forms : (p s r a b : ℕ) → (s * r) % p ≡ 1 → a < p → b < p → (a * r) % p ≡ (b * r) % p → a ≡ b
same_forms p s r a b one la lb e =
    sym (form_of_number p s r a one la) ∙ ap (λ y. (y * s) % p) e ∙ form_of_number p s r b one lb

-- ---- what operations on forms give

pub sum_of_forms : (p r a b c : ℕ) → c ≡ (a + b) % p → (c * r) % p ≡ ((a * r) % p + (b * r) % p) % p
sum_of_forms p r a b c e =
    ap (λ y. (y * r) % p) e ∙ mul-mod_first (a + b) r p ∙ ap (λ y. y % p) (add-mul a b r) ∙ add-mod (a * r) (b * r) p

swap : (a b r : ℕ) → a * b * r * r ≡ a * r * (b * r)
swap a b r = omega arith

-- what is reduced once is the form of v times r
pub form_of_reduced : (p s r v c : ℕ) → (s * r) % p ≡ 1 → c < p → (s * c) % p ≡ v % p → (c * r) % p ≡ (v * r * r) % p
form_of_reduced p s r v c one below e =
    let same : c ≡ (v * r) % p =
    sym (form_back p s r c one below)
    ∙ ap (λ y. (y % p * r) % p) (mul_comm c s)
    ∙ ap (λ y. (y * r) % p) e
    ∙ mul-mod_first v r p in
    ap (λ y. (y * r) % p) same ∙ mul-mod_first (v * r) r p

pub product_of_forms : (p r a b : ℕ) → (a * b * r * r) % p ≡ ((a * r) % p * ((b * r) % p)) % p
product_of_forms p r a b =
    ap (λ y. y % p) (swap a b r) ∙ sym (mul-mod_second (a * r) (b * r) p) ∙ sym (mul-mod_first (a * r) ((b * r) % p) p)

pub sum_of_products_of_forms : (p r v w : ℕ) → ((v + w) * r * r) % p ≡ ((v * r * r) % p + (w * r * r) % p) % p
sum_of_products_of_forms p r v w =
    ap (λ y. (y * r) % p) (add-mul v w r) ∙ ap (λ y. y % p) (add-mul (v * r) (w * r) r) ∙ add-mod (v * r * r) (w * r * r) p

-- what is missing to p, of a number and of its form: both with what is there leave nothing
missing : (p a r m q : ℕ) → a ≤ p → m ≤ p → m + p * q ≡ a * r → (p - a) * r + (q + 1) * p ≡ p - m + r * p
missing p a r m q la lm e =
    let there : p - a + a ≡ p = omega (arith, la) in
    let both : (p - a + a) * r ≡ p * r = ap (λ y. y * r) there in
    let d = (p - a) * r in
    let parts : d + a * r ≡ p * r = sym (add-mul (p - a) a r) ∙ both in
    omega (arith, parts, e, lm)

pub negative_of_form : (p r a : ℕ) → 0 < p → a ≤ p → ((p - a) * r) % p ≡ (p - (a * r) % p) % p
negative_of_form p r a some la =
    let m = (a * r) % p in
    let q = a * r / p in
    sym (add-mul-mod_self_right ((p - a) * r) (q + 1) p)
    ∙ ap (λ y. y % p) (missing p a r m q la (le_of_lt (mod-lt (a * r) some)) (mod-add-div (a * r) p))
    ∙ add-mul-mod_self_right (p - m) r p

pub negated_form : (p r a c : ℕ) → 0 < p → a ≤ p → c ≡ (p - a) % p → (c * r) % p ≡ (p - (a * r) % p) % p
negated_form p r a c some la e = ap (λ y. (y * r) % p) e ∙ mul-mod_first (p - a) r p ∙ negative_of_form p r a some la

pub difference_of_forms : (p r a b c : ℕ) → 0 < p → b ≤ p → c ≡ (a + (p - b)) % p →
    (c * r) % p ≡ ((a * r) % p + (p - (b * r) % p)) % p
difference_of_forms p r a b c some lb e =
    sum_of_forms p r a (p - b) c e
    ∙ ap (λ y. ((a * r) % p + y) % p) (negative_of_form p r b some lb)
    ∙ add-mod-mod ((a * r) % p) (p - (b * r) % p) p

-- ---- to the form, by a product with the square of s, and back, by a product with one

pub to_form : (p s r q v c : ℕ) → (s * r) % p ≡ 1 → c < p → q ≡ (s * s) % p → (s * c) % p ≡ (q * v) % p → (c * r) % p ≡ v % p
to_form p s r q v c one below qe e =
    let undo : (z : ℕ) → (z * s * r) % p ≡ z % p =
    λ z. ap (λ y. y % p) (mul_assoc z s r) ∙ sym (mul-mod_second z (s * r) p) ∙ ap (λ y. (z * y) % p) one ∙ ap (λ y. y % p) (mul-one z) in
    let twice : (s * c) % p ≡ (v * s * s) % p =
    e ∙ ap (λ y. (y * v) % p) qe ∙ mul-mod_first (s * s) v p ∙ ap (λ y. y % p) (mul_comm (s * s) v ∙ sym (mul_assoc v s s)) in
    let once : c % p ≡ (v * s) % p =
    sym (undo c) ∙ ap (λ y. (y * r) % p) (mul_comm c s) ∙ sym (mul-mod_first (s * c) r p) ∙ ap (λ y. (y * r) % p) twice ∙ mul-mod_first (v * s * s) r p ∙ undo (v * s) in
    sym (mul-mod_first c r p) ∙ ap (λ y. (y * r) % p) once ∙ mul-mod_first (v * s) r p ∙ undo v

pub from_form : (p s r a c : ℕ) → (s * r) % p ≡ 1 → c < p → (s * c) % p ≡ (a * 1) % p → c ≡ (a * r) % p
from_form p s r a c one below e =
    sym (form_back p s r c one below)
    ∙ ap (λ y. (y % p * r) % p) (mul_comm c s)
    ∙ ap (λ y. (y * r) % p) (e ∙ ap (λ y. y % p) (mul-one a))
    ∙ mul-mod_first a r p
