-- Sums, differences and products modulo a prime, and why products modulo a Fermat prime are reduced by its form. All is over
-- plain numbers.
use Rattle.std.proofs.Common.{◌≡◌, ℕ, ◌+◌, ◌*◌, ◌-◌, ◌/◌, ◌%◌, ◌<◌, ◌≤◌, sym, ap, ◌∙◌, arith, mod-eq_of_lt, mul-add, mul_comm, mul-one, ap₂}
use Rattle.std.proofs.Math.Nat.{div-add-mod, div-le_of_le-mul, add-mod_right, add-mul-mod_self_right}
use Rattle.std.proofs.lemmas.Nat.{mul-le}

-- ---- differences

pub less_wraps : (p l r : ℕ) → r ≤ p → l < r → l + (p - r) ≡ (l + (p - r)) % p
less_wraps p l r within less =
    let small : l + (p - r) < p = omega arith in
    sym (mod-eq_of_lt small)

pub more_stays : (p l r : ℕ) → l < p → r ≤ p → r ≤ l → l - r ≡ (l + (p - r)) % p
more_stays p l r below within more =
    let small : l - r < p = omega arith in
    let moved : l + (p - r) ≡ l - r + p = omega arith in
    sym (ap (λ y. y % p) moved ∙ add-mod_right (l - r) p ∙ mod-eq_of_lt small)

pub taken_twice : (p b : ℕ) → b < p → p - (p - b) ≡ b
taken_twice p b below = omega arith

-- ---- a product of two numbers below n

pub largest_product : (a b n : ℕ) → a < n → b < n → a * b ≤ (n - 1) * (n - 1)
largest_product a b n la lb = mul-le a b (n - 1) (n - 1) (omega arith) (omega arith)

-- ---- a Fermat prime

-- modulo p, a quotient by p - 1 counts minus one each
rest_less_quotient : (p v q r : ℕ) → 0 < p → q ≤ p → (p - 1) * q + r ≡ v → (r + (p - q)) % p ≡ v % p
rest_less_quotient p v q r some fits e =
    let one : p ≡ p - 1 + 1 = omega (arith, some) in
    let each : q * p ≡ (p - 1) * q + q = ap (λ t. q * t) one ∙ mul-add q (p - 1) 1 ∙ ap₂ (λ x y. x + y) (mul_comm q (p - 1)) (mul-one q) in
    let turns : r + (p - q) + q * p ≡ v + 1 * p = omega (arith, some, fits, e, each) in
    sym (add-mul-mod_self_right (r + (p - q)) q p) ∙ ap (λ t. t % p) turns ∙ add-mul-mod_self_right v 1 p

less_fits : (p q : ℕ) → q ≤ p - 1 → q ≤ p
less_fits p q h = omega arith

pub by_predecessor : (p v : ℕ) → 0 < p → v ≤ (p - 1) * (p - 1) → (v % (p - 1) + (p - v / (p - 1))) % p ≡ v % p
by_predecessor p v some product =
    let q = v / (p - 1) in
    rest_less_quotient p v q (v % (p - 1)) some (less_fits p q (div-le_of_le-mul (p - 1) product)) (div-add-mod v (p - 1))
