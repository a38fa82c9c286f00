-- A power of two is twice the one below it.
use Rattle.std.proofs.Common.{◌≡◌, ℕ, suc, ◌-◌, ◌*◌, ◌^◌, ◌<◌, ap, ◌∙◌, arith, pow-suc}

pub pow_twice : (n : ℕ) → 2 ^ suc n ≡ 2 * 2 ^ n
pow_twice n = let e = pow-suc 2 n in omega arith

pub pow_pred : (n : ℕ) → 0 < n → 2 ^ n ≡ 2 * 2 ^ (n - 1)
pow_pred n pos = let e : n ≡ suc (n - 1) = omega arith in ap (λ u. 2 ^ u) e ∙ pow_twice (n - 1)
