-- Sums and products of the residues modulo a number, and inverses modulo a prime.
use Rattle.std.proofs.Common.{◌≡◌, ◌≢◌, ℕ, ◌+◌, ◌*◌, ◌-◌, ◌%◌, ◌<◌, sym, ap, subst, ◌∙◌, arith, mod-lt, le_of_lt, mul-add, mul_assoc, add_assoc}
use Rattle.std.proofs.Math.Nat.{mod-add-mod, add-mod-mod, mod_self, add-mod}
use Rattle.std.proofs.lemmas.Nat.{mul-mod_first, mul-mod_second}
use Rattle.ark_math.specs.Prime.{IsPrime, power_mod}
use Rattle.ark_math.proofs.Numbers.Prime.{has_inverse}

pub plus_assoc : (p x y z : ℕ) → ((x + y) % p + z) % p ≡ (x + (y + z) % p) % p
plus_assoc p x y z = mod-add-mod (x + y) p z ∙ ap (λ v. v % p) (add_assoc x y z) ∙ sym (add-mod-mod x (y + z) p)

pub plus_negated : (p x : ℕ) → x < p → (x + (p - x) % p) % p ≡ 0
plus_negated p x h =
    let e : x + (p - x) ≡ p = omega arith in
    add-mod-mod x (p - x) p ∙ ap (λ v. v % p) e ∙ mod_self p

pub times_assoc : (p x y z : ℕ) → ((x * y) % p * z) % p ≡ (x * ((y * z) % p)) % p
times_assoc p x y z = mul-mod_first (x * y) z p ∙ ap (λ v. v % p) (mul_assoc x y z) ∙ sym (mul-mod_second x (y * z) p)

pub times_plus : (p x y z : ℕ) → (x * ((y + z) % p)) % p ≡ ((x * y) % p + (x * z) % p) % p
times_plus p x y z = mul-mod_second x (y + z) p ∙ ap (λ v. v % p) (mul-add x y z) ∙ add-mod (x * y) (x * z) p

pub inverts : (p : ℕ) → IsPrime p → (x : ℕ) → x < p → x ≢ 0 → (y : ℕ) × ((x * (y % p)) % p ≡ 1)
inverts p P x h ne =
    let inverse = has_inverse p P x (omega arith) h in
    (inverse.0, mul-mod_second x inverse.0 p ∙ inverse.1)

pub power_mod-below : {p : ℕ} → IsPrime p → (v n : ℕ) → power_mod p 32 v n < p
power_mod-below P v n = mod-lt _ (le_of_lt P.above_one)
