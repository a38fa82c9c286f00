-- Euclid's algorithm under a modulus, step by step: what it keeps, how it starts, steps and ends.
use Rattle.std.proofs.Common.{◌≡◌, ℕ, ◌+◌, ◌-◌, ◌*◌, ◌/◌, ◌%◌, ◌<◌, ◌≤◌, sym, ap, ◌∙◌, arith, mod-eq_of_lt, mod-lt, mul_comm, one-mul, zero-mul, le_of_lt}
use Rattle.std.proofs.Math.Nat.{mod_self, zero-mod, mod-le}
use Rattle.std.proofs.lemmas.Nat.Gcd.{IsGcd-from_mod, IsGcd-from_zero}
use Rattle.ark_math.specs.Prime.{IsPrime}
use Rattle.std.specs.Int.{IsGcd}
use Rattle.ark_math.proofs.Numbers.Prime.{factor_step, gcd_is_one}

-- the last two remainders of p and a, with factors that times a leave them
pub record Euclid (p a last last_factor rest factor : ℕ) : Type 0 where
  pub last_leaves : (last_factor * a) % p ≡ last % p
  pub leaves : (factor * a) % p ≡ rest % p
  pub last_factor_below : last_factor < p
  pub factor_below : factor < p
  pub last_within : last ≤ p
  pub rest_within : rest ≤ p
  pub divisors : (g : ℕ) → IsGcd last rest g → IsGcd p a g

pub euclid_starts : (p a : ℕ) → 1 < p → a < p → Euclid p a p 0 a 1
euclid_starts p a above hi = record {
  last_leaves = ap (λ y. y % p) (zero-mul a) ∙ zero-mod p ∙ sym (mod_self p);
  leaves = ap (λ y. y % p) (one-mul a);
  last_factor_below = omega arith;
  factor_below = above;
  last_within = omega arith;
  rest_within = le_of_lt hi;
  divisors = λ g h. h;
}

pub euclid_steps : (p a r₀ t₀ r₁ t₁ : ℕ) → 0 < r₁ → Euclid p a r₀ t₀ r₁ t₁ →
    Euclid p a r₁ t₁ (r₀ % r₁) ((t₀ + p - (r₀ / r₁ * t₁) % p) % p)
euclid_steps p a r₀ t₀ r₁ t₁ some h =
    let above : 0 < p = omega (arith, h.factor_below) in
    let e = h.last_within in
    record {
      last_leaves = h.leaves;
      leaves = factor_step p a t₀ t₁ r₀ r₁ above h.last_leaves h.leaves;
      last_factor_below = h.factor_below;
      factor_below = mod-lt _ above;
      last_within = h.rest_within;
      rest_within = omega (arith, mod-le r₀ r₁);
      divisors = λ g d. h.divisors g (IsGcd-from_mod r₀ r₁ g d);
    }

pub euclid_ends : (p a r₀ t₀ r₁ t₁ : ℕ) → IsPrime p → 0 < a → a < p → r₁ ≡ 0 → Euclid p a r₀ t₀ r₁ t₁ → (a * t₀) % p ≡ 1
euclid_ends p a r₀ t₀ r₁ t₁ P lo hi z h =
    let one : r₀ ≡ 1 = gcd_is_one p a r₀ P lo hi (h.divisors r₀ (IsGcd-from_zero r₀ r₁ z)) in
    ap (λ y. y % p) (mul_comm a t₀) ∙ h.last_leaves ∙ ap (λ y. y % p) one ∙ mod-eq_of_lt P.above_one
