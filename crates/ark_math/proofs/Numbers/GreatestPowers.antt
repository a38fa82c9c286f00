-- The greatest power of a number that divides another.
use Rattle.std.proofs.Common.{◌≡◌, ◌≢◌, ℕ, suc, ◌+◌, ◌*◌, ◌-◌, ◌/◌, ◌^◌, ◌%◌, ◌≤◌, ◌<◌, ap, sym, ◌∙◌, arith, ⊎_elim}
use Rattle.std.proofs.Math.Nat.{mul-mod_right, mul_assoc, pow-suc, pow-succ', pow-le-pow_left, mul-le-mul_left, pos_of_ne-zero, div-add-mod, eq_of_mul-eq-mul_left}
use Rattle.std.proofs.lemmas.Nat.{pow-add}
use Rattle.std.proofs.lemmas.Bool.{cases_lt}
use Rattle.ark_math.specs.Root.{IsGreatestPower}
use Rattle.ark_math.specs.Cost.{IsLog2Up}
use Rattle.ark_math.proofs.Domains.Sizes.{power_lt}
use Rattle.ark_math.proofs.Numbers.Factors.{power_positive}

-- of a power times what k does not divide
pub greatest_power : (k e rest : ℕ) → 0 < k → rest % k ≢ 0 → IsGreatestPower k (k ^ e * rest) e
greatest_power k e rest pos ne = record {
  divides = mul-mod_right (k ^ e) rest;
  greatest = λ f h. ⊎_elim
      (λ (l : e < f).
      let n = k ^ e * rest in
      let c = n / k ^ f in
      let m = f - e - 1 in
      let split : f ≡ e + (m + 1) = omega arith in
      let whole : n ≡ k ^ f * c = sym (div-add-mod n (k ^ f)) ∙ omega (arith, h) in
      let power : k ^ f ≡ k ^ e * (k * k ^ m) = ap (λ t. k ^ t) split ∙ (pow-add k e (m + 1) ∙ ap (λ t. k ^ e * t) (ap (λ t. k ^ t) (omega arith) ∙ pow-succ' k m)) in
      let same : k ^ e * rest ≡ k ^ e * (k * (k ^ m * c)) = whole ∙ (ap (λ t. t * c) power ∙ (mul_assoc (k ^ e) (k * k ^ m) c ∙ ap (λ t. k ^ e * t) (mul_assoc k (k ^ m) c))) in
      let is : rest ≡ k * (k ^ m * c) = eq_of_mul-eq-mul_left (k ^ e) (power_positive k e pos) rest (k * (k ^ m * c)) same in
      absurd (ne (ap (λ t. t % k) is ∙ mul-mod_right k (k ^ m * c))))
      (λ (l : f ≤ e). l)
      (cases_lt e f);
}

-- one more factor taken out
pub divided : (k e rest n : ℕ) → 0 < k → 0 < rest → n ≡ k ^ e * rest → rest % k ≡ 0 → (n ≡ k ^ (e + 1) * (rest / k)) × (0 < rest / k)
divided k e rest n pos some is none =
    let whole : rest ≡ k * (rest / k) = sym (div-add-mod rest k) ∙ omega (arith, none) in (
      is ∙ ap (λ t. k ^ e * t) whole ∙ sym (mul_assoc (k ^ e) k (rest / k)) ∙ ap (λ t. t * (rest / k)) (sym (pow-suc k e) ∙ ap (λ t. k ^ t) (omega arith)),
      pos_of_ne-zero (λ z. absurd (omega (arith, whole, ap (λ t. k * t) z))),
    )

pub few_factors : (k e rest n : ℕ) → 2 ≤ k → 0 < rest → n ≡ k ^ e * rest → n < 2 ^ 64 → e < 64
few_factors k e rest n two some is small =
    let power : 2 ^ e ≤ k ^ e = pow-le-pow_left two e in
    let within : k ^ e ≤ k ^ e * rest = omega (arith, mul-le-mul_left (k ^ e) some) in
    power_lt e 64 (omega arith)

one_more : (r : ℕ) → suc r ≡ r + 1
one_more r = omega arith

-- the base two logarithm of a number above one is one more than that of the number before it, rounded down
pub log2_up : (n r : ℕ) → 2 ^ r ≤ n - 1 → n - 1 < 2 * 2 ^ r → 1 < n → IsLog2Up n (r + 1)
log2_up n r low high some = (omega (arith, pow-suc 2 r, ap (λ t. 2 ^ t) (sym (one_more r))), λ k above. let less : r < k = power_lt r k (omega arith) in omega arith)

pub one_log2 : (n a b : ℕ) → IsLog2Up n a → IsLog2Up n b → a ≡ b
one_log2 n a b h k = let l : a ≤ b = h.1 b k.0 in let m : b ≤ a = k.1 a h.0 in omega arith
