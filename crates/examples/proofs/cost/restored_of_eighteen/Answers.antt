use Rattle.std.proofs.Common.{◌≡◌, ℕ, ◌+◌, ◌*◌, ◌^◌, ◌%◌, ◌<◌, ◌≤◌, Some, unwrap_or, arith, ap, refl, subst, inl, inr}
use Rattle.std.proofs.lemmas.Bool.{cases_lt}
use Rattle.std.proofs.Math.Nat.{pow-zero}
use Rattle.std.proofs.Math.Pow.{pow_mono}
use Rattle.ark_math.specs.Root.{Adicity, IsAdicity, IsSupported, Splits, adicity_of, greatest_size}
use Rattle.ark_math.specs.Domain.{radix2, mixed_radix, Domain, IsSize, IsGeneral}
use Rattle.ark_math.specs.Cost.{Counts, GoesBy, inverse}
use Rattle.ark_math_transforms.proofs.Domains.Costs.{one_cost}
use Rattle.ark_math_transforms.proofs.Domains.GeneralSizes.{one_general_size}
use Rattle.ark_base.specs.RootLaws.{divisor_from_supported}
use Rattle.rs_code.specs.Cost.{GrowsWithin}
use Rattle.examples.proofs.cost.restored_of_eighteen.Goals as goal

-- sizes 2 ^ a * 3 ^ b with a up to 4 and b up to 3
abbrev s : Adicity
s = adicity_of 4 (Some 3) (Some 3)

base : IsAdicity s
base p e =
    let same : ◌≡◌ {A = ℕ × ℕ} (3, 3) p = ap (λ o. unwrap_or o (3, 3)) e in
    subst (λ (q : ℕ × ℕ). (3 ≤ q.0) × (q.0 % 2 ≡ 1)) same (omega arith, refl)

eighteen : Splits s 18 1 2
eighteen = record { product = refl; twos_within = omega arith; odds_within = omega arith; fits = omega arith }

-- no power of two is large enough, and 17 divides no size
few_twos : (m : ℕ) → IsSize s radix2 m → m < 17
few_twos m (twos, splits) =
    let most : 2 ^ twos ≤ 2 ^ 4 = pow_mono splits.twos_within in
    let one : 2 ^ twos * 3 ^ 0 ≡ 2 ^ twos * 1 = ap (λ x. 2 ^ twos * x) (pow-zero 3) in
    omega (arith, splits.product, most, one)

seventeen : IsSupported s 17 → ⊥
seventeen h = let e : greatest_size s % 17 ≡ 0 = divisor_from_supported s 17 h in omega (arith, e)

chosen : IsGeneral s 17 mixed_radix 18
chosen = (
  record {
    holds = (refl, (1, 2, eighteen));
    above = omega arith;
    least = λ m h l. elim (cases_lt 17 m) [
      | inl more ↦ more
      | inr same ↦ let e : m ≡ 17 = omega (arith, l, same) in absurd (seventeen (subst (IsSupported s) e h.1))
    ];
  },
  few_twos,
)

-- three transforms back, and five scalings a place
module _ {F : Type 0} (d : Domain F) (kind_size : (d.kind ≡ mixed_radix) × (d.size ≡ 18)) (before after : Counts) (h : GrowsWithin s d 3 (5 * d.size) before after) where
  goes : GoesBy s mixed_radix 18 18 inverse h.one_butterflies h.one_steps
  goes =
      subst (λ k. GoesBy s k 18 18 inverse h.one_butterflies h.one_steps) kind_size.0
      (subst (λ n. GoesBy s d.kind n n inverse h.one_butterflies h.one_steps) kind_size.1 h.one)

  one : (h.one_butterflies ≡ 9) × (h.one_steps ≡ 12)
  one = one_cost s mixed_radix 18 18 inverse h.one_butterflies h.one_steps 9 12 base goes (1, 2, eighteen, refl, refl)

  few_butterflies : after.butterflies ≤ before.butterflies + 27
  few_butterflies = omega (arith, h.butterflies, h.few_butterflies, one.0)

  few_steps : after.steps ≤ before.steps + 36
  few_steps = omega (arith, h.steps, h.few_steps, one.1)

  few_products : after.products ≤ before.products + 405
  few_products = omega (arith, h.few_products, h.few_butterflies, h.few_steps, one.0, one.1, kind_size.1)

pub returns-clause-butterflies : goal.returns-clause-butterflies
returns-clause-butterflies g c =
    let d = c.in-Some.code.domain in
    few_butterflies d (one_general_size s 17 d.kind mixed_radix d.size 18 c.in-Some.ensures.chosen chosen) _ _ c.restore_counted.ensures.cost

pub returns-clause-steps : goal.returns-clause-steps
returns-clause-steps g c =
    let d = c.in-Some.code.domain in
    few_steps d (one_general_size s 17 d.kind mixed_radix d.size 18 c.in-Some.ensures.chosen chosen) _ _ c.restore_counted.ensures.cost

pub returns-clause-products : goal.returns-clause-products
returns-clause-products g c =
    let d = c.in-Some.code.domain in
    few_products d (one_general_size s 17 d.kind mixed_radix d.size 18 c.in-Some.ensures.chosen chosen) _ _ c.restore_counted.ensures.cost
