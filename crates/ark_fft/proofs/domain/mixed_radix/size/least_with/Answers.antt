use Rattle.std.proofs.Common.{◌≡◌, ℕ, ◌^◌, ◌<◌, ◌≤◌, inl, inr, sym, ap, ◌∙◌, subst, arith}
use Rattle.std.proofs.lemmas.Bool.{cases_lt}
use Rattle.ark_math.specs.Root.{Splits, odd_base}
use Rattle.ark_math.specs.Domain.{IsLeast, IsSizeWith}
use Rattle.ark_math_transforms.proofs.Domains.MixedSizes.{base_positive, none_past_power, none_past_word, none_past_adicity, none_past_product, least_with, splits_with}
use Rattle.ark_math.proofs.Numbers.Factors.{power_positive}
use Rattle.ark_math.proofs.Domains.Sizes.{two_of}
use Rattle.ark_fft.proofs.domain.mixed_radix.size.least_with.Goals as goal

at_least : (a b : ℕ) → (a < b → ⊥) → b ≤ a
at_least a b n = elim (cases_lt a b) [
  | inl l ↦ absurd (n l)
  | inr l ↦ l
]

positive : (b p o q : ℕ) → p ≡ b ^ o → b ≡ q → 0 < q → 0 < p
positive b p o q e f l = let some = power_positive b o (subst (λ x. 0 < x) (sym f) l) in omega arith

pub returns-in_err-power-clause-none : goal.returns-in_err-power-clause-none
returns-in_err-power-clause-none g c =
    rw c.from_residual.ensures
    (none_past_power g.F.FftField.adicity c.args.num_coeffs c.args.odds (c.args.base ^ c.args.odds) (ap (λ x. x ^ c.args.odds) c.requires.base) (at_least _ _ c.in_err-power.ensures))

pub div_ceil-requires : goal.div_ceil-requires
div_ceil-requires g c =
    positive c.args.base c.in_ok-power.power c.args.odds (odd_base g.F.FftField.adicity.odd) c.in_ok-power.ensures.1 c.requires.base (base_positive g.F.FftField.adicity g.met.F.FftField.roots_law.base)

pub returns-in_err-twos_part-clause-none : goal.returns-in_err-twos_part-clause-none
returns-in_err-twos_part-clause-none g c =
    let is = c.in_ok-power.ensures.1 ∙ ap (λ x. x ^ c.args.odds) c.requires.base in
    rw c.from_residual-in_err-twos_part.ensures
    (none_past_word g.F.FftField.adicity c.args.num_coeffs c.args.odds c.in_ok-power.power is (positive c.args.base c.in_ok-power.power c.args.odds (odd_base g.F.FftField.adicity.odd) c.in_ok-power.ensures.1 c.requires.base (base_positive g.F.FftField.adicity g.met.F.FftField.roots_law.base)) (rw c.div_ceil.ensures at c.in_err-twos_part.ensures))

pub returns-then-twos-TWO_ADICITY-clause-none : goal.returns-then-twos-TWO_ADICITY-clause-none
returns-then-twos-TWO_ADICITY-clause-none g c =
    let s = g.F.FftField in
    let is = c.in_ok-power.ensures.1 ∙ ap (λ x. x ^ c.args.odds) c.requires.base in
    let e = c.ilog2-twos.ensures in
    let t = c.if-twos-TWO_ADICITY.true in
    let f = c.TWO_ADICITY.ensures in
    let two : s.adicity.two ≡ s.TWO_ADICITY = ap (λ a. a.two) g.met.F.FftField.adicity_law ∙ two_of s.TWO_ADICITY s.SMALL_SUBGROUP_BASE s.SMALL_SUBGROUP_BASE_ADICITY in
    none_past_adicity s.adicity c.args.num_coeffs c.args.odds c.in_ok-power.power is (positive c.args.base c.in_ok-power.power c.args.odds (odd_base g.F.FftField.adicity.odd) c.in_ok-power.ensures.1 c.requires.base (base_positive g.F.FftField.adicity g.met.F.FftField.roots_law.base)) c.in_ok-twos_part.twos_part c.ilog2-twos.result (rw c.div_ceil.ensures at c.in_ok-twos_part.ensures) e.power_le e.next_power_gt (omega arith)

pub returns-in_err-checked_mul-clause-none : goal.returns-in_err-checked_mul-clause-none
returns-in_err-checked_mul-clause-none g c =
    let is = c.in_ok-power.ensures.1 ∙ ap (λ x. x ^ c.args.odds) c.requires.base in
    let e = c.ilog2-twos.ensures in
    rw c.from_residual-in_err-checked_mul.ensures
    (none_past_product g.F.FftField.adicity c.args.num_coeffs c.args.odds c.in_ok-power.power is (positive c.args.base c.in_ok-power.power c.args.odds (odd_base g.F.FftField.adicity.odd) c.in_ok-power.ensures.1 c.requires.base (base_positive g.F.FftField.adicity g.met.F.FftField.roots_law.base)) c.in_ok-twos_part.twos_part c.ilog2-twos.result (rw c.div_ceil.ensures at c.in_ok-twos_part.ensures) e.power_le e.next_power_gt (at_least _ _ c.in_err-checked_mul.ensures))

pub returns-clause-least : goal.returns-clause-least
returns-clause-least g c =
    let s = g.F.FftField in
    let is = c.in_ok-power.ensures.1 ∙ ap (λ x. x ^ c.args.odds) c.requires.base in
    let e = c.ilog2-twos.ensures in
    let t = c.if-twos-TWO_ADICITY.false in
    let f = c.TWO_ADICITY.ensures in
    let two : s.adicity.two ≡ s.TWO_ADICITY = ap (λ a. a.two) g.met.F.FftField.adicity_law ∙ two_of s.TWO_ADICITY s.SMALL_SUBGROUP_BASE s.SMALL_SUBGROUP_BASE_ADICITY in
    subst (IsLeast (IsSizeWith s.adicity c.args.odds) c.args.num_coeffs) (sym c.in_ok-checked_mul.ensures.1)
    (least_with s.adicity c.args.num_coeffs c.args.odds c.in_ok-power.power is (positive c.args.base c.in_ok-power.power c.args.odds (odd_base g.F.FftField.adicity.odd) c.in_ok-power.ensures.1 c.requires.base (base_positive g.F.FftField.adicity g.met.F.FftField.roots_law.base)) c.in_ok-twos_part.twos_part c.ilog2-twos.result (rw c.div_ceil.ensures at c.in_ok-twos_part.ensures) e.power_le e.next_power_gt (omega arith) c.requires.odds c.in_ok-checked_mul.ensures.0)

pub returns-clause-splits : goal.returns-clause-splits
returns-clause-splits g c =
    let s = g.F.FftField in
    let is = c.in_ok-power.ensures.1 ∙ ap (λ x. x ^ c.args.odds) c.requires.base in
    let e = c.ilog2-twos.ensures in
    let t = c.if-twos-TWO_ADICITY.false in
    let f = c.TWO_ADICITY.ensures in
    let two : s.adicity.two ≡ s.TWO_ADICITY = ap (λ a. a.two) g.met.F.FftField.adicity_law ∙ two_of s.TWO_ADICITY s.SMALL_SUBGROUP_BASE s.SMALL_SUBGROUP_BASE_ADICITY in
    subst (λ n. Splits s.adicity n c.ilog2-twos.result c.args.odds) (sym c.in_ok-checked_mul.ensures.1)
    (splits_with s.adicity c.args.num_coeffs c.args.odds c.in_ok-power.power is (positive c.args.base c.in_ok-power.power c.args.odds (odd_base g.F.FftField.adicity.odd) c.in_ok-power.ensures.1 c.requires.base (base_positive g.F.FftField.adicity g.met.F.FftField.roots_law.base)) c.in_ok-twos_part.twos_part c.ilog2-twos.result (rw c.div_ceil.ensures at c.in_ok-twos_part.ensures) e.power_le e.next_power_gt (omega arith) c.requires.odds c.in_ok-checked_mul.ensures.0)
