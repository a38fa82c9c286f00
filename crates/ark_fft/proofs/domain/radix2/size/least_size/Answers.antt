use Rattle.std.proofs.Common.{◌≡◌, ◌∙◌, ap, arith, refl}
use Rattle.std.specs.Option.{is_some}
use Rattle.ark_math.proofs.Domains.Sizes.{two_of, next_is_least, next_splits, none_past_adicity, none_past_word}
use Rattle.ark_fft.proofs.domain.radix2.size.least_size.Goals as goal

pub returns-in_err-power-clause-none : goal.returns-in_err-power-clause-none
returns-in_err-power-clause-none g c = (
  (λ none. none_past_word g.F.FftField.adicity c.args.num_coeffs c.in_err-power.ensures),
  (λ none. ap is_some c.from_residual.ensures),
)

pub returns-then-twos-TWO_ADICITY-clause-least : goal.returns-then-twos-TWO_ADICITY-clause-least
returns-then-twos-TWO_ADICITY-clause-least g c =
    let s = g.F.FftField in
    let e = c.ilog2-twos.ensures in
    let t = c.if-twos-TWO_ADICITY.true in
    let f = c.TWO_ADICITY.ensures in
    let two : s.adicity.two ≡ s.TWO_ADICITY = ap (λ a. a.two) g.met.F.FftField.adicity_law ∙ two_of s.TWO_ADICITY s.SMALL_SUBGROUP_BASE s.SMALL_SUBGROUP_BASE_ADICITY in
    next_is_least s.adicity _ _ _ c.in_ok-power.ensures e.power_le e.next_power_gt e.bound (omega arith)

pub returns-then-twos-TWO_ADICITY-clause-splits : goal.returns-then-twos-TWO_ADICITY-clause-splits
returns-then-twos-TWO_ADICITY-clause-splits g c =
    let s = g.F.FftField in
    let e = c.ilog2-twos.ensures in
    let t = c.if-twos-TWO_ADICITY.true in
    let f = c.TWO_ADICITY.ensures in
    let two : s.adicity.two ≡ s.TWO_ADICITY = ap (λ a. a.two) g.met.F.FftField.adicity_law ∙ two_of s.TWO_ADICITY s.SMALL_SUBGROUP_BASE s.SMALL_SUBGROUP_BASE_ADICITY in
    next_splits s.adicity _ _ _ c.in_ok-power.ensures e.power_le e.next_power_gt e.bound (omega arith)

pub returns-then-twos-TWO_ADICITY-clause-none : goal.returns-then-twos-TWO_ADICITY-clause-none
returns-then-twos-TWO_ADICITY-clause-none g c = ((λ h. cc), λ none. absurd (none _ (returns-then-twos-TWO_ADICITY-clause-least g c)))

pub returns-else-twos-TWO_ADICITY-clause-none : goal.returns-else-twos-TWO_ADICITY-clause-none
returns-else-twos-TWO_ADICITY-clause-none g c =
    let s = g.F.FftField in
    let e = c.ilog2-twos.ensures in
    let t = c.if-twos-TWO_ADICITY.false in
    let f = c.TWO_ADICITY.ensures in
    let two : s.adicity.two ≡ s.TWO_ADICITY = ap (λ a. a.two) g.met.F.FftField.adicity_law ∙ two_of s.TWO_ADICITY s.SMALL_SUBGROUP_BASE s.SMALL_SUBGROUP_BASE_ADICITY in
    ((λ h. none_past_adicity s.adicity _ _ _ c.in_ok-power.ensures e.power_le e.next_power_gt (omega arith)), (λ none. refl))
