use Rattle.std.proofs.Common.{◌≡◌, ◌↔◌, ◌<◌, ◌/◌, Result, Err, All, length, sym, ap, subst, ◌∙◌, rules}
use Rattle.ark_math.specs.Univariate.{of_list}
use Rattle.ark_words.specs.declared.error.WordsError.{WordsError}
use Rattle.ark_words.specs.declared.error.WordsError.TheVariants.{NotReduced, EqualPoints}
use Rattle.ark_words.specs.Interpolations.{FitInterpolation, ArePointsDifferent, HasEqualPoints, AreInterpolating}
use Rattle.ark_words.specs.Numbers.{BothReduced}
use Rattle.ark_numbers.proofs.Values.{number_field}
use Rattle.ark_words.proofs.EqualPoints.{points_not_reduced, points_equal, not_repeated}
use Rattle.ark_words.proofs.Through.{different_numbers, interpolating_written}
use Rattle.ark_words.proofs.WordLists.{numbers_below, length_read}
use Rattle.ark_words.proofs.WordPolynomials.{AreWritten}
use Rattle.ark_words.proofs.interpolations.interpolate.Goals as goal

pub returns-in_default-clause-equal_points : goal.returns-in_default-clause-equal_points
returns-in_default-clause-equal_points g c =
    let points = c.args.points.now in
    let values = c.args.values.now in
    let whole = rw c.WIDTH-width.ensures at c.if-points-width-ne0.false in
    subst (λ f. (◌≡◌ {A = Result (Unit {0}) WordsError} (Err c.refusal_of_points.result) (Err EqualPoints)) ↔ (FitInterpolation f points values c.args.coefficients.now × BothReduced f points values × HasEqualPoints f points))
    (sym g.met.F.WordElement.spelled_law)
    (points_equal _ _ _ c.refusal_of_points.result (whole, c.if-values-points.false, c.if-coefficients-points.false) c.refusal_of_points.ensures)

pub through-requires : goal.through-requires
through-requires g c =
    let number = g.F.PrimeNumbers.numbering.number in
    let width = g.F.WordElement.WIDTH in
    let read = c.in-Ok.ensures in
    ap length c.deref-2.ensures.value ∙ length_read number width c.in-Ok.ys.items c.args.values.now read.right
    ∙ ap (λ n. n / width) c.if-values-points.false
    ∙ sym (ap length c.deref.ensures.value ∙ length_read number width c.in-Ok.xs.items c.args.points.now read.left)

pub returns-in_default-through-clause-not_reduced : goal.returns-in_default-through-clause-not_reduced
returns-in_default-through-clause-not_reduced g c =
    let points = c.args.points.now in
    let values = c.args.values.now in
    let whole = rw c.WIDTH-width.ensures at c.if-points-width-ne0.false in
    subst (λ f. (◌≡◌ {A = Result (Unit {0}) WordsError} (Err c.refusal_of_points-in_default-through.result) (Err NotReduced)) ↔ (FitInterpolation f points values c.args.coefficients.now × (¬ BothReduced f points values)))
    (sym g.met.F.WordElement.spelled_law)
    (points_not_reduced _ _ _ c.refusal_of_points-in_default-through.result (whole, c.if-values-points.false, c.if-coefficients-points.false) c.refusal_of_points-in_default-through.ensures)

pub returns-in_default-through-clause-equal_points : goal.returns-in_default-through-clause-equal_points
returns-in_default-through-clause-equal_points g c =
    let points = c.args.points.now in
    let values = c.args.values.now in
    let whole = rw c.WIDTH-width.ensures at c.if-points-width-ne0.false in
    subst (λ f. (◌≡◌ {A = Result (Unit {0}) WordsError} (Err c.refusal_of_points-in_default-through.result) (Err EqualPoints)) ↔ (FitInterpolation f points values c.args.coefficients.now × BothReduced f points values × HasEqualPoints f points))
    (sym g.met.F.WordElement.spelled_law)
    (points_equal _ _ _ c.refusal_of_points-in_default-through.result (whole, c.if-values-points.false, c.if-coefficients-points.false) c.refusal_of_points-in_default-through.ensures)

pub returns-clause-coefficients : goal.returns-clause-coefficients
returns-clause-coefficients g c =
    let F = g.F.PrimeNumbers in
    let laws = g.met.F.PrimeNumbers in
    let S = number_field F.numbering F.prime laws.field_law laws.generator_law laws.root_law g.met.F.FftField.roots_law in
    let read = c.in-Ok.ensures in
    let width = g.F.WordElement.WIDTH in
    let new = c.put_with_zeros.new.words in
    let same = c.put_with_zeros.auto.words in
    let found = of_list g.F.Field.field c.in-Ok-through.found in
    let says = c.in-Ok-through.ensures in
    let written : AreWritten S width found new =
    λ i l. c.put_with_zeros.ensures i (subst (λ n. i < n / width) same l) ∙ ap (λ items. F.numbering.number (of_list g.F.Field.field items i)) c.coeffs.ensures.same in
    subst (λ f. AreInterpolating f c.args.points.now c.args.values.now new) (sym g.met.F.WordElement.spelled_law)
    (interpolating_written S width c.args.points.now c.args.values.now new c.in-Ok.xs.items c.in-Ok.ys.items found read.left read.right
    c.if-values-points.false (same ∙ c.if-coefficients-points.false)
    (rw c.deref.ensures.value at says.below)
    (rw (c.deref.ensures.value, c.deref-2.ensures.value) at says.values)
    (rw (c.deref.ensures.value, c.deref-2.ensures.value) at says.only)
    written)

pub returns-clause-taken : goal.returns-clause-taken
returns-clause-taken g c =
    let F = g.F.PrimeNumbers in
    let laws = g.met.F.PrimeNumbers in
    let S = number_field F.numbering F.prime laws.field_law laws.generator_law laws.root_law g.met.F.FftField.roots_law in
    let P = All (λ x. x < F.modulus) in
    let read = c.in-Ok.ensures in
    let points = c.args.points.now in
    let values = c.args.values.now in
    let whole = rw c.WIDTH-width.ensures at c.if-points-width-ne0.false in
    subst (λ f. FitInterpolation f points values c.args.coefficients.now × BothReduced f points values × ArePointsDifferent f points) (sym g.met.F.WordElement.spelled_law) (
      (whole, c.if-values-points.false, c.if-coefficients-points.false),
      (subst P read.left (numbers_below F.numbering c.in-Ok.xs.items), subst P read.right (numbers_below F.numbering c.in-Ok.ys.items)),
      different_numbers S g.F.WordElement.WIDTH c.in-Ok.xs.items points read.left (rw c.deref.ensures.value at c.in-Ok-through.ensures.different),
    )

pub returns-clause-not_reduced : goal.returns-clause-not_reduced
returns-clause-not_reduced g c =
    let F = g.F.PrimeNumbers in
    let P = All (λ x. x < F.modulus) in
    let read = c.in-Ok.ensures in
    let reduced = subst (λ f. BothReduced f c.args.points.now c.args.values.now) (sym g.met.F.WordElement.spelled_law)
    (subst P read.left (numbers_below F.numbering c.in-Ok.xs.items), subst P read.right (numbers_below F.numbering c.in-Ok.ys.items)) in
    ((λ e. absurd (search rules)), (λ h. absurd (h.1 reduced)))

pub returns-clause-equal_points : goal.returns-clause-equal_points
returns-clause-equal_points g c =
    let F = g.F.PrimeNumbers in
    let laws = g.met.F.PrimeNumbers in
    let S = number_field F.numbering F.prime laws.field_law laws.generator_law laws.root_law g.met.F.FftField.roots_law in
    let width = g.F.WordElement.WIDTH in
    let points = c.args.points.now in
    let different = subst (λ f. ArePointsDifferent f points) (sym g.met.F.WordElement.spelled_law)
    (different_numbers S width c.in-Ok.xs.items points c.in-Ok.ensures.left (rw c.deref.ensures.value at c.in-Ok-through.ensures.different)) in
    ((λ e. absurd (search rules)), (λ h. absurd (not_repeated _ _ different h.2)))
