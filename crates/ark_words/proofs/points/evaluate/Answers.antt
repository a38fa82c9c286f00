use Rattle.std.proofs.Common.{◌<◌, ◌/◌, ◌%◌, All, length, map, sym, ap, subst, ◌∙◌, rules}
use Rattle.ark_words.specs.Numbers.{FitValues, BothReduced, AreEvaluated}
use Rattle.ark_numbers.proofs.Values.{number_field, values_at_carried}
use Rattle.ark_words.proofs.WordLists.{numbers_below, whole_words, length_read}
use Rattle.ark_words.proofs.points.evaluate.Goals as goal

pub returns-in_default-clause-not_reduced : goal.returns-in_default-clause-not_reduced
returns-in_default-clause-not_reduced g c =
    let F = g.F.PrimeNumbers in
    let P = All (λ x. x < F.modulus) in
    let read = c.in_ok-coefficients.ensures in
    let reduced = subst (λ f. BothReduced f c.args.coefficients.now c.args.points.now) (sym g.met.F.WordElement.spelled_law)
    (subst P read.left (numbers_below F.numbering c.in_ok-coefficients.coefficients.items), subst P read.right (numbers_below F.numbering c.in_ok-coefficients.points.items)) in
    ((λ e. absurd (search rules)), (λ h. absurd (h.1 reduced)))

pub put-requires : goal.put-requires
put-requires g c =
    let number = g.F.PrimeNumbers.numbering.number in
    let width = g.F.WordElement.WIDTH in
    let whole = rw c.WIDTH-width.ensures at c.if-points-width-ne0.false in
    let same = c.if-values-points.false in
    whole_words width (length c.deref-2.result.now) c.args.values.now (ap (λ n. n % width) same ∙ whole)
    (ap length c.deref-2.ensures.value ∙ c.in-Ok.ensures.len ∙ ap length c.deref.ensures.value
    ∙ length_read number width c.in_ok-coefficients.points.items c.args.points.now c.in_ok-coefficients.ensures.right
    ∙ ap (λ n. n / width) (sym same))

pub returns-clause-values : goal.returns-clause-values
returns-clause-values g c =
    let F = g.F.PrimeNumbers in
    let laws = g.met.F.PrimeNumbers in
    let S = number_field F.numbering F.prime laws.field_law laws.generator_law laws.root_law g.met.F.FftField.roots_law in
    let read = c.in_ok-coefficients.ensures in
    subst (λ f. AreEvaluated f c.args.coefficients.now c.args.points.now c.put.new.words) (sym g.met.F.WordElement.spelled_law)
    (c.put.ensures ∙ ap (map F.numbering.number) c.deref-2.ensures.value
    ∙ values_at_carried S _ _ c.in_ok-coefficients.coefficients.items c.in_ok-coefficients.points.items c.in-Ok.found.items _ read.left read.right
    c.from_coefficients_vec-polynomial.ensures.coefficients (c.in-Ok.ensures.len ∙ ap length c.deref.ensures.value) (rw c.deref.ensures.value at c.in-Ok.ensures.values))

pub returns-clause-taken : goal.returns-clause-taken
returns-clause-taken g c =
    let F = g.F.PrimeNumbers in
    let P = All (λ x. x < F.modulus) in
    let read = c.in_ok-coefficients.ensures in
    let whole = rw c.WIDTH-width.ensures at c.if-coefficients-width-ne0.false in
    let points_whole = rw c.WIDTH-width.ensures at c.if-points-width-ne0.false in
    subst (λ f. FitValues f c.args.coefficients.now c.args.points.now c.args.values.now × BothReduced f c.args.coefficients.now c.args.points.now) (sym g.met.F.WordElement.spelled_law) (
      (whole, points_whole, c.if-values-points.false),
      (subst P read.left (numbers_below F.numbering c.in_ok-coefficients.coefficients.items), subst P read.right (numbers_below F.numbering c.in_ok-coefficients.points.items)),
    )

pub returns-clause-not_reduced : goal.returns-clause-not_reduced
returns-clause-not_reduced g c =
    let F = g.F.PrimeNumbers in
    let P = All (λ x. x < F.modulus) in
    let read = c.in_ok-coefficients.ensures in
    let reduced = subst (λ f. BothReduced f c.args.coefficients.now c.args.points.now) (sym g.met.F.WordElement.spelled_law)
    (subst P read.left (numbers_below F.numbering c.in_ok-coefficients.coefficients.items), subst P read.right (numbers_below F.numbering c.in_ok-coefficients.points.items)) in
    ((λ e. absurd (search rules)), (λ h. absurd (h.1 reduced)))
