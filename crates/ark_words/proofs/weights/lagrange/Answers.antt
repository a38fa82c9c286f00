use Rattle.std.proofs.Common.{◌<◌, ◌/◌, All, length, map, refl, sym, ap, subst, ◌∙◌, mod-eq_of_lt, rules}
use Rattle.ark_math_domains.specs.Points.{AreWeights}
use Rattle.ark_math.specs.Words.{number_of_words}
use Rattle.ark_univariate.specs.Domains.{general_domain}
use Rattle.ark_numbers.specs.Fields.{operations}
use Rattle.ark_numbers.specs.Answers.{coset_of}
use Rattle.ark_numbers.proofs.Values.{number_field, shown_field, not_zero}
use Rattle.ark_words.specs.Numbers.{HaveDomain}
use Rattle.ark_words.specs.Weights.{FitWeights, ArePlaced, AreLagrange}
use Rattle.ark_words.proofs.Weighed.{weights_carried}
use Rattle.ark_words.proofs.WordLists.{numbers_below, length_read, whole_words}
use Rattle.ark_words.proofs.weights.lagrange.Goals as goal

pub returns-in_default-evaluate_all_lagrange_coefficients-clause-no_domain : goal.returns-in_default-evaluate_all_lagrange_coefficients-clause-no_domain
returns-in_default-evaluate_all_lagrange_coefficients-clause-no_domain g c =
    let F = g.F.PrimeNumbers in
    let laws = g.met.F.PrimeNumbers in
    let S = number_field F.numbering F.prime laws.field_law laws.generator_law laws.root_law g.met.F.FftField.roots_law in
    let found = rw c.WIDTH-width.ensures at c.in-Some-exact_domain.ensures.some in
    let some = found.0 refl in
    let domain = subst (λ f. HaveDomain f c.args.weights.now c.args.offset.now) (sym g.met.F.WordElement.spelled_law)
    (some.0, not_zero S c.in-Some.offset _ c.in-Some.ensures.some some.1) in
    ((λ e. absurd (search rules)), (λ h. absurd (h.2 domain)))

pub put-requires : goal.put-requires
put-requires g c =
    let whole = rw c.WIDTH-width.ensures at c.if-weights-width-ne0.false in
    let size = rw c.WIDTH-width.ensures at c.in-Some-exact_domain.ensures.size in
    whole_words g.F.WordElement.WIDTH (length c.deref.result.now) c.args.weights.now whole (ap length c.deref.ensures.value ∙ c.in-Ok.ensures.weights.count ∙ size)

pub returns-clause-weights : goal.returns-clause-weights
returns-clause-weights g c =
    let F = g.F.PrimeNumbers in
    let laws = g.met.F.PrimeNumbers in
    let S = number_field F.numbering F.prime laws.field_law laws.generator_law laws.root_law g.met.F.FftField.roots_law in
    let d = general_domain c.in-Some-exact_domain.domain in
    let found = c.in-Ok.found.items in
    let h = number_of_words c.args.offset.now in
    let x = number_of_words c.args.point.now in
    let below = subst (λ n. n < F.modulus) c.in-Some.ensures.some (F.numbering.below c.in-Some.offset) in
    let offset = ap F.numbering.number c.in-Some-exact_domain.ensures.offset ∙ c.in-Some.ensures.some ∙ sym (mod-eq_of_lt below) in
    let written = c.put.ensures ∙ ap (map F.numbering.number) c.deref.ensures.value in
    let count = sym c.in-Ok.ensures.weights.count ∙ length_read F.numbering.number g.F.WordElement.WIDTH found c.put.new.words (sym written) in
    subst (λ f. AreLagrange f c.args.offset.now c.args.point.now c.put.new.words) (sym g.met.F.WordElement.spelled_law) (
      subst (AreWeights (operations (shown_field S)) (coset_of (shown_field S) (length c.put.new.words / g.F.WordElement.WIDTH) h) x) (sym written)
          (subst (λ n. AreWeights (operations (shown_field S)) (coset_of (shown_field S) n h) x (map F.numbering.number found)) count
          (weights_carried S d h x c.in-Some-from_words.point found c.in-Some-exact_domain.ensures.lawful offset c.in-Some-from_words.ensures.some c.in-Ok.ensures.weights)),
      subst (All (λ x. x < F.modulus)) (sym written) (numbers_below F.numbering found),
    )

pub returns-clause-taken : goal.returns-clause-taken
returns-clause-taken g c =
    let F = g.F.PrimeNumbers in
    let laws = g.met.F.PrimeNumbers in
    let S = number_field F.numbering F.prime laws.field_law laws.generator_law laws.root_law g.met.F.FftField.roots_law in
    let whole = rw c.WIDTH-width.ensures at c.if-weights-width-ne0.false in
    let one = rw c.WIDTH-width.ensures at c.if-offset-width.false in
    let one_point = rw c.WIDTH-width.ensures at c.if-point-width.false in
    let below = subst (λ n. n < F.modulus) c.in-Some.ensures.some (F.numbering.below c.in-Some.offset) in
    let point_below = subst (λ n. n < F.modulus) c.in-Some-from_words.ensures.some (F.numbering.below c.in-Some-from_words.point) in
    let found = rw c.WIDTH-width.ensures at c.in-Some-exact_domain.ensures.some in
    let some = found.0 refl in
    subst (λ f. FitWeights f c.args.offset.now c.args.point.now c.args.weights.now × ArePlaced f c.args.offset.now c.args.point.now × HaveDomain f c.args.weights.now c.args.offset.now) (sym g.met.F.WordElement.spelled_law)
    ((whole, one, one_point), (below, point_below), (some.0, not_zero S c.in-Some.offset _ c.in-Some.ensures.some some.1))

pub returns-clause-no_domain : goal.returns-clause-no_domain
returns-clause-no_domain g c =
    let F = g.F.PrimeNumbers in
    let laws = g.met.F.PrimeNumbers in
    let S = number_field F.numbering F.prime laws.field_law laws.generator_law laws.root_law g.met.F.FftField.roots_law in
    let found = rw c.WIDTH-width.ensures at c.in-Some-exact_domain.ensures.some in
    let some = found.0 refl in
    let domain = subst (λ f. HaveDomain f c.args.weights.now c.args.offset.now) (sym g.met.F.WordElement.spelled_law)
    (some.0, not_zero S c.in-Some.offset _ c.in-Some.ensures.some some.1) in
    ((λ e. absurd (search rules)), (λ h. absurd (h.2 domain)))
