use Rattle.std.proofs.Common.{◌≤◌, ◌+◌, ◌-◌, length, subst, sym, ap, ap₂, ◌∙◌, arith, map}
use Rattle.std.proofs.lemmas.List.{length-map}
use Rattle.ark_math_domains.specs.Points.{AreValues}
use Rattle.ark_math.specs.Transform.{transform}
use Rattle.ark_math.specs.Univariate.{IsBelow, of_list, product}
use Rattle.ark_univariate.proofs.Lanes.{lanes, side_by_side, values_of_lanes}
use Rattle.ark_math_domains.proofs.Callers.Transforms.{transform-length}
use Rattle.ark_math_domains.proofs.Domains.LawfulDomains.{lawful_domain, only_interpolation}
use Rattle.ark_math.proofs.Outcomes.Results.{IfOk_both}
use Rattle.ark_math_polynomials.proofs.Polynomials.Univariate.{IsBelow-more}
use Rattle.ark_math_polynomials.proofs.Polynomials.UnivariateLists.{of_list-below}
use Rattle.ark_math_polynomials.proofs.Polynomials.UnivariateProducts.{product-below}
use Rattle.ark_univariate.proofs.polynomial.univariate.dense.DensePolynomial.product_through.Goals as goal

pub from_vec_and_domain-requires : goal.from_vec_and_domain-requires
from_vec_and_domain-requires g c =
    let K = g.F.Field.field in
    let d = g.D.EvaluationDomain.domain c.args.domain in
    let F = g.row.F.Denot in
    let pair : F → F → F × F = λ x y. (x, y) in
    ap length c.in_ok-values.ensures
    ∙ length-map (map (λ v. pair v.first v.second) c.deref-3.result.now) (λ t. K.times t.0 t.1)
    ∙ ap (λ t. length (map (λ v. pair v.first v.second) t)) c.deref-3.ensures.value
    ∙ ap length c.in_ok-fft_in_place.ensures.transform
    ∙ transform-length K (lanes K) d (map (λ v. pair v.first v.second) c.in_ok-lanes.lanes.items)

pub returns-clause-product : goal.returns-clause-product
returns-clause-product g c =
    let K = g.F.Field.field in
    let N = g.met.F.Field.field_laws in
    let d = g.D.EvaluationDomain.domain c.args.domain in
    let D = lawful_domain N g.met.F.FftField.roots_law (g.met.D.EvaluationDomain.lawful c.args.domain) in
    let left = c.args.self.now in
    let right = c.args.other.now in
    let F = g.row.F.Denot in
    let pair : F → F → F × F = λ x y. (x, y) in
    let short : length left ≤ d.size = omega (arith, c.requires.other_nonempty, c.requires.room) in
    let low : length right ≤ d.size = omega (arith, c.requires.nonempty, c.requires.room) in
    let both =
    c.in_ok-lanes.ensures
    ∙ ap₂ (λ s t. side_by_side K s t c.size.result) (c.deref.ensures.value ∙ c.self.view_is) (c.deref-2.ensures.value ∙ c.other.view_is)
    ∙ ap (side_by_side K left right) c.size.ensures in
    let transformed = c.in_ok-fft_in_place.ensures.transform ∙ ap (transform K (lanes K) d) both in
    let items = c.in_ok-values.ensures ∙ ap (λ t. map (λ u. K.times u.0 u.1) (map (λ v. pair v.first v.second) t)) c.deref-3.ensures.value in
    let values = values_of_lanes K N d left right short low (map (λ v. pair v.first v.second) c.fft_in_place.new.coeffs.items) c.in_ok-values.values.items transformed items in
    let below : IsBelow K d.size (product K (of_list K left) (of_list K right)) =
    IsBelow-more K (length left + length right - 1) _ _ c.requires.room
    (product-below K N (length left) (length right) (of_list K left) (of_list K right) (of_list-below K left) (of_list-below K right)) in
    let same = c.from_vec_and_domain.ensures.domain in
    let evals = c.from_vec_and_domain.ensures.evals in
    IfOk_both c.interpolate.result
    (λ p has rest. only_interpolation D _ _ _ rest below has (subst (AreValues K d (product K (of_list K left) (of_list K right))) (sym evals) values))
    (rw same at c.interpolate.ensures.values)
    (rw same at c.interpolate.ensures.below)
