use Rattle.std.proofs.Common.{◌≡◌, length, subst, sym, ap, ◌∙◌}
use Rattle.std.proofs.lemmas.Result.{IfOk-weaker}
use Rattle.ark_math.specs.Univariate.{IsBelow, of_list}
use Rattle.ark_math_polynomials.proofs.Polynomials.UnivariateLists.{of_list-below}
use Rattle.ark_subproducts.proofs.PowerSums.{weighed_by_power_sums}
use Rattle.ark_subproducts.proofs.few.weighed_few.Goals as goal

pub returns-clause-sum : goal.returns-clause-sum
returns-clause-sum g c =
    let K = g.F.Field.field in
    let points = c.args.points.now in
    let w = of_list K c.args.weights.now in
    let sums = c.deref.result.now in
    let same = c.deref.ensures.value in
    let count : length sums ≡ length points = ap length same ∙ c.in_ok-sums.ensures.len in
    IfOk-weaker c.product_past.result _ _
    (λ s past. past ∙ sym (weighed_by_power_sums K g.met.F.Field.field_laws points w (of_list K sums)
    (subst (λ n. IsBelow K n (of_list K sums)) count (of_list-below K sums))
    (λ k l. ap (λ t. of_list K t k) same ∙ c.in_ok-sums.ensures.sums k l)))
    c.product_past.ensures.past
