use Rattle.std.proofs.Common.{◌≡◌, sym, subst, ap, ap₂, ◌∙◌}
use Rattle.ark_math.specs.Module.{itself, sum_below}
use Rattle.ark_math.specs.Univariate.{of_list, IsValue}
use Rattle.ark_math_domains.proofs.OverDomains.Weights.{weighted_values}
use Rattle.ark_poly.proofs.laws.univariate.weighted_sum.Goals as goal

pub returns-clause-value : goal.returns-clause-value
returns-clause-value g c a below values =
    let K = g.F.Field.field in
    let d = g.D.EvaluationDomain.domain c.args.values.now.domain in
    let part = sum_below (itself K) in
    let weights = c.in_ok-weights.weights.items in
    let evals = c.args.values.now.evals in
    let is : c.sum_of_products.result ≡ part d.size (λ i. K.times (of_list K weights i) (of_list K evals i)) =
    c.sum_of_products.ensures
    ∙ ap (λ n. part n (λ i. K.times (of_list K c.deref.result.now i) (of_list K c.evals.result.now i))) c.evals.ensures.whole
    ∙ ap₂ (λ l v. part d.size (λ i. K.times (of_list K l i) (of_list K v i))) c.deref.ensures.value c.evals.ensures.same in
    subst (IsValue K a c.args.tau) (sym is) (weighted_values K g.met.F.Field.field_laws d c.args.tau weights (rw c.domain.ensures at c.in_ok-weights.ensures.weights) a evals below values)
