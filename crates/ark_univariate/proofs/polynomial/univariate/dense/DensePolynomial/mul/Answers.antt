use Rattle.std.proofs.Common.{◌≡◌, sym, ap, rules, refl, ◌∙◌, ◌==◌}
use Rattle.ark_math.specs.Univariate.{of_list, nothing, product}
use Rattle.ark_math_polynomials.proofs.Polynomials.UnivariateLists.{trimmed_none_Decides}
use Rattle.ark_math_polynomials.proofs.Polynomials.UnivariateProducts.{nothing-product, product-nothing}
use Rattle.ark_math.proofs.Outcomes.Results.{IfOk_more}
use Rattle.ark_univariate.proofs.polynomial.univariate.dense.DensePolynomial.mul.Goals.{then-is_empty-via-then-is_empty, then-is_empty-via-else-is_empty+then-is_empty-2}
use Rattle.ark_univariate.proofs.polynomial.univariate.dense.DensePolynomial.mul.Goals as goal

pub returns-then-is_empty-clause-product : goal.returns-then-is_empty-clause-product
returns-then-is_empty-clause-product g c =
    let K = g.F.Field.field in
    let N = g.met.F.Field.field_laws in
    let p = c.self.inside.coeffs in
    let q = c.other.inside.coeffs in
    let left = of_list K p.items in
    let right = of_list K q.items in
    let none : product K left right ≡ nothing K =
    elim c.then-is_empty.branch [
      | then-is_empty-via-then-is_empty w ↦
          let zero : left ≡ nothing K = (trimmed_none_Decides K p.items c.is_empty.result c.self.invariant (c.is_empty.ensures ∙ ap (λ n. n == 0) p.ok.0)).0 w.if-is_empty.true in
          ap (λ t. product K t right) zero ∙ nothing-product K N right
      | then-is_empty-via-else-is_empty+then-is_empty-2 w ↦
          let zero : right ≡ nothing K = (trimmed_none_Decides K q.items w.is_empty-else-is_empty.result c.other.invariant (w.is_empty-else-is_empty.ensures ∙ ap (λ n. n == 0) q.ok.0)).0 w.if-is_empty-2.true in
          ap (product K left) zero ∙ product-nothing K N left
    ] in
    rw (← c.self.view_is, ← c.other.view_is) (IfOk_more c.zero.result (λ p e. e ∙ sym none) c.zero.ensures.zero)

pub returns-clause-product : goal.returns-clause-product
returns-clause-product g c = c.product_through.ensures.product

pub returns-in_default-clause-none : goal.returns-in_default-clause-none
returns-in_default-clause-none g c = (λ e. search rules, λ h. refl)
