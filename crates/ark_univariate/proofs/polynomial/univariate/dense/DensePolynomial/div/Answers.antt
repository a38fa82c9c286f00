use Rattle.std.proofs.Common.{◌∙◌, ap, sym, subst}
use Rattle.ark_math.specs.Univariate.{of_list, IsDivision}
use Rattle.ark_univariate.proofs.polynomial.univariate.dense.DensePolynomial.div.Goals as goal

pub returns-clause-division : goal.returns-clause-division
returns-clause-division g c =
    let K = g.F.Field.field in
    let a = of_list K c.args.self.now in
    let d = of_list K c.args.divisor.now in
    let q = of_list K c.in-Some.quotient.items in
    let r = of_list K c.in-Some.field-0-1.items in
    let dividend = ap (of_list K) (c.deref.ensures.value ∙ c.self.view_is) in
    let divisor = ap (of_list K) (c.deref-2.ensures.value ∙ c.divisor.view_is) in (
      r,
      subst (λ t. IsDivision K a d t r) (sym c.from_coefficients_vec.ensures.coefficients)
          (subst (λ t. IsDivision K a t q r) divisor
          (subst (λ t. IsDivision K t (of_list K c.deref-2.result.now) q r) dividend (rw c.in-Some.is at c.in_ok-quotient.ensures.division))),
    )
