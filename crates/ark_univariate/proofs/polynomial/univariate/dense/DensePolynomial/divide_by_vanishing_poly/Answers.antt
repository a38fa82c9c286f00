use Rattle.std.proofs.Common.{◌<◌, length, subst, sym, ap, ap₂, ◌∙◌}
use Rattle.ark_math_domains.specs.Points.{vanishing}
use Rattle.ark_math.specs.Univariate.{of_list, added, product, IsBelow}
use Rattle.ark_math_domains.proofs.Domains.LawfulDomains.{lawful_domain, some_size}
use Rattle.ark_math_domains.proofs.OverDomains.Vanishing.{vanishing-quotient}
use Rattle.ark_math_polynomials.proofs.Polynomials.Binomials.{binomial}
use Rattle.ark_math_polynomials.proofs.Polynomials.Quotients.{one_quotient}
use Rattle.ark_math_polynomials.proofs.Polynomials.UnivariateLists.{of_list-below}
use Rattle.ark_univariate.proofs.polynomial.univariate.dense.DensePolynomial.divide_by_vanishing_poly.Goals as goal

pub divided_by_binomial-requires : goal.divided_by_binomial-requires
divided_by_binomial-requires g c =
    let D = lawful_domain g.met.F.Field.field_laws g.met.F.FftField.roots_law (g.met.D.EvaluationDomain.lawful c.args.domain) in
    subst (λ n. 0 < n) (sym c.size-n.ensures) (some_size D)

pub returns-clause-division : goal.returns-clause-division
returns-clause-division g c =
    let K = g.F.Field.field in
    let v = vanishing K (g.D.EvaluationDomain.domain c.args.domain) in
    let rest = of_list K c.in_ok-quotient.remainder.items in
    ap (of_list K) (sym (c.deref.ensures.value ∙ c.self.view_is))
    ∙ c.in_ok-quotient.ensures.division
    ∙ ap₂ (λ s t. added K (product K s t) rest) (sym c.from_coefficients_vec.ensures.coefficients) (ap₂ (binomial K) c.size-n.ensures c.coset_offset_pow_size-constant.ensures)
    ∙ ap (added K (product K (of_list K c.from_coefficients_vec.result) v)) (sym c.from_coefficients_vec-2.ensures.coefficients)

pub returns-clause-below : goal.returns-clause-below
returns-clause-below g c =
    let K = g.F.Field.field in
    subst (λ n. IsBelow K n (of_list K c.from_coefficients_vec-2.result)) c.size-n.ensures
    (subst (IsBelow K c.size-n.result) (sym c.from_coefficients_vec-2.ensures.coefficients) c.in_ok-quotient.ensures.below)

pub returns-clause-only : goal.returns-clause-only
returns-clause-only g c q r other =
    let K = g.F.Field.field in
    let N = g.met.F.Field.field_laws in
    let d = g.D.EvaluationDomain.domain c.args.domain in
    let D = lawful_domain g.met.F.Field.field_laws g.met.F.FftField.roots_law (g.met.D.EvaluationDomain.lawful c.args.domain) in
    let a = of_list K c.args.self.now in
    let quotient = c.from_coefficients_vec.result in
    let rest = of_list K c.from_coefficients_vec-2.result in
    one_quotient K N a (vanishing K d) q r (of_list K quotient) rest other
    (vanishing-quotient K N d a (of_list K quotient) rest (length quotient) (some_size D) (of_list-below K quotient) (returns-clause-below g c) (returns-clause-division g c))
