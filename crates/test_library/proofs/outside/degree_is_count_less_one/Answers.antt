use Rattle.std.proofs.Common.{◌≡◌, ◌-◌, length, subst, sym, ap, ◌∙◌}
use Rattle.std.specs.Cmp.{unsigned_Decides}
use Rattle.ark_math.specs.Univariate.{IsDegree, of_list}
use Rattle.ark_math_polynomials.proofs.Polynomials.UnivariateLists.{trimmed_degree_is}
use Rattle.test_library.proofs.outside.degree_is_count_less_one.Goals as goal

pub returns : goal.returns
returns g c =
    let K = g.F.Field.field in
    let P = g.met.P.DenseUVPolynomial in
    let coeffs = c.coeffs.result.now in
    let degree = subst (λ a. IsDegree K a c.degree.result) (ap (of_list K) (sym c.coeffs.ensures.same)) (P.degree_is c.args.polynomial.now c.degree.result c.degree.ensures) in
    let is : c.degree.result ≡ length coeffs - 1 = trimmed_degree_is K coeffs c.degree.result c.coeffs.ensures.trimmed degree in
    (unsigned_Decides _ _).1 (is ∙ sym c.saturating_sub.ensures)
