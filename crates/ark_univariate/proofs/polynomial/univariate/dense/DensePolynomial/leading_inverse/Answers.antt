use Rattle.std.proofs.Common.{◌≡◌, length, ap, rules, subst, IsNone}
use Rattle.std.proofs.lemmas.List.{nil_from_length}
use Rattle.ark_math.specs.Univariate.{of_list, IsTrimmed}
use Rattle.ark_math_polynomials.proofs.Polynomials.UnivariateLists.{trimmed_nothing}
use Rattle.ark_univariate.proofs.polynomial.univariate.dense.DensePolynomial.leading_inverse.Goals as goal

pub returns-clause-none : goal.returns-clause-none
returns-clause-none g c =
    let K = g.F.Field.field in
    let coeffs = c.args.self.now in
    let empty : (IsNone c.inverse.result → length coeffs ≡ 0) × (length coeffs ≡ 0 → IsNone c.inverse.result) = search rules in
    ((λ e. ap (of_list K) (nil_from_length coeffs (empty.0 e))), (λ e. empty.1 (ap length (trimmed_nothing K coeffs (subst (IsTrimmed K) c.coeffs.ensures.same c.coeffs.ensures.trimmed) e))))
