use Rattle.std.proofs.Common.{sym, subst}
use Rattle.ark_math.specs.Univariate.{of_list, IsDivision}
use Rattle.ark_quotients.specs.Divisors.{denoted as coefficients_denote}
use Rattle.ark_univariate.specs.DenseOrSparse.{denoted}
use Rattle.ark_univariate.proofs.polynomial.univariate.dense_or_sparse.DenseOrSparsePolynomial.divide_with_q_and_r.Goals as goal

pub returns-clause-division : goal.returns-clause-division
returns-clause-division g c =
    let K = g.F.Field.field in
    let a = denoted K c.args.self.now in
    let d = denoted K c.args.divisor.now in
    let q = of_list K c.in-Some.quotient.items in
    let r = of_list K c.in-Some.remainder.items in
    subst (λ t. IsDivision K a d t (of_list K c.from_coefficients_vec-2.result)) (sym c.from_coefficients_vec.ensures.coefficients)
    (subst (IsDivision K a d q) (sym c.from_coefficients_vec-2.ensures.coefficients)
    (subst (λ t. IsDivision K a t q r) c.coefficients-2.ensures.same
    (subst (λ t. IsDivision K t (coefficients_denote K c.coefficients-2.result) q r) c.coefficients.ensures.same (rw c.in-Some.is at c.in_ok-quotient.ensures.division))))
