use Rattle.std.proofs.Common.{◌+◌, sym, subst}
use Rattle.ark_math.specs.Univariate.{IsDegree}
use Rattle.ark_math_polynomials.proofs.Polynomials.Univariate.{one_degree, leading_not_zero}
use Rattle.ark_math_polynomials.proofs.Polynomials.UnivariateProducts.{product-degree}
use Rattle.ark_poly.proofs.laws.univariate.degree_of_product.Goals as goal

pub returns-clause-sum : goal.returns-clause-sum
returns-clause-sum g c m n A B =
    let K = g.F.Field.field in
    let sum = product-degree K g.met.F.Field.field_laws m n _ _ (leading_not_zero K _ m A c.requires.left) (leading_not_zero K _ n B c.requires.right) A B in
    one_degree K _ _ _ c.degree.ensures (subst (λ a. IsDegree K a (m + n)) (sym c.in_ok-product.ensures.product) sum)
