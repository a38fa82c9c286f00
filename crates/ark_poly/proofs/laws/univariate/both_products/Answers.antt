use Rattle.std.proofs.Common.{sym, ◌∙◌}
use Rattle.ark_math_polynomials.proofs.Polynomials.Trimmed.{trim_equality}
use Rattle.ark_math_polynomials.proofs.Polynomials.UnivariateLists.{same_trimmed}
use Rattle.ark_poly.proofs.laws.univariate.both_products.Goals as goal

pub returns-clause-same : goal.returns-clause-same
returns-clause-same g c =
    same_trimmed g.F.Field.field _ _ (rw c.coeffs.ensures.same at c.coeffs.ensures.trimmed) (rw c.coeffs-2.ensures.same at c.coeffs-2.ensures.trimmed)
    (c.in_ok-fast.ensures.product ∙ sym c.in_ok-naive.ensures.product)

pub returns-clause-equal : goal.returns-clause-equal
returns-clause-equal g c =
    (trim_equality g.F.Field.field g.F.PartialEq.eq g.F.Zero.zero g.met.F.Field.equality_law g.met.F.Field.zero_law c.in_ok-fast.fast c.in_ok-naive.naive).1
    (c.in_ok-fast.ensures.product ∙ sym c.in_ok-naive.ensures.product)
