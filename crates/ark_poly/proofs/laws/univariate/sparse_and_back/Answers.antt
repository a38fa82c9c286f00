use Rattle.std.proofs.Common.{◌∙◌}
use Rattle.ark_math_polynomials.proofs.Polynomials.UnivariateLists.{same_trimmed}
use Rattle.ark_poly.proofs.laws.univariate.sparse_and_back.Goals as goal

pub returns-clause-same : goal.returns-clause-same
returns-clause-same g c =
    same_trimmed g.F.Field.field _ _
    (rw c.coeffs-2.ensures.same at c.coeffs-2.ensures.trimmed)
    (rw c.coeffs.ensures.same at c.coeffs.ensures.trimmed)
    (c.in_ok-back.ensures.same ∙ c.in_ok-sparse.ensures.same)
