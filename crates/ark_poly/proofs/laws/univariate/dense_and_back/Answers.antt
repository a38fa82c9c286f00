use Rattle.std.proofs.Common.{◌∙◌}
use Rattle.ark_math_polynomials.proofs.Polynomials.UnivariatePairs.{same_sparse}
use Rattle.ark_poly.proofs.laws.univariate.dense_and_back.Goals as goal

pub returns-clause-same : goal.returns-clause-same
returns-clause-same g c =
    same_sparse g.F.Field.field g.met.F.Field.field_laws _ _
    (rw c.coeffs-2.ensures.same at c.coeffs-2.ensures.sparse)
    (rw c.coeffs.ensures.same at c.coeffs.ensures.sparse)
    (c.in_ok-back.ensures.same ∙ c.in_ok-dense.ensures.same)
