use Rattle.std.proofs.Common.{ap, ◌∙◌}
use Rattle.ark_math_variables.specs.Multilinear.{table_sum}
use Rattle.ark_math.proofs.Outcomes.Results.{IfOk_more}
use Rattle.ark_math_variables.proofs.Polynomials.Tables.{table_opposite-scaled}
use Rattle.ark_tables.proofs.SparseTables.{stored}
use Rattle.ark_multi.proofs.multilinear.sparse.SparseMultilinearExtensionPolynomial.sub.Goals as goal

pub returns-clause-difference : goal.returns-clause-difference
returns-clause-difference g c =
    let K = g.F.Field.field in
    let a = stored K c.args.self.now.num_vars c.args.self.now.evaluations.items in
    let b = stored K c.args.other.now.num_vars c.args.other.now.evaluations.items in
    IfOk_more c.plus_multiple.result
    (λ p e. e ∙ ap (table_sum K a) (table_opposite-scaled K g.met.F.Field.field_laws b))
    c.plus_multiple.ensures.sum
