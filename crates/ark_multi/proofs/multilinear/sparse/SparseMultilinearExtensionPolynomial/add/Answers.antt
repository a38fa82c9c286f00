use Rattle.std.proofs.Common.{ap, ◌∙◌}
use Rattle.ark_math_variables.specs.Multilinear.{table_sum}
use Rattle.ark_math.proofs.Outcomes.Results.{IfOk_more}
use Rattle.ark_math_variables.proofs.Polynomials.Tables.{table_scaled-one}
use Rattle.ark_tables.proofs.SparseTables.{stored}
use Rattle.ark_multi.proofs.multilinear.sparse.SparseMultilinearExtensionPolynomial.add.Goals as goal

pub returns-clause-sum : goal.returns-clause-sum
returns-clause-sum g c =
    let K = g.F.Field.field in
    let a = stored K c.args.self.now.num_vars c.args.self.now.evaluations.items in
    let b = stored K c.args.other.now.num_vars c.args.other.now.evaluations.items in
    IfOk_more c.plus_multiple.result
    (λ p e. e ∙ ap (table_sum K a) (table_scaled-one K g.met.F.Field.field_laws b))
    c.plus_multiple.ensures.sum
