use Rattle.std.proofs.Common.{refl, sym, ◌∙◌}
use Rattle.ark_math_variables.specs.Multilinear.{table_opposite}
use Rattle.ark_math.proofs.Outcomes.Results.{IfOk_more}
use Rattle.ark_math_variables.proofs.Polynomials.Tables.{left_zero}
use Rattle.ark_tables.proofs.SparseTables.{stored}
use Rattle.ark_multi.proofs.multilinear.sparse.SparseMultilinearExtensionPolynomial.neg.Goals as goal

pub returns-clause-opposite : goal.returns-clause-opposite
returns-clause-opposite g c =
    let K = g.F.Field.field in
    let zero = c.in_ok-zero.field-0 in
    let minus = table_opposite K (stored K c.args.self.now.num_vars c.args.self.now.evaluations.items) in
    IfOk_more c.sub.result
    (λ p e. e ∙ sym (left_zero K g.met.F.Field.field_laws (stored K zero.num_vars zero.evaluations.items) minus minus c.in_ok-zero.ensures.zero refl))
    c.sub.ensures.difference
