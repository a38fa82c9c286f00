use Rattle.std.proofs.Common.{sym, ◌∙◌}
use Rattle.std.proofs.lemmas.Bool.{false≢true}
use Rattle.ark_math_variables.specs.Multilinear.{table_scaled}
use Rattle.ark_math_variables.proofs.Polynomials.Tables.{AreAddable-scaled, left_zero, right_zero}
use Rattle.ark_multi.specs.Extensions.{dense_table}
use Rattle.ark_multi.proofs.multilinear.dense.DenseMultilinearExtension.add_to_zero.Goals as goal

pub returns-in_ok-self-clause-sum : goal.returns-in_ok-self-clause-sum
returns-in_ok-self-clause-sum g c =
    let K = g.F.Field.field in
    let multiple = table_scaled K c.args.factor (dense_table K c.args.other.now) in
    left_zero K g.met.F.Field.field_laws (dense_table K c.args.self.now) multiple (dense_table K c.in_ok-self.field-0) (c.is_zero.ensures.0 c.if-is_zero.true) c.in_ok-self.ensures.multiple

pub returns-else-is_zero-clause-sum : goal.returns-else-is_zero-clause-sum
returns-else-is_zero-clause-sum g c =
    let K = g.F.Field.field in
    let N = g.met.F.Field.field_laws in
    let a = dense_table K c.args.self.now in
    let b = dense_table K c.args.other.now in
    right_zero K N a (table_scaled K c.args.factor b) (AreAddable-scaled K N c.args.factor a b c.requires.addable) c.requires.apart
    (λ e. false≢true (sym c.if-is_zero.false ∙ c.is_zero.ensures.1 e))
