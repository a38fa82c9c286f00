use Rattle.std.proofs.Common.{◌≡◌, OnOk, subst, ap, ◌∙◌}
use Rattle.ark_math_variables.specs.Multilinear.{table_scaled, table_sum}
use Rattle.ark_math_variables.proofs.Polynomials.Tables.{table_opposite-scaled}
use Rattle.ark_multi.specs.Extensions.{dense_table}
use Rattle.ark_multi.proofs.multilinear.dense.DenseMultilinearExtensionPolynomial.sub_assign.Goals as goal

pub returns-clause-difference : goal.returns-clause-difference
returns-clause-difference g c =
    let K = g.F.Field.field in
    let F = g.met.F.Field in
    let a = dense_table K c.args.self.now in
    let b = dense_table K c.args.other.now in
    subst (λ t. OnOk c.add_to_zero.result (dense_table K c.add_to_zero.new.self ≡ table_sum K a t))
    (ap (λ f. table_scaled K f b) (F.neg_law _ _ c.neg.ensures ∙ ap K.negated (c.one.ensures ∙ F.one_law)) ∙ table_opposite-scaled K F.field_laws b)
    c.add_to_zero.ensures.sum
