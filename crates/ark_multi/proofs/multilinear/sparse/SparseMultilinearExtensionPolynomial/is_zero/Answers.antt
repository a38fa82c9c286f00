use Rattle.std.proofs.Common.{◌==◌, ap, ◌∙◌, arith}
use Rattle.ark_tables.proofs.SparseTables.{decides_zero}
use Rattle.ark_multi.proofs.multilinear.sparse.SparseMultilinearExtensionPolynomial.is_zero.Goals as goal

pub returns : goal.returns
returns g c =
    let self = c.args.self.now in
    decides_zero g.F.Field.field g.met.F.Field.field_laws self.evaluations.items self.num_vars c.is_empty.result self.sparse (omega arith)
    (c.is_empty.ensures ∙ ap (λ n. n == 0) self.evaluations.ok.0)
