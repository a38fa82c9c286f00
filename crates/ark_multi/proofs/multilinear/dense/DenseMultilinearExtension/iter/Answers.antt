use Rattle.std.proofs.Common.{◌∙◌}
use Rattle.ark_tables.proofs.DenseTables.{is_listing}
use Rattle.ark_multi.proofs.multilinear.dense.DenseMultilinearExtension.iter.Goals as goal

pub returns-clause-values : goal.returns-clause-values
returns-clause-values g c =
    c.iter.ensures.rest ∙ c.deref.ensures.value
    ∙ is_listing g.F.Field.field c.args.self.now.evaluations.items c.args.self.now.num_vars c.args.self.now.whole
