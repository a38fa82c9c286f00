use Rattle.std.proofs.Common.{◌^◌, ◌∙◌}
use Rattle.ark_tables.proofs.SparseTables.{written_within}
use Rattle.ark_multi.proofs.multilinear.sparse.SparseMultilinearExtension.from_evaluations.Goals as goal

pub invariant_of-result : goal.invariant_of-result
invariant_of-result g c =
    let K = g.F.Field.field in
    let F = g.met.F.Field in
    let made = c.in_ok-entries.ensures in
    record {
      sparse = made.sparse;
      within = written_within K F.field_laws c.in_ok-entries.entries.items c.args.evaluations.now (2 ^ c.args.num_vars) made.sparse made.values c.requires.within;
      few = c.requires.few;
      nothing = c.zero.ensures ∙ F.zero_law;
    }
