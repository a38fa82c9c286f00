use Rattle.std.proofs.Common.{ap, ◌∙◌, arith}
use Rattle.ark_math_variables.specs.Multilinear.{fixed}
use Rattle.ark_math.specs.Univariate.{of_pairs}
use Rattle.ark_tables.proofs.SparseTables.{fixed_within}
use Rattle.ark_multi.proofs.multilinear.sparse.SparseMultilinearExtensionMultilinearExtension.fix_variables.Goals as goal

pub invariant_of-result : goal.invariant_of-result
invariant_of-result g c =
    let K = g.F.Field.field in
    let self = c.args.self.now in
    let point = c.args.point.now in
    let made = c.in_ok-bind_variables.ensures in
    record {
      sparse = made.sparse;
      within = fixed_within K g.met.F.Field.field_laws c.in_ok-bind_variables.field-0.items self.evaluations.items point self.num_vars made.sparse
          (made.values ∙ ap (λ es. fixed K (of_pairs K es) point) c.deref.ensures.value) c.requires self.within;
      few = let l = self.few in omega arith;
      nothing = self.nothing;
    }
