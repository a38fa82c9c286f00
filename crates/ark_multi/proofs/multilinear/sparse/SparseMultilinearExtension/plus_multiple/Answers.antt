use Rattle.std.proofs.Common.{rules, ◌≡◌, ◌<◌, ◌^◌, All, max, sym, subst, ap₂, ◌∙◌, arith}
use Rattle.ark_math.specs.Univariate.{of_pairs, added, scaled}
use Rattle.ark_coeffs.specs.Multiples.{factor_of}
use Rattle.ark_tables.proofs.SparseTables.{sum_within}
use Rattle.ark_multi.proofs.multilinear.sparse.SparseMultilinearExtension.plus_multiple.Goals as goal

pub invariant_of-result : goal.invariant_of-result
invariant_of-result g c =
    let K = g.F.Field.field in
    let self = c.args.self.now in
    let other = c.args.other.now in
    let es = c.in_ok-sum_with_multiple.field-0.items in
    let made = c.in_ok-sum_with_multiple.ensures in
    let p = self.evaluations.items in
    let q = other.evaluations.items in
    let f = factor_of K c.args.multiple in
    let m = self.num_vars in
    let n = other.num_vars in
    let greater : c.max.result ≡ max m n = search rules in
    record {
      sparse = made.sparse;
      within = subst (λ k. All (λ e. e.0 < 2 ^ k) es) (sym greater)
          (sum_within K g.met.F.Field.field_laws es p q f m n made.sparse
          (made.sum ∙ ap₂ (λ x y. added K (of_pairs K x) (scaled K f (of_pairs K y))) c.deref.ensures.value c.deref-2.ensures.value)
          self.within other.within);
      few = let a = self.few in let b = other.few in omega arith;
      nothing = self.nothing;
    }
