use Rattle.std.proofs.Common.{rules, ◌≡◌, ◌≤◌, max, sym, subst, ap₂, ◌∙◌}
use Rattle.std.proofs.Math.Nat.{le-max_left, le-max_right}
use Rattle.ark_math_variables.specs.Multivariate.{of_listed}
use Rattle.ark_math.specs.Univariate.{added, scaled}
use Rattle.ark_coeffs.specs.Multiples.{factor_of}
use Rattle.ark_multi.proofs.SortedTerms.{term_order, sum_within}
use Rattle.ark_multi.proofs.multivariate.sparse.SparsePolynomial.plus_multiple.Goals as goal

pub invariant_of-result : goal.invariant_of-result
invariant_of-result g c =
    let K = g.F.Field.field in
    let listed = g.T.Term.listed in
    let o = term_order g.met.T.Ord.total g.met.T.Ord.matches_eq g.met.T.Term.equality_law in
    let self = c.args.self.now in
    let other = c.args.other.now in
    let made = c.in_ok-sum_of_terms.ensures in
    let f = factor_of K c.args.multiple in
    let m = self.num_vars in
    let n = other.num_vars in
    let greater : c.max.result ≡ max m n = search rules in
    record {
      rising = made.rising.rising;
      not_zero = made.rising.not_zero;
      within = sum_within K g.met.F.Field.field_laws o m n c.max.result f self.terms.items other.terms.items c.in_ok-sum_of_terms.field-0.items
          (subst (λ k. m ≤ k) (sym greater) (le-max_left m n)) (subst (λ k. n ≤ k) (sym greater) (le-max_right m n)) self.within other.within made.rising
          (made.sum ∙ ap₂ (λ x y. added K (of_listed K listed x) (scaled K f (of_listed K listed y))) c.deref.ensures.value c.deref-2.ensures.value);
    }
