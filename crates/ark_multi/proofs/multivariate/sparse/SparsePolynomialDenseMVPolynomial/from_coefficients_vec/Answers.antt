use Rattle.ark_math_variables.specs.Term.{IsWithin}
use Rattle.ark_multi.proofs.SortedTerms.{term_order, same_sum_All, cases_within}
use Rattle.ark_multi.proofs.multivariate.sparse.SparsePolynomialDenseMVPolynomial.from_coefficients_vec.Goals as goal

pub invariant_of-result : goal.invariant_of-result
invariant_of-result g c =
    let o = term_order g.met.T.Ord.total g.met.T.Ord.matches_eq g.met.T.Term.equality_law in
    let n = c.args.num_vars in
    let made = c.in_ok-gathered_terms.ensures in
    record {
      rising = made.rising.rising;
      not_zero = made.rising.not_zero;
      within = same_sum_All g.F.Field.field g.met.F.Field.field_laws o (IsWithin n) (cases_within n) c.args.terms.items c.in_ok-gathered_terms.field-0.items c.requires made.rising made.sum;
    }
