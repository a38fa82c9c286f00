use Rattle.std.proofs.Common.{rules, ℕ, subst, sym, ap, ◌∙◌}
use Rattle.std.specs.List.Sorted.{IsNonDecreasingBy}
use Rattle.std.proofs.lemmas.List.Sorted.{IsNonDecreasingBy-from_sort_by_key}
use Rattle.ark_math.specs.Univariate.{of_pairs}
use Rattle.ark_coeffs.proofs.SortedPairs.{of_pairs-permutation}
use Rattle.ark_math.proofs.Outcomes.Results.{IfOk_more}
use Rattle.ark_coeffs.proofs.sparse.gathered_terms.Goals as goal

pub merged_terms-requires : goal.merged_terms-requires
merged_terms-requires g c =
    let F = g.row.F.Denot in
    subst (IsNonDecreasingBy (λ (t : ℕ × F). t.0)) (sym c.deref.ensures.value)
    (IsNonDecreasingBy-from_sort_by_key (λ (t : ℕ × F). t.0) _ c.sort_unstable_by_key.ensures.sorted (λ a r f' h. search rules))

pub returns-clause-sum : goal.returns-clause-sum
returns-clause-sum g c =
    let K = g.F.Field.field in
    IfOk_more c.merged_terms.result
    (λ m e. e
    ∙ ap (of_pairs K) c.deref.ensures.value
    ∙ of_pairs-permutation K g.met.F.Field.field_laws c.args.terms.items c.sort_unstable_by_key.new.self.items c.sort_unstable_by_key.ensures.permutation)
    c.merged_terms.ensures.sum
