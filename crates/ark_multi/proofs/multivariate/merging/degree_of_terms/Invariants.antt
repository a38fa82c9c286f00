use Rattle.std.proofs.Common.{◌≡◌, ◌≤◌, ◌<◌, take}
use Rattle.std.specs.List.{All, Any}
use Rattle.ark_math_variables.specs.Term.{total_degree}
use Rattle.ark_multi.proofs.multivariate.merging.degree_of_terms.Given as goal

abbrev pub invariant-loop-term : goal.invariant-loop-term
invariant-loop-term g l = record {
  bounded : All (λ c. total_degree (g.T.Term.listed c.1) ≤ l.degree) (take l.term-index l.terms);
  reached : 0 < l.degree → Any (λ c. total_degree (g.T.Term.listed c.1) ≡ l.degree) (take l.term-index l.terms);
}
