use Rattle.std.proofs.Common.{length, replicate, ap, ◌∙◌}
use Rattle.std.proofs.lemmas.List.{length-replicate}
use Rattle.ark_univariate.proofs.evaluations.univariate.Evaluations.zero.Goals as goal

pub invariant_of-result : goal.invariant_of-result
invariant_of-result g c = ap length c.in_ok-evals.ensures ∙ length-replicate _ _ ∙ c.size.ensures

pub returns-clause-evals : goal.returns-clause-evals
returns-clause-evals g c = c.in_ok-evals.ensures ∙ ap (λ n. replicate n g.F.Field.field.zero) c.size.ensures
