use Rattle.std.proofs.Common.{◌≡◌, length, ap, ◌∙◌}
use Rattle.std.proofs.lemmas.List.Elements.{same_from_all_zip}
use Rattle.ark_univariate.proofs.evaluations.univariate.EvaluationsClone.clone.Given as given
use Rattle.ark_univariate.proofs.evaluations.univariate.EvaluationsClone.clone.Goals as goal

same : (g : given.Over) (c : goal.After-result-2-1 g) → c.in_ok-clone.field-0.items ≡ c.self.inside.evals.items
same g c = same_from_all_zip g.F.Clone.is_clone _ _ c.in_ok-clone.ensures.cases.0 g.met.F.Field.clone_law

pub invariant_of-result : goal.invariant_of-result
invariant_of-result g c = ap length (same g c) ∙ c.self.invariant

pub returns : goal.returns
returns g c = record { cases = ap (λ t. record { evals = t; domain = c.self.inside.domain }) (same g c) ∙ c.self.view_is }
