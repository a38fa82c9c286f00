use Rattle.std.proofs.lemmas.Result.{IfOk-weaker}
use Rattle.ark_points.proofs.values.evaluate_at.Goals as goal

pub returns-clause-len : goal.returns-clause-len
returns-clause-len g c = IfOk-weaker c.values_at_many.result _ _ (λ v h. h.len) c.values_at_many.ensures.values

pub returns-clause-values : goal.returns-clause-values
returns-clause-values g c = IfOk-weaker c.values_at_many.result _ _ (λ v h. h.values) c.values_at_many.ensures.values
