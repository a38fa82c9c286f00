use Rattle.std.proofs.lemmas.Result.{IfOk-weaker}
use Rattle.ark_points.proofs.interpolation.from_points.Goals as goal

pub returns-clause-below : goal.returns-clause-below
returns-clause-below g c = IfOk-weaker c.through_many.result _ _ (λ p h. h.below) c.through_many.ensures.through

pub returns-clause-values : goal.returns-clause-values
returns-clause-values g c = IfOk-weaker c.through_many.result _ _ (λ p h. h.values) c.through_many.ensures.through

pub returns-clause-only : goal.returns-clause-only
returns-clause-only g c = IfOk-weaker c.through_many.result _ _ (λ p h. h.only) c.through_many.ensures.through

pub returns-clause-different : goal.returns-clause-different
returns-clause-different g c = IfOk-weaker c.through_many.result _ _ (λ p h. h.different) c.through_many.ensures.through
