use Rattle.std.proofs.Common.{sym, ap, ◌∙◌}
use Rattle.ark_math.specs.Field.{natural}
use Rattle.ark_univariate.proofs.domain.EvaluationDomain.size_inv.Goals as goal

pub returns : goal.returns
returns g c = ap (λ n. g.F.Field.field.times (natural g.F.Field.field n) c.size_inv.result) (sym c.coset.ensures.size) ∙ c.size_inv.ensures
