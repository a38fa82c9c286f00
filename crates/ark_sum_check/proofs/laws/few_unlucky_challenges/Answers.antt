use Rattle.std.proofs.Common.{sym, subst}
use Rattle.ark_sum_check.specs.Rounds.{AreDifferent}
use Rattle.ark_sum_check.proofs.Unlucky.{few_unlucky}
use Rattle.ark_sum_check.proofs.laws.few_unlucky_challenges.Goals as goal

pub returns : goal.returns
returns g c m ts values count =
    let K = g.F.Field.field in
    few_unlucky K g.met.F.Field.field_laws c.args.degree m ts values (subst (AreDifferent K) (sym count) c.requires)
