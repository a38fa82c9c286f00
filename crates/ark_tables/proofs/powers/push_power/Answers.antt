use Rattle.std.proofs.Common.{ap, ◌∙◌, ◌==◌, if◌then◌else◌}
use Rattle.std.proofs.lemmas.List.Sums.{sum_by_push}
use Rattle.ark_math_variables.specs.Term.{power_of, total_degree}
use Rattle.ark_tables.proofs.powers.push_power.Goals as goal

pub returns-in_ok-push-clause-powers : goal.returns-in_ok-push-clause-powers
returns-in_ok-push-clause-powers c v =
    ap (λ ps. power_of ps v) c.in_ok-push.ensures.items ∙ sum_by_push (λ p. if p.0 == v then p.1 else 0) c.args.powers.now.items (c.args.variable, c.args.power)

pub returns-in_ok-push-clause-total : goal.returns-in_ok-push-clause-total
returns-in_ok-push-clause-total c =
    ap total_degree c.in_ok-push.ensures.items ∙ sum_by_push (λ p. p.1) c.args.powers.now.items (c.args.variable, c.args.power)
