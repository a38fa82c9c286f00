use Rattle.std.proofs.Common.{◌≡◌, suc, ◌-◌, ◌^◌, ◌∙◌, sym, ap, ap₂, arith}
use Rattle.ark_math.specs.Module.{itself, sum_below}
use Rattle.ark_math_variables.proofs.Polynomials.Multilinear.{cube_sum}
use Rattle.examples.specs.SumCheck.{sum_of_others}
use Rattle.examples.proofs.sum_check.first_round.Goals as goal

pub returns-clause-zero : goal.returns-clause-zero
returns-clause-zero g c =
    c.in_ok-sum_over_others.ensures.sum ∙ ap (sum_of_others g.F.Field.field (g.E.MultilinearExtension.table c.args.table.now)) (c.zero.ensures ∙ g.met.F.Field.zero_law)

pub returns-clause-one : goal.returns-clause-one
returns-clause-one g c =
    c.in_ok-sum_over_others-2.ensures.sum ∙ ap (sum_of_others g.F.Field.field (g.E.MultilinearExtension.table c.args.table.now)) (c.one.ensures ∙ g.met.F.Field.one_law)

pub returns-clause-claim : goal.returns-clause-claim
returns-clause-claim g c =
    let K = g.F.Field.field in
    let t = g.E.MultilinearExtension.table c.args.table.now in
    let some = c.requires.variables in
    let whole : suc (t.variables - 1) ≡ t.variables = omega (arith, some) in
    ap₂ K.plus (returns-clause-zero g c) (returns-clause-one g c)
    ∙ sym (cube_sum K g.met.F.Field.field_laws (t.variables - 1) t.value)
    ∙ ap (λ n. sum_below (itself K) (2 ^ n) t.value) whole
