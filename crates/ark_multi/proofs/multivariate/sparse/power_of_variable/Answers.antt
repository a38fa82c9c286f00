use Rattle.std.proofs.Common.{[], ◌∷◌, ap, ◌∙◌}
use Rattle.ark_math_variables.specs.Term.{power_of}
use Rattle.ark_math.proofs.Outcomes.Results.{IfOk_both}
use Rattle.ark_multi.proofs.SortedTerms.{one_power-IsTerm}
use Rattle.ark_math_variables.proofs.Polynomials.Terms.{same_powers}
use Rattle.ark_multi.proofs.multivariate.sparse.power_of_variable.Goals as goal

pub returns-clause-term : goal.returns-clause-term
returns-clause-term g c =
    IfOk_both c.new.result
    (λ t is same. same_powers (g.T.Term.listed t) ((c.args.variable, c.args.power) ∷ []) is (one_power-IsTerm c.args.variable c.args.power c.requires c.ranges.power.fits) (λ v. same v ∙ ap (λ ps. power_of ps v) c.in_ok-from_slice.ensures.items))
    c.new.ensures.term c.new.ensures.powers
