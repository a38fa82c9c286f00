use Rattle.std.proofs.Common.{[], ap, ◌∙◌}
use Rattle.ark_math_variables.specs.Term.{power_of}
use Rattle.ark_math.proofs.Outcomes.Results.{IfOk_both}
use Rattle.ark_math_variables.proofs.Polynomials.Terms.{IsTerm-nil, same_powers}
use Rattle.ark_multi.proofs.multivariate.sparse.constant_term.Goals as goal

pub returns-clause-term : goal.returns-clause-term
returns-clause-term g c =
    IfOk_both c.new-2.result
    (λ t is same. same_powers (g.T.Term.listed t) [] is IsTerm-nil (λ v. same v ∙ ap (λ ps. power_of ps v) c.new.ensures.items))
    c.new-2.ensures.term c.new-2.ensures.powers
