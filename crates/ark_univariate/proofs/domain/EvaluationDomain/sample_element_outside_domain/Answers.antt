use Rattle.std.proofs.Common.{◌∙◌, sym, true≢false}
use Rattle.ark_univariate.proofs.domain.EvaluationDomain.sample_element_outside_domain.Goals as goal

pub returns-then-not-is_zero-clause-outside : goal.returns-then-not-is_zero-clause-outside
returns-then-not-is_zero-clause-outside g c = λ inside.
    let none = c.evaluate_vanishing_polynomial.ensures.zero.1 inside in
    true≢false (sym ((g.met.F.Field.equality_law c.evaluate_vanishing_polynomial.result g.F.Zero.zero).1 (none ∙ sym g.met.F.Field.zero_law)) ∙ sym c.is_zero.ensures ∙ c.if-not-is_zero.true)
