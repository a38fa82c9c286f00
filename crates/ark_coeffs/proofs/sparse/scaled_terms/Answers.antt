use Rattle.std.proofs.Common.{ap, ◌∙◌}
use Rattle.ark_math.specs.Univariate.{of_pairs, added, scaled}
use Rattle.ark_math.proofs.Algebra.Groups.{zero_plus}
use Rattle.ark_math.proofs.Outcomes.Results.{IfOk_more}
use Rattle.ark_math_polynomials.proofs.Polynomials.Univariate.{coefficients_are_module}
use Rattle.ark_coeffs.proofs.sparse.scaled_terms.Goals as goal

pub returns-clause-multiple : goal.returns-clause-multiple
returns-clause-multiple g c =
    let K = g.F.Field.field in
    let multiple = scaled K c.args.factor (of_pairs K c.args.terms.now) in
    IfOk_more c.sum_of_terms.result
    (λ s e. e ∙ ap (λ t. added K (of_pairs K t) multiple) (c.deref.ensures.value ∙ c.new-none.ensures.items) ∙ zero_plus (coefficients_are_module K g.met.F.Field.field_laws) multiple)
    c.sum_of_terms.ensures.sum
