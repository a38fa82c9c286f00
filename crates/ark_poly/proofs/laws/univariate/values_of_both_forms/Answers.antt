use Rattle.std.proofs.Common.{sym, subst}
use Rattle.ark_math.specs.Univariate.{IsValue}
use Rattle.ark_math_polynomials.proofs.Polynomials.UnivariateValues.{one_value}
use Rattle.ark_poly.proofs.laws.univariate.values_of_both_forms.Goals as goal

pub returns-clause-same : goal.returns-clause-same
returns-clause-same g c =
    let K = g.F.Field.field in
    let point = c.args.point in
    one_value K g.met.F.Field.field_laws _ point c.in_ok-evaluate.field-0 c.in_ok-evaluate-2.field-0 c.in_ok-evaluate.ensures.value
    (subst (λ a. IsValue K a point c.in_ok-evaluate-2.field-0) (sym c.requires) c.in_ok-evaluate-2.ensures.value)
