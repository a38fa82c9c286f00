use Rattle.std.proofs.Common.{arith, ap, ◌∙◌}
use Rattle.ark_math.specs.Univariate.{of_list}
use Rattle.ark_math.proofs.Lists.Lists.{written_back}
use Rattle.rs_code.proofs.turns.scaled_values.Goals as goal

pub returns-clause-values : goal.returns-clause-values
returns-clause-values g c = λ i l.
    let K = g.F.Field.field in
    ap (λ t. of_list K t i) (written_back c.scale_each.new.coeffs _ _ (omega (arith, c.scale_each.auto.coeffs, c.as_mut_slice.ensures.len)))
    ∙ ap (λ t. t i) c.scale_each.ensures
    ∙ g.met.F.Field.field_laws.times_comm _ _
    ∙ ap (λ t. K.times t c.args.scale) (ap (λ t. of_list K t i) c.as_mut_slice.ensures.value ∙ c.in_ok-values.ensures.values i l)
