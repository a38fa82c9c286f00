use Rattle.std.proofs.Common.{◌/◌, ◌∙◌, ap, arith}
use Rattle.std.proofs.lemmas.List.{get_or-map}
use Rattle.ark_math.specs.Field.{power}
use Rattle.ark_math.specs.Univariate.{of_list}
use Rattle.ark_math.proofs.Algebra.Powers.{power_even}
use Rattle.ark_bit_reversed.proofs.items.+raise_each.Goals as goal

pub returns-else-exponent-eq1-clause-powers : goal.returns-else-exponent-eq1-clause-powers
returns-else-exponent-eq1-clause-powers g t c i l =
    let K = g.F.Field.field in
    c.raise_each.ensures.powers i (omega (arith, l, c.square_each.auto.items))
    ∙ ap (λ x. power K x (c.args.exponent / 2)) (ap (λ t. of_list K t i) c.square_each.ensures.squares ∙ get_or-map (λ r. K.times r r) c.args.items.now i K.zero K.zero l)
    ∙ power_even K g.met.F.Field.field_laws (of_list K c.args.items.now i) c.args.exponent (λ e. c.if-exponent-eq1.false e)
