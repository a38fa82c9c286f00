use Rattle.std.proofs.Common.{◌∙◌}
use Rattle.rs_code.proofs.turns.TurnedPlaces.{eight_same}
use Rattle.rs_code.proofs.turns.TurnFactors.{factor-from}
use Rattle.rs_code.proofs.turns.PlaceValues.factor.Goals as goal

pub returns : goal.returns
returns g c =
    let K = g.F.Field.field in
    factor-from K c.args.self c.args.erased c.product.result
    (λ e. c.product.ensures
    ∙ eight_same K
    (c.chosen.ensures.marked e)
    (c.chosen-2.ensures.marked e)
    (c.chosen-3.ensures.marked e)
    (c.chosen-4.ensures.marked e)
    (c.chosen-5.ensures.marked e)
    (c.chosen-6.ensures.marked e)
    (c.chosen-7.ensures.marked e)
    (c.chosen-8.ensures.marked e))
    (λ e. c.product.ensures
    ∙ eight_same K
    (c.chosen.ensures.unmarked e)
    (c.chosen-2.ensures.unmarked e)
    (c.chosen-3.ensures.unmarked e)
    (c.chosen-4.ensures.unmarked e)
    (c.chosen-5.ensures.unmarked e)
    (c.chosen-6.ensures.unmarked e)
    (c.chosen-7.ensures.unmarked e)
    (c.chosen-8.ensures.unmarked e))
