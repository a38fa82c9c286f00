use Rattle.std.proofs.Common.{◌∙◌}
use Rattle.rs_code.proofs.turns.TurnFactors.{opposite-ahead, turned-values}
use Rattle.rs_code.proofs.turns.PlaceValues.turned.Goals as goal

pub returns : goal.returns
returns g c = λ v k t are.
    let K = g.F.Field.field in
    let one = c.turned.ensures in
    let two = c.turned-2.ensures in
    let three = c.turned-3.ensures in
    record {
      one_are = turned-values K v.one k t _ _ are.one_are one.here one.ahead one.over one.back;
      two_are = turned-values K v.two k t _ _ are.two_are two.here two.ahead two.over two.back;
      three_are = turned-values K v.three k t _ _ are.three_are three.here three.ahead three.over three.back;
      opposite_is = are.ahead_is;
      ahead_is = are.opposite_is ∙ opposite-ahead K v.opposite k t;
      all_is = are.all_is;
      none_is = are.none_is;
    }
