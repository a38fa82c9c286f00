use Rattle.std.proofs.Common.{subst}
use Rattle.ark_math_variables.specs.Term.{IsTerm}
use Rattle.ark_tables.proofs.GradedOrder.{IsGreater, IsLess, IsEqual}
use Rattle.ark_poly.proofs.laws.multivariate.graded_order.Goals as goal

pub returns : goal.returns
returns c =
    let s = c.args.s.now in
    let t = c.args.t.now in
    let left = subst IsTerm c.pairs-left.ensures.same c.pairs-left.ensures.term in
    let right = subst IsTerm c.pairs-right.ensures.same c.pairs-right.ensures.term in
    record {
      greater = IsGreater s t c.cmp.result left right c.cmp.ensures;
      less = IsLess s t c.cmp.result left right c.cmp.ensures;
      equal = IsEqual s t c.cmp.result c.cmp.ensures;
    }
