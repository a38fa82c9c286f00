use Rattle.std.proofs.Common.{rules, arith, ap, ◌/◌, IfSome, length, take, drop}
use Rattle.std.proofs.lemmas.List.{length-drop, length-take-le}
use Rattle.ark_bit_reversed.specs.Blocks.{AreFirstValues}
use Rattle.ark_math_polynomials.specs.Nodes.{nodes}
use Rattle.ark_subproducts.specs.Tree.{IsBlockTreeOver}
use Rattle.ark_subproducts.proofs.MiddleProducts.{from_half}
use Rattle.ark_subproducts.proofs.blocks.BlockTree+F.+with_values.Goals as goal

pub with_values-requires : goal.with_values-requires
with_values-requires g t c κs within =
    let points = c.args.part.now.points.now in
    let half = length points / 2 in
    (omega (arith, ap length c.low-low_part.ensures.half.points, length-take-le half points (omega arith)), (search rules, c.low-low_part.ensures.part))

pub with_values-requires-2 : goal.with_values-requires-2
with_values-requires-2 g t c κs within =
    let points = c.args.part.now.points.now in
    let half = length points / 2 in
    (omega (arith, ap length c.high-high_part.ensures.half.points, length-drop half points), (search rules, c.high-high_part.ensures.part))

pub joined-requires-clause-low : goal.joined-requires-clause-low
joined-requires-clause-low g t c =
    from_half c.args.part.now c.low-low_part.result (take (length c.args.part.now.points.now / 2) c.args.part.now.points.now) c.low-low_part.ensures.half
    (λ r n zs. IsBlockTreeOver g.F.Field.field r n zs c.in_ok-low.low.0.value) c.in_ok-low.ensures.tree

pub joined-requires-clause-high : goal.joined-requires-clause-high
joined-requires-clause-high g t c =
    from_half c.args.part.now c.high-high_part.result (drop (length c.args.part.now.points.now / 2) c.args.part.now.points.now) c.high-high_part.ensures.half
    (λ r n zs. IsBlockTreeOver g.F.Field.field r n zs c.in_ok-high.high.0.value) c.in_ok-high.ensures.tree

pub joined-requires-clause-low_values : goal.joined-requires-clause-low_values
joined-requires-clause-low_values g t c =
    let K = g.F.Field.field in
    from_half c.args.part.now c.low-low_part.result (take (length c.args.part.now.points.now / 2) c.args.part.now.points.now) c.low-low_part.ensures.half
    (λ r n zs. IfSome c.in_ok-low.low.1 (λ v. AreFirstValues K r n (nodes K zs) v.items)) c.in_ok-low.ensures.values

pub joined-requires-clause-high_values : goal.joined-requires-clause-high_values
joined-requires-clause-high_values g t c =
    let K = g.F.Field.field in
    from_half c.args.part.now c.high-high_part.result (drop (length c.args.part.now.points.now / 2) c.args.part.now.points.now) c.high-high_part.ensures.half
    (λ r n zs. IfSome c.in_ok-high.high.1 (λ v. AreFirstValues K r n (nodes K zs) v.items)) c.in_ok-high.ensures.values
