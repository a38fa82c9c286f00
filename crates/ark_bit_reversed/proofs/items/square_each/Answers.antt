use Rattle.std.proofs.Common.{◌∙◌, ap, set}
use Rattle.std.proofs.lemmas.List.Edits.{map_over_more}
use Rattle.ark_bit_reversed.proofs.items.square_each.Goals as goal

pub loop-i-preserved : goal.loop-i-preserved
loop-i-preserved g c =
    let K = g.F.Field.field in
    ap (set c.loop-i.items c.loop-i.i) (g.met.F.Field.mul_law _ _ _ c.mul.ensures)
    ∙ map_over_more (λ r. K.times r r) c.args.items.now c.loop-i.items c.loop-i.i c.index-items-i.result c.loop-i-test.true c.loop-i.invariant c.index-items-i.is
