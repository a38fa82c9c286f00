use Rattle.std.proofs.Common.{arith, ◌∙◌}
use Rattle.ark_tables.specs.Graded.{pair_cmp}
use Rattle.ark_tables.proofs.PowerLists.{compared_all}
use Rattle.ark_tables.proofs.powers.compared_pairs.Goals as goal

pub returns : goal.returns
returns c =
    let i = c.loop-i.i in
    let ends = c.min-i-end.ensures in
    let low = c.loop-i.auto.i-end in
    let high = c.loop-i-test.false in
    c.cmp-2.ensures ∙ compared_all pair_cmp i c.args.s.now c.args.t.now (omega (arith, ends, low)) (omega (arith, ends, high)) c.loop-i.invariant
