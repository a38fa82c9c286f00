use Rattle.std.proofs.Common.{sym, ◌∙◌, arith}
use Rattle.rs_code.proofs.turns.SortedRoots.{alternating-even, alternating-odd}
use Rattle.rs_code.proofs.turns.sorted.signed.Goals as goal

pub returns-then-signs-eq0 : goal.returns-then-signs-eq0
returns-then-signs-eq0 g c = sym (alternating-even g.F.Field.field g.met.F.Field.field_laws c.args.value c.args.signs c.if-signs-eq0.true)

pub returns-else-signs-eq0 : goal.returns-else-signs-eq0
returns-else-signs-eq0 g c =
    g.met.F.Field.neg_law _ _ c.neg.ensures
    ∙ sym (alternating-odd g.F.Field.field g.met.F.Field.field_laws c.args.value c.args.signs (omega (arith, c.if-signs-eq0.false)))
