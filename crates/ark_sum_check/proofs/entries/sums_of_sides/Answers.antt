use Rattle.std.proofs.Common.{◌+◌, [], take, sym, subst, ◌∙◌, arith}
use Rattle.ark_sum_check.proofs.EntryTables.{IsSideSum, side-here, side-none, side-other}
use Rattle.ark_sum_check.proofs.entries.sums_of_sides.Goals as goal
use Rattle.ark_sum_check.proofs.entries.sums_of_sides.Goals.{else-entry-eq0, then-entry-eq0}

pub loop-entry-init : goal.loop-entry-init
loop-entry-init g c =
    let K = g.F.Field.field in
    let F = g.met.F.Field in
    let es = c.args.entries.now in
    record {
      zero = subst (IsSideSum K 0 es []) (sym (c.zero-zero.ensures ∙ F.zero_law)) (side-none K F.field_laws 0 es);
      one = subst (IsSideSum K 1 es []) (sym (c.zero-one.ensures ∙ F.zero_law)) (side-none K F.field_laws 1 es);
    }

pub loop-entry-preserved : goal.loop-entry-preserved
loop-entry-preserved g c =
    let K = g.F.Field.field in
    let F = g.met.F.Field in
    let N = F.field_laws in
    let es = c.args.entries.now in
    let i = c.loop-entry.entry-index in
    let e = c.entry-item.result in
    let v = c.loop-entry.invariant in
    elim c.if-entry-eq0.branch [
      | then-entry-eq0 w ↦ record {
        zero =
            side-here K N 0 i es e c.loop-entry.zero c.if-entry-eq0.zero c.loop-entry-test.true c.entry-item.is (omega arith) (w.zero-is ∙ F.add_assign_law _ _ _ w.add_assign.ensures.after)
            v.zero;
        one =
            subst (IsSideSum K 1 es (take (i + 1) es)) (sym w.one-is)
            (side-other K N 1 i es e c.loop-entry.one c.loop-entry-test.true c.entry-item.is (omega arith) (λ same. omega arith) v.one);
      }
      | else-entry-eq0 w ↦ record {
        zero =
            subst (IsSideSum K 0 es (take (i + 1) es)) (sym w.zero-is)
            (side-other K N 0 i es e c.loop-entry.zero c.loop-entry-test.true c.entry-item.is (omega arith) (λ same. omega arith) v.zero);
        one =
            side-here K N 1 i es e c.loop-entry.one c.if-entry-eq0.one c.loop-entry-test.true c.entry-item.is (omega arith)
            (w.one-is ∙ F.add_assign_law _ _ _ w.add_assign-else-entry-eq0.ensures.after) v.one;
      }
    ]
