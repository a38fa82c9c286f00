use Rattle.std.proofs.Common.{arith, rules, tests}
use Rattle.polyrun_lib.proofs.Checking.{row_at, below_map, under_way-more, done-ended, after_false, after_true}
use Rattle.polyrun_lib.proofs.rows.check_rows.Goals as goal
use Rattle.polyrun_lib.proofs.rows.check_rows.Goals.{then-not-is_good, else-not-is_good}

pub returns-in-Err : goal.returns-in-Err
returns-in-Err g c =
    done-ended _ _ c.loop-i.i _ c.loop-i.status _ _ _ c.in-Err.ended c.loop-i.invariant
    (below_map g.R.Checked.shown c.args.rows.now c.loop-i.i (omega arith)) (row_at g.R.Checked.shown c.args.rows.now c.loop-i.i c.index-rows-i.result c.index-rows-i.is)
    c.in-Err.ensures.end

pub loop-i-preserved : goal.loop-i-preserved
loop-i-preserved g c =
    under_way-more _ _ c.loop-i.i _ c.in-Ok.is_good c.loop-i.status _ _ _ c.loop-i.invariant
    (below_map g.R.Checked.shown c.args.rows.now c.loop-i.i (omega arith)) (row_at g.R.Checked.shown c.args.rows.now c.loop-i.i c.index-rows-i.result c.index-rows-i.is)
    c.in-Ok.ensures.line c.if-not-is_good.status
    (elim c.if-not-is_good.branch [
      | then-not-is_good w ↦ search (rules, tests, after_false)
      | else-not-is_good w ↦ search (rules, tests, after_true)
    ])
