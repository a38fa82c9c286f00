use Rattle.std.proofs.Common.{◌∙◌, arith}
use Rattle.polyrun_lib.proofs.Checking.{ends_failed}
use Rattle.polyrun_lib.proofs.rows.check_row.Goals as goal

pub returns-then-write-eq3-clause-end : goal.returns-then-write-eq3-clause-end
returns-then-write-eq3-clause-end g c =
    ends_failed _ _ _ c.in-Ok.is_good c.as_str.result.now _ _ c.write.result c.in-Ok.ensures (c.as_str.ensures.value ∙ c.in-Ok-row_line.ensures) c.write.ensures (omega arith)
