use Rattle.std.proofs.Common.{map}
use Rattle.polyrun_lib.specs.Check.{row_of}
use Rattle.polyrun_lib.proofs.OneAnswer.{one_check}
use Rattle.polyrun_lib.proofs.laws.one_check.Goals as goal

pub returns : goal.returns
returns c = one_check c.each_writes_one.ensures c.args.field.now (map row_of c.args.rows.now)
