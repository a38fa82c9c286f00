use Rattle.std.proofs.Common.{map, string_bytes}
use Rattle.polyrun_lib.proofs.OneAnswer.{one_answer}
use Rattle.polyrun_lib.proofs.laws.one_answer.Goals as goal

pub returns : goal.returns
returns c = one_answer c.each_writes_one.ensures (map string_bytes c.args.words.now)
