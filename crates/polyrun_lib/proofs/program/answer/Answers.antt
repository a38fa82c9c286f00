use Rattle.std.proofs.Common.{string_bytes}
use Rattle.polyrun_lib.proofs.Commands.{map-first}
use Rattle.polyrun_lib.proofs.program.answer.Goals as goal

pub returns-clause-none : goal.returns-clause-none
returns-clause-none c =
    let words = map-first string_bytes c.args.words.now c.field-item.result c.in-len1-up.len_at_least c.field-item.is in
    rw (words, ← c.as_str.ensures.value) c.answer_in.ensures.none
