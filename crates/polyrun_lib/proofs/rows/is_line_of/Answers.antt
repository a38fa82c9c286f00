use Rattle.std.proofs.Common.{lit<}
use Rattle.std.proofs.lemmas.Str.Pattern.{strip_suffix_char}
use Rattle.polyrun_lib.proofs.Checking.{ended-tells}
use Rattle.polyrun_lib.proofs.rows.is_line_of.Goals as goal

pub returns-in-Some : goal.returns-in-Some
returns-in-Some c =
    let cases = strip_suffix_char 10 c.args.answer.now c.strip_suffix.result c.strip_suffix.ensures.cases (lit< tt) in
    let found = rw c.in-Some.is at cases in
    ended-tells c.args.answer.now c.in-Some.line.now c.args.text.now c.eq.result found c.eq.ensures
