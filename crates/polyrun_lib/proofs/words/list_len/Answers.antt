use Rattle.std.proofs.Common.{ap, length, ◌∙◌, lit<, rules, tests}
use Rattle.std.proofs.lemmas.Iterator.Consumers.{count_from_yields_List}
use Rattle.std.proofs.lemmas.Iterator.Splits.{YieldsList-from_str_split}
use Rattle.polyrun_lib.proofs.Reading.{numbers_of_pieces, no_numbers}
use Rattle.polyrun_lib.proofs.words.list_len.Goals as goal

pub returns-then-is_empty : goal.returns-then-is_empty
returns-then-is_empty c numbers list = no_numbers c.args.word.now numbers (search (rules, tests)) list

pub returns-else-is_empty : goal.returns-else-is_empty
returns-else-is_empty c numbers list =
    count_from_yields_List c.split.result _ c.count.ensures.ran
    (YieldsList-from_str_split 44 c.args.word.now (lit< tt) c.split.ensures.text c.split.ensures.has_more c.split.ensures.pattern)
    ∙ numbers_of_pieces c.args.word.now numbers (λ e. let none = ap length e in search (rules, tests)) list
