use Rattle.std.proofs.Common.{ap, length, lit<, rules, tests}
use Rattle.std.proofs.lemmas.Iterator.{cases_from_all}
use Rattle.std.proofs.lemmas.Iterator.Splits.{YieldsList-from_str_split}
use Rattle.polyrun_lib.specs.Words.{SpellsNumber}
use Rattle.polyrun_lib.proofs.Reading.{SpellsNone, spelled_where_true, unspelled_where_false, SpellsList-from_all}
use Rattle.polyrun_lib.proofs.words.is_list.Goals as goal

pub returns-else-is_empty : goal.returns-else-is_empty
returns-else-is_empty c =
    SpellsList-from_all c.args.word.now c.all.result (λ e. let none = ap length e in search (rules, tests))
    (cases_from_all _ _ _ SpellsNumber SpellsNone c.all.ensures.ran
    (YieldsList-from_str_split 44 c.args.word.now (lit< tt) c.split.ensures.text c.split.ensures.has_more c.split.ensures.pattern)
    (λ x q k. search (rules, tests, spelled_where_true)) (λ x q k. search (rules, tests, unspelled_where_false)))
