use Rattle.std.proofs.Common.{rules, tests}
use Rattle.std.proofs.lemmas.Iterator.{cases_from_all}
use Rattle.std.proofs.lemmas.Iterator.Adapters.{YieldsList-from_bytes}
use Rattle.polyrun_lib.proofs.Reading.{IsDigit, IsNoDigit, digit_where_true, no_digit_where_false, SpellsNumber-from_all}
use Rattle.polyrun_lib.proofs.words.is_number.Goals as goal

pub returns-then-not-is_empty : goal.returns-then-not-is_empty
returns-then-not-is_empty c =
    SpellsNumber-from_all c.args.word.now c.all.result (search (rules, tests))
    (cases_from_all _ _ _ IsDigit IsNoDigit c.all.ensures.ran (YieldsList-from_bytes c.args.word.now c.bytes.ensures.rest)
    (λ x q k. search (rules, tests, digit_where_true)) (λ x q k. search (rules, tests, no_digit_where_false)))
