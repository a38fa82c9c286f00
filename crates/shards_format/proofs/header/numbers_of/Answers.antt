use Rattle.std.proofs.Common.{◌≡◌, ◌++◌, List, ℕ, refl, sym, ap₂, ◌∙◌}
use Rattle.std.proofs.lemmas.List.{take-append-drop}
use Rattle.shards_format.proofs.HeaderLists.{four_numbers}
use Rattle.shards_format.proofs.header.numbers_of.Goals as goal

pub returns-clause-numbers : goal.returns-clause-numbers
returns-clause-numbers c =
    let bytes = c.args.bytes.now in
    let start = c.split_at.result.0.now in
    let all = c.split_at.result.1.now in
    let parts : bytes ≡ start ++ all =
    sym (take-append-drop 8 bytes) ∙ ap₂ (λ (xs ys : List ℕ). xs ++ ys) (sym c.split_at.ensures.front) (sym c.split_at.ensures.back) in
    four_numbers bytes start all c.take_number-k.result.1.now c.take_number-n.result.1.now c.take_number-number.result.1.now c.take_number-label_len.result.1.now
    c.take_number-k.result.0 c.take_number-n.result.0 c.take_number-number.result.0 c.take_number-label_len.result.0 c.if-bytes-ne-HEADER.false parts (c.in_ok-check_start.ensures.ok refl)
    c.take_number-k.ensures c.take_number-n.ensures c.take_number-number.ensures c.take_number-label_len.ensures
