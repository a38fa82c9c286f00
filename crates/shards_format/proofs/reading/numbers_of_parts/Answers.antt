use Rattle.std.proofs.Common.{◌≡◌, ℕ, ◌≤◌, arith, length, get_or, drop, List, sym, subst, ◌∙◌}
use Rattle.std.proofs.lemmas.List.{take_at}
use Rattle.shards_format.proofs.BlockLists.{rows_fit}
use Rattle.shards_format.proofs.reading.numbers_of_parts.Goals as goal

pub returns-clause-small : goal.returns-clause-small
returns-clause-small c =
    let new = c.read_parts.new.numbers in
    let long : length new ≡ c.in_ok-numbers.numbers.len = omega (arith, c.read_parts.auto.numbers, c.as_mut_slice.ensures.len) in
    let whole = take_at new (drop (length new) c.in_ok-numbers.numbers.items) c.in_ok-numbers.numbers.len long in
    let fit = rows_fit (length c.args.places.now) c.args.count new (long ∙ c.in_ok-numbers.ensures.len) c.read_parts.ensures.small in
    λ p. subst (λ (xs : List ℕ). get_or xs p 0 ≤ 65536) (sym whole) (fit p)
