use Rattle.std.proofs.Common.{◌≡◌, ℕ, ◌+◌, ◌<◌, get_or, List}
use Rattle.shards_format.specs.Stripes.{item}
use Rattle.shards_format.specs.Parts.{shown}
use Rattle.shards_format.proofs.parts.put_numbers.Given as goal

pub record Written (first part : List ℕ) (mark : ℕ) (numbers : List ℕ) (s : ℕ) : Type 0 where
  pub low : item part 0 ≡ item first 0
  pub high : item part 1 ≡ item first 1
  pub numbers_are : (i : ℕ) → i < s → item part (2 + i) ≡ shown mark (get_or numbers i 0)

abbrev pub invariant-loop-s : goal.invariant-loop-s
invariant-loop-s l = Written l.fn.part l.part l.mark l.numbers l.s
