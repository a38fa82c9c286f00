use Rattle.std.proofs.Common.{◌≡◌, ℕ, ◌<◌, get_or, length, [], map}
use Rattle.shards_format.specs.Pieces.{SpellsNumbers, chunk}
use Rattle.shards_format.proofs.placed_parts.parts_of_rows.Given as goal

abbrev pub invariant-loop-b : goal.invariant-loop-b
invariant-loop-b l = record {
  len : length l.parts.items ≡ l.b;
  parts : (j : ℕ) → j < l.b → SpellsNumbers l.k (get_or l.places j 0) (chunk l.count j l.numbers) (get_or (map (λ part. part.items) l.parts.items) j []);
}
