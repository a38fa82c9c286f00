use Rattle.std.proofs.Common.{◌≡◌, ℕ, ◌<◌, ◌*◌, ◌+◌, get_or}
use Rattle.ark_math.specs.Field.{natural}
use Rattle.shards_lib.specs.Rows.{entry}
use Rattle.shards_lib.proofs.rows.put_words.Given as goal

abbrev pub invariant-loop-a : goal.invariant-loop-a
invariant-loop-a g l =
    let K = g.F.Field.field in
    (a t : ℕ) → a < l.a → t < l.group.count → entry K l.rows (get_or l.given.places.now a 0) t ≡ natural K (get_or l.given.numbers.now (a * l.group.all + (l.group.first + t)) 0)
