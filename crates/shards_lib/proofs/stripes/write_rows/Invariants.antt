use Rattle.std.proofs.Common.{◌≡◌, ℕ, ◌*◌, ◌+◌, ◌<◌, get_or, length}
use Rattle.shards_lib.specs.Products.{weighted_row}
use Rattle.shards_lib.proofs.stripes.write_rows.Given as goal

abbrev pub invariant-loop-b : goal.invariant-loop-b
invariant-loop-b g l =
    (b s : ℕ) → b < l.b → s < l.given.stripes → get_or l.wanted (b * l.given.stripes + s) 0
    ≡ g.F.NumberField.number (weighted_row g.F.Field.field l.weights l.given.numbers.now l.given.stripes (length l.given.places.now) b s)
