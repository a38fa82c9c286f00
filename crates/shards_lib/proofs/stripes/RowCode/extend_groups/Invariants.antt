use Rattle.std.proofs.Common.{◌≡◌, ℕ, ◌<◌, ◌*◌, ◌+◌, get_or, length}
use Rattle.shards_lib.specs.Numbers.{number_at_place, numbered}
use Rattle.shards_lib.proofs.stripes.RowCode.extend_groups.Given as goal

abbrev pub invariant-loop-index : goal.invariant-loop-index
invariant-loop-index g l =
    let z = numbered g.F.Field.field g.F.FftField.root g.F.NumberField.inverse_of g.F.NumberField.number in
    (s : ℕ) (stripe : ℕ → ℕ) → s < l.index * g.row.N → s < l.given.stripes
    → ((a : ℕ) → a < l.self.code.k → get_or l.given.numbers.now (a * l.given.stripes + s) 0 ≡ number_at_place z l.self.code.k l.self.n stripe (get_or l.given.places.now a 0))
    → (b : ℕ) → b < length l.extender.wanted.items → get_or l.wanted (b * l.given.stripes + s) 0 ≡ number_at_place z l.self.code.k l.self.n stripe (get_or l.extender.wanted.items b 0)
