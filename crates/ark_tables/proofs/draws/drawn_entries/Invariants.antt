use Rattle.std.proofs.Common.{◌≡◌, ◌<◌, ◌^◌, All, length}
use Rattle.ark_tables.proofs.draws.drawn_entries.Given as goal

abbrev pub invariant-loop : goal.invariant-loop
invariant-loop g l =
    (length l.entries.items ≡ l.counter) × All (λ p. p.0 < 2 ^ l.num_vars) l.entries.items × (l.tries ≡ 0 → l.counter ≡ 0)
