use Rattle.std.proofs.Common.{◌≡◌, ℕ, ◌<◌, get_or, map, [], length}
use Rattle.shards_format.specs.Headers.{head_bytes}
use Rattle.shards_streams.proofs.splitting.heads_at.Given as goal

abbrev pub invariant-loop-b : goal.invariant-loop-b
invariant-loop-b g l = record {
  len : length l.heads.items ≡ l.b;
  each : (j : ℕ) → j < l.b → get_or (map (λ head. head.items) l.heads.items) j [] ≡ head_bytes l.k l.n (get_or l.places j 0) l.label;
}
