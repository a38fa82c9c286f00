use Rattle.std.proofs.Common.{◌≡◌, ℕ, ◌≤◌, ◌<◌, ◌*◌, ◌/◌, length, get_or}
use Rattle.ark_fft.proofs.domain.radix2.time.spread_out.Given as goal

abbrev pub invariant-loop-r : goal.invariant-loop-r
invariant-loop-r g l =
    record {
      done : (k : ℕ) (d : g.row.T.Denot) → l.r * l.block ≤ k → k < length l.xs → get_or l.xs k d ≡ get_or l.initial.xs (k / l.block) d;
      rest : (k : ℕ) (d : g.row.T.Denot) → k < l.r * l.block → get_or l.xs k d ≡ get_or l.initial.xs k d;
    }
