use Rattle.std.proofs.Common.{◌≡◌, ℕ, ◌≤◌, ◌<◌, get_or}
use Rattle.ark_fft.proofs.domain.radix2.time.fill.Given as goal

abbrev pub invariant-loop-i : goal.invariant-loop-i
invariant-loop-i g l =
    record {
      filled : (k : ℕ) (d : g.row.T.Denot) → l.from ≤ k → k < l.i → get_or l.xs k d ≡ l.item;
      before : (k : ℕ) (d : g.row.T.Denot) → k < l.from → get_or l.xs k d ≡ get_or l.initial.xs k d;
      after : (k : ℕ) (d : g.row.T.Denot) → l.to ≤ k → get_or l.xs k d ≡ get_or l.initial.xs k d;
    }
