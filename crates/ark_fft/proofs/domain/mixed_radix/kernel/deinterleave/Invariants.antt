use Rattle.std.proofs.Common.{◌≡◌, ℕ, get_or, ◌+◌, ◌*◌, ◌<◌}
use Rattle.ark_fft.proofs.domain.mixed_radix.kernel.deinterleave.Given as goal

abbrev pub invariant-loop-i : goal.invariant-loop-i
invariant-loop-i g l =
    record {
      rows : (r i : ℕ) (d : g.row.T.Denot) → r < l.r → i < l.m → get_or l.parts (r * l.m + i) d ≡ get_or l.whole (l.base * i + r) d;
      row : (i : ℕ) (d : g.row.T.Denot) → i < l.i → get_or l.parts (l.r * l.m + i) d ≡ get_or l.whole (l.base * i + l.r) d;
    }

abbrev pub invariant-loop-r : goal.invariant-loop-r
invariant-loop-r g l = (r i : ℕ) (d : g.row.T.Denot) → r < l.r → i < l.m → get_or l.parts (r * l.m + i) d ≡ get_or l.whole (l.base * i + r) d
