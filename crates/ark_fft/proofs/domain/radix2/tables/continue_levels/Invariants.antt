use Rattle.std.proofs.Common.{◌≡◌, ℕ, ◌+◌, ◌*◌, ◌<◌, get_or}
use Rattle.ark_fft.proofs.domain.radix2.tables.continue_levels.Given as goal

abbrev pub invariant-loop-i : goal.invariant-loop-i
invariant-loop-i g l =
    let K = g.F.Field.field in
    record {
      first : (k : ℕ) → k < l.half → get_or l.xs k K.zero ≡ get_or l.initial.xs k K.zero;
      seconds : (k : ℕ) → k < l.i → get_or l.xs (l.half + k) K.zero ≡ get_or l.xs (2 * k) K.zero;
    }
