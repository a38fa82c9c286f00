use Rattle.std.proofs.Common.{◌≡◌, ℕ, ◌*◌, ◌<◌, ◌≤◌, get_or}
use Rattle.ark_fft.proofs.domain.radix2.tables.keep_every_second.Given as goal

abbrev pub invariant-loop-i : goal.invariant-loop-i
invariant-loop-i g l =
    let K = g.F.Field.field in
    record {
      front : (k : ℕ) → k < l.i → get_or l.xs k K.zero ≡ get_or l.initial.xs (2 * k) K.zero;
      rest : (k : ℕ) → l.i ≤ k → get_or l.xs k K.zero ≡ get_or l.initial.xs k K.zero;
    }
