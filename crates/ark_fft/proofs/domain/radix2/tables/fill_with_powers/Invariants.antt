use Rattle.std.proofs.Common.{◌≡◌, ℕ, ◌-◌, ◌<◌, ◌≤◌, length, get_or}
use Rattle.ark_math.specs.Field.{power}
use Rattle.ark_fft.proofs.domain.radix2.tables.fill_with_powers.Given as goal

abbrev pub invariant-double : goal.invariant-double
invariant-double g l =
    let K = g.F.Field.field in
    record {
      some : 0 < l.known;
      within : 0 < length l.xs → l.known ≤ length l.xs;
      next : l.known < length l.xs → l.next ≡ power K l.fn.root l.known;
      before : (k : ℕ) → k < l.known → k < length l.xs → get_or l.xs k K.zero ≡ power K l.fn.root k;
    }

abbrev pub decreases-double : goal.decreases-double
decreases-double g l = length l.initial.xs - l.known
