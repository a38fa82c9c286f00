use Rattle.std.proofs.Common.{◌≡◌, ℕ, ◌<◌, get_or}
use Rattle.ark_fft.proofs.domain.radix2.tables.continue_powers.Given as goal

abbrev pub invariant-loop-i : goal.invariant-loop-i
invariant-loop-i g l =
    let K = g.F.Field.field in
    (k : ℕ) → k < l.i → get_or l.rest k K.zero ≡ K.times (get_or l.known k K.zero) l.next
