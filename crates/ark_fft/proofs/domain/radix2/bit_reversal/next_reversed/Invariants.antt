use Rattle.ark_fft.proofs.Carries.{IsCarried}
use Rattle.ark_fft.proofs.domain.radix2.bit_reversal.next_reversed.Given as goal

abbrev pub invariant-carry : goal.invariant-carry
invariant-carry l = IsCarried l.levels l._i l.left l.bit

abbrev pub decreases-carry : goal.decreases-carry
decreases-carry l = l.left
