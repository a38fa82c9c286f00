use Rattle.std.proofs.Common.{◌≡◌, ℕ, ◌-◌, ◌<◌, ◌*◌, ◌+◌, get_or}
use Rattle.ark_math_transforms.specs.BitReversal.{reversed}
use Rattle.ark_fft.proofs.Places.{IsRestored}
use Rattle.ark_fft.proofs.domain.radix2.bit_reversal.bit_reverse_fours.Given as goal

abbrev pub invariant-loop-i : goal.invariant-loop-i
invariant-loop-i g l = record {
  fours : (b : ℕ) (d : g.row.T.Denot) → b < 4 → IsRestored l.levels (λ r. get_or l.initial.xs (4 * r + b) d) (λ r. get_or l.xs (4 * r + b) d) l.i;
  backwards : l.j ≡ reversed l.levels (l.i - 1);
}
