use Rattle.std.proofs.Common.{◌≡◌, ◌-◌, get_or}
use Rattle.ark_math_transforms.specs.BitReversal.{reversed}
use Rattle.ark_fft.proofs.Places.{IsRestored}
use Rattle.ark_fft.proofs.domain.radix2.bit_reversal.bit_reverse_items.Given as goal

abbrev pub invariant-loop-i : goal.invariant-loop-i
invariant-loop-i g l = record {
  items : (d : g.row.T.Denot) → IsRestored l.levels (λ r. get_or l.initial.xs r d) (λ r. get_or l.xs r d) l.i;
  backwards : l.j ≡ reversed l.levels (l.i - 1);
}
