use Rattle.std.proofs.Common.{◌≡◌, map, ◌+◌, ◌*◌, ◌≤◌, ◌<◌, ℕ}
use Rattle.ark_math.specs.Cost.{GrowsBy, butterfly_counts}
use Rattle.ark_math.specs.Module.{item}
use Rattle.ark_math_transforms.proofs.Transforms.Places.{dft_at}
use Rattle.ark_math_transforms.specs.BitReversal.{reversed}
use Rattle.ark_fft.specs.Halves.{AreLevels}
use Rattle.ark_fft.proofs.domain.radix2.frequency.fours.Given as goal

abbrev pub invariant-loop-r : goal.invariant-loop-r
invariant-loop-r g l =
    let K = g.F.Field.field in
    let V = g.T.Summand.group in
    let m = g.T.Summand.meaning in
    record {
      counted : GrowsBy (butterfly_counts (4 * l.r)) l.fn.work l.work;
      sums : (w : g.row.F.Denot) → AreLevels K w 2 l.tables → (r q : ℕ) → r < l.r → q < 4 → item V (map m l.xs) (4 * r + q) ≡ dft_at K V 4 w (λ b. item V (map m l.initial.xs) (4 * r + b)) (reversed 2 q);
      rest : (k : ℕ) → 4 * l.r ≤ k → item V (map m l.xs) k ≡ item V (map m l.initial.xs) k;
    }
