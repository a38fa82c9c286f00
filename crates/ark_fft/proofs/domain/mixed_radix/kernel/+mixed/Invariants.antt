use Rattle.std.proofs.Common.{◌≡◌, ℕ, map, ◌+◌, ◌-◌, ◌*◌, ◌/◌, ◌^◌, ◌≤◌, ◌<◌}
use Rattle.ark_fft.specs.Halves.{AreLevels}
use Rattle.ark_fft.specs.Mixed.{IsPowerTable, mixed_counts}
use Rattle.ark_math_transforms.proofs.Transforms.Places.{dft_at}
use Rattle.ark_math.specs.Field.{power}
use Rattle.ark_math.specs.Cost.{GrowsBy}
use Rattle.ark_math.specs.Module.{item}
use Rattle.ark_fft.proofs.domain.mixed_radix.kernel.+mixed.Given as goal

abbrev pub decreases-mixed : goal.decreases-mixed
decreases-mixed g l = l.plan.now.odds

abbrev pub invariant-loop-r : goal.invariant-loop-r
invariant-loop-r g l =
    let V = g.T.Summand.group in
    let m = g.T.Summand.meaning in
    record {
      counted : GrowsBy (mixed_counts l.plan.base (l.r * (l.plan.levels * l.m / 2)) (l.r * ((l.plan.odds - 1) * (l.m / l.plan.base)))) l.fn.work l.work;
      done : (w : g.row.F.Denot) → IsPowerTable g.F.Field.field w l.plan.roots.now → AreLevels g.F.Field.field (power g.F.Field.field w (l.plan.stride * l.plan.base ^ l.plan.odds)) l.plan.levels l.plan.tables.now → (r i : ℕ) → r < l.r → i < l.m → item V (map m l.scratch) (r * l.m + i) ≡ dft_at g.F.Field.field V l.m (power g.F.Field.field w (l.plan.stride * l.plan.base)) (λ k. item V (map m l.fn.xs) (l.plan.base * k + r)) i;
      rest : (r i : ℕ) → l.r ≤ r → r < l.plan.base → i < l.m → item V (map m l.scratch) (r * l.m + i) ≡ item V (map m l.fn.xs) (l.plan.base * i + r);
    }
