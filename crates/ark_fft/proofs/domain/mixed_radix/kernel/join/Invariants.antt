use Rattle.std.proofs.Common.{◌≡◌, ℕ, map, get_or, ◌+◌, ◌-◌, ◌*◌, ◌<◌}
use Rattle.ark_fft.specs.Mixed.{joined}
use Rattle.ark_math.specs.Cost.{GrowsBy, counts}
use Rattle.ark_math.specs.Module.{item}
use Rattle.ark_fft.proofs.domain.mixed_radix.kernel.join.Given as goal

abbrev pub invariant-loop-j : goal.invariant-loop-j
invariant-loop-j g l =
    let V = g.T.Summand.group in
    let m = g.T.Summand.meaning in
    record {
      counted : GrowsBy (counts ((l.level.base - 1) * l.level.part_len + l.j * ((l.level.base - 1) * l.level.part_len)) 0 l.level.part_len) l.fn.work l.work;
      done : get_or l.level.roots.now 0 g.F.Field.field.zero ≡ g.F.Field.field.one → (j i : ℕ) → j < l.j → i < l.level.part_len → item V (map m l.whole) (j * l.level.part_len + i) ≡ joined g.F.Field.field V l.level.roots.now l.level.base l.level.part_len l.level.stride (item V (map m l.fn.parts)) j i;
    }
