use Rattle.std.proofs.Common.{◌≡◌, ◌*◌, ◌+◌, map}
use Rattle.ark_math.specs.Module.{item, tabulate}
use Rattle.ark_fft_parts.proofs.matrix.take_column.Given as goal

abbrev pub invariant-loop-i : goal.invariant-loop-i
invariant-loop-i g l =
    let V = g.T.DomainCoeff.group in
    let m = g.T.DomainCoeff.meaning in
    map m l.taken.items ≡ tabulate l.i (λ i. item V (map m l.block) (i * l.count + l.j))
