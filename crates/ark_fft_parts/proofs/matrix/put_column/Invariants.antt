use Rattle.ark_fft_parts.proofs.Matrices.{IsFilled}
use Rattle.ark_fft_parts.proofs.matrix.put_column.Given as goal

abbrev pub invariant-loop-i : goal.invariant-loop-i
invariant-loop-i g l = IsFilled g.T.DomainCoeff.group g.T.DomainCoeff.meaning l.count l.j l.i l.items l.initial.block l.block
