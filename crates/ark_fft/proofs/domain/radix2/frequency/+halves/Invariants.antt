use Rattle.ark_fft.proofs.domain.radix2.frequency.+halves.Given as goal

abbrev pub decreases-halves : goal.decreases-halves
decreases-halves g l = l.levels
