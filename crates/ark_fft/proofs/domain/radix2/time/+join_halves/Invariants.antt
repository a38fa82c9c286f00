use Rattle.ark_fft.proofs.domain.radix2.time.+join_halves.Given as goal

abbrev pub decreases-join_halves : goal.decreases-join_halves
decreases-join_halves g l = l.log_len
