use Rattle.ark_fft.proofs.domain.radix2.frequency.+down_to_fours.Given as goal

abbrev pub decreases-down_to_fours : goal.decreases-down_to_fours
decreases-down_to_fours g l = l.levels
