use Rattle.ark_bit_reversed.proofs.backward.+backward.Given as goal

abbrev pub decreases-backward : goal.decreases-backward
decreases-backward g l = l.levels
