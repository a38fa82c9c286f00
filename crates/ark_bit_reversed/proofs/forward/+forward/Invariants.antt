use Rattle.ark_bit_reversed.proofs.forward.+forward.Given as goal

abbrev pub decreases-forward : goal.decreases-forward
decreases-forward g l = l.levels
