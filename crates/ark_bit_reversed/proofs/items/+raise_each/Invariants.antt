use Rattle.ark_bit_reversed.proofs.items.+raise_each.Given as goal

abbrev pub decreases-raise_each : goal.decreases-raise_each
decreases-raise_each g l = l.exponent
