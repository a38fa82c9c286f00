use Rattle.ark_coeffs.proofs.draws.drawn_nonzero.Given as goal

abbrev pub invariant-loop : goal.invariant-loop
invariant-loop g l = Unit {0}
