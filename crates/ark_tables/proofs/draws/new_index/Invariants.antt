use Rattle.ark_tables.proofs.draws.new_index.Given as goal

abbrev pub invariant-loop : goal.invariant-loop
invariant-loop g l = Unit {0}
