use Rattle.ark_tables.proofs.GatheredPowers.{IsGathered}
use Rattle.ark_tables.proofs.powers.gathered_powers.Given as goal

abbrev pub invariant-loop-pair : goal.invariant-loop-pair
invariant-loop-pair l = IsGathered l.powers l.gathered.items l.pair-index l.variable l.power
