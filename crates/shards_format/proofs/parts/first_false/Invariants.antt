use Rattle.std.proofs.Common.{◌≡◌, ℕ, ◌<◌, get_or, true, false}
use Rattle.shards_format.proofs.parts.first_false.Given as goal

abbrev pub invariant-loop-i : goal.invariant-loop-i
invariant-loop-i l = (j : ℕ) → j < l.i → get_or l.used j false ≡ true
