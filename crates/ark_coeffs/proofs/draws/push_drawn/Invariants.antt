use Rattle.std.proofs.Common.{◌≡◌, ◌+◌, vec_len}
use Rattle.ark_coeffs.proofs.draws.push_drawn.Given as goal

abbrev pub invariant-loop : goal.invariant-loop
invariant-loop g l = vec_len l.items ≡ vec_len l.fn.items + l.counter
