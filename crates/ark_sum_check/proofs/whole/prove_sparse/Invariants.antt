use Rattle.std.proofs.Common.{◌≡◌, ◌+◌, length}
use Rattle.ark_sum_check.specs.Provers.{factor_of}
use Rattle.ark_sum_check.specs.Rounds.{AreChallenged, rounds_at}
use Rattle.ark_sum_check.proofs.Accepted.{AreTrueSoFar}
use Rattle.ark_sum_check.proofs.whole.prove_sparse.Given as goal

abbrev pub invariant-variables : goal.invariant-variables
invariant-variables g l =
    let K = g.F.Field.field in
    let s = factor_of K l.fn.prover in
    let rs = rounds_at l.rounds.items l.point.items in
    record {
      count : length l.rounds.items + l.left.variables ≡ l.fn.prover.variables;
      same : length l.rounds.items ≡ length l.point.items;
      truth : AreTrueSoFar K 1 s rs (l.left.variables) (factor_of K l.left);
      drawn : AreChallenged g.C.Challenger.challenge_gives l.fn.challenger rs l.challenger;
    }

abbrev pub decreases-variables : goal.decreases-variables
decreases-variables g l = l.left.variables
