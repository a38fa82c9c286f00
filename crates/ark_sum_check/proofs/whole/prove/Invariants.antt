use Rattle.std.proofs.Common.{◌≡◌, ◌+◌, length, max}
use Rattle.ark_sum_check.specs.Cube.{degree_of}
use Rattle.ark_sum_check.specs.Provers.{sum_of, variables_of}
use Rattle.ark_sum_check.specs.Rounds.{AreChallenged, rounds_at}
use Rattle.ark_sum_check.proofs.Accepted.{AreTrueSoFar}
use Rattle.ark_sum_check.proofs.whole.prove.Given as goal

abbrev pub invariant-variables : goal.invariant-variables
invariant-variables g l =
    let K = g.F.Field.field in
    let s = sum_of K l.fn.prover in
    let rs = rounds_at l.rounds.items l.point.items in
    record {
      count : length l.rounds.items + variables_of l.left ≡ variables_of l.fn.prover;
      same : length l.rounds.items ≡ length l.point.items;
      degree : degree_of (sum_of K l.left) ≡ degree_of s;
      truth : AreTrueSoFar K (max 1 (degree_of s)) s rs (variables_of l.left) (sum_of K l.left);
      drawn : AreChallenged g.C.Challenger.challenge_gives l.fn.challenger rs l.challenger;
    }

abbrev pub decreases-variables : goal.decreases-variables
decreases-variables g l = variables_of l.left
