use Rattle.std.proofs.Common.{◌≡◌, ◌+◌, ◌<◌, length}
use Rattle.ark_sum_check.specs.Rounds.{AreChallenged, AreDifferent, rounds_at}
use Rattle.ark_sum_check.proofs.Verified.{IsReached}
use Rattle.ark_sum_check.proofs.verifier.verify.Given as goal

abbrev pub invariant-loop-index : goal.invariant-loop-index
invariant-loop-index g l =
    let K = g.F.Field.field in
    let rs = rounds_at l.rounds l.point.items in
    record {
      count : length l.point.items ≡ l.index;
      reached : IsReached K l.fn.claim.degree l.fn.claim.sum rs l.verifier.claim;
      drawn : AreChallenged g.C.Challenger.challenge_gives l.fn.challenger rs l.challenger;
      degree : l.verifier.degree ≡ l.fn.claim.degree;
      different : 0 < l.index → AreDifferent K (l.fn.claim.degree + 1);
    }
