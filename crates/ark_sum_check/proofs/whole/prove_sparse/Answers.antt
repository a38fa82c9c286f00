use Rattle.std.proofs.Common.{◌≡◌, ℕ, ◌+◌, ◌<◌, ◌≤◌, ◌∷◌, [], ◌++◌, length, length-append, sym, ap, ap₂, ◌∙◌, subst, subst₂, arith}
use Rattle.ark_sum_check.specs.Cube.{cube_sum, sum_value}
use Rattle.ark_sum_check.specs.Provers.{factor_of}
use Rattle.ark_sum_check.specs.Rounds.{AreAccepted, AreChallenged, Round, rounds_at}
use Rattle.ark_sum_check.proofs.Accepted.{AreChallenged-push, AreTrueSoFar, AreTrueSoFar-end, AreTrueSoFar-more, true_accepted}
use Rattle.ark_sum_check.proofs.Verified.{challenges-rounds_at, length-rounds_at, rounds_at-push}
use Rattle.ark_sum_check.proofs.whole.prove_sparse.Goals as goal

pub returns-clause-truth : goal.returns-clause-truth
returns-clause-truth g c =
    let K = g.F.Field.field in
    let s = factor_of K c.args.prover in
    let none : c.variables.left.variables ≡ 0 = omega arith in
    AreTrueSoFar-end K 1 s (rounds_at c.variables.rounds.items c.variables.point.items) (factor_of K c.variables.left) (c.variables.left.variables) none c.variables.invariant.truth

pub returns-clause-accepted : goal.returns-clause-accepted
returns-clause-accepted g c =
    let K = g.F.Field.field in
    let s = factor_of K c.args.prover in
    let d : ℕ = 1 in
    let left = c.variables.left in
    let v = c.variables.invariant in
    let vs = c.variables.rounds.items in
    let xs = c.variables.point.items in
    let rs = rounds_at vs xs in
    let none : left.variables ≡ 0 = omega arith in
    let few : length xs ≤ length vs = omega (arith, v.same) in
    let count : length rs ≡ c.args.prover.variables = omega (arith, v.count, v.same, length-rounds_at vs xs few) in
    subst₂ (λ n p. AreAccepted K d (cube_sum K n s) rs (sum_value K s p)) count (challenges-rounds_at vs xs few)
    (true_accepted K g.met.F.Field.field_laws d s rs (omega arith) (omega arith)
    (AreTrueSoFar-end K d s rs (factor_of K left) (left.variables) none v.truth))

pub variables-preserved : goal.variables-preserved
variables-preserved g c =
    let K = g.F.Field.field in
    let gives = g.C.Challenger.challenge_gives in
    let v = c.variables.invariant in
    let s = factor_of K c.args.prover in
    let d : ℕ = 1 in
    let us = factor_of K c.variables.left in
    let ws = factor_of K c.bind.new.self in
    let vs = c.variables.rounds.items in
    let xs = c.variables.point.items in
    let rs = rounds_at vs xs in
    let sent = c.in_ok-values.values in
    let r : Round g.row.F.Denot = record { values = sent.items; challenge = c.challenge-challenge.result } in
    let pushed : c.push.new.self.items ≡ vs ++ sent ∷ [] = c.in_ok-push.ensures.items in
    let drawn : c.push-in-variables.new.self.items ≡ xs ++ r.challenge ∷ [] = c.in_ok-push-2.ensures.items in
    let items : rounds_at c.push.new.self.items c.push-in-variables.new.self.items ≡ rs ++ r ∷ [] =
    ap₂ rounds_at pushed drawn ∙ rounds_at-push vs xs sent r.challenge v.same in
    let some : 0 < c.variables.left.variables = omega arith in
    let more : length c.push.new.self.items ≡ length vs + 1 = ap length pushed ∙ length-append vs (sent ∷ []) in
    let further : length c.push-in-variables.new.self.items ≡ length xs + 1 = ap length drawn ∙ length-append xs (r.challenge ∷ []) in
    record {
      count = omega (arith, more);
      same = omega (arith, more, further, v.same);
      truth =
          subst (λ ss. AreTrueSoFar K d s ss (c.bind.new.self.variables) ws) (sym items)
          (subst (λ n. AreTrueSoFar K d s (rs ++ r ∷ []) n ws) (sym c.bind.ensures.variables)
          (AreTrueSoFar-more K d s rs r (c.variables.left.variables) us ws some c.in_ok-values.ensures.truth c.bind.ensures.sum v.truth));
      drawn =
          subst (λ ss. AreChallenged gives c.args.challenger.now ss c.challenge-challenge.new.self) (sym items)
          (AreChallenged-push gives c.args.challenger.now rs c.variables.challenger c.deref.result.now r c.challenge-challenge.new.self v.drawn c.challenge-challenge.ensures c.deref.ensures.value);
    }
