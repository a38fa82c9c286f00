use Rattle.std.proofs.Common.{◌≡◌, ◌+◌, ◌-◌, ◌≤◌, [], length, max, sym, ap, ap₂, ◌∙◌, subst, arith}
use Rattle.ark_sum_check.specs.Cube.{cube_sum, degree_of, sum_value}
use Rattle.ark_sum_check.specs.Embedded.{embedded_sum}
use Rattle.ark_sum_check.specs.Provers.{sum_of, variables_of}
use Rattle.ark_sum_check.specs.Rounds.{AreAccepted, AreChallenged, AreTrueRounds, rounds_at, rounds_in}
use Rattle.ark_sum_check.proofs.Embeddings.{first_true, longest_kept, true_lists_accepted}
use Rattle.ark_sum_check.proofs.TrueRounds.{cube_sum-none}
use Rattle.ark_sum_check.proofs.Verified.{length-rounds_at}
use Rattle.ark_sum_check.proofs.whole.prove_within_from.Goals as goal

pub returns-then-num_vars-eq0-clause-truth : goal.returns-then-num_vars-eq0-clause-truth
returns-then-num_vars-eq0-clause-truth g c =
    let E = g.E.Field.field in
    let s = sum_of g.F.Field.field c.args.prover.now in
    subst (AreTrueRounds E (max 1 (degree_of s)) (embedded_sum g.E.ExtensionOf.within s)) (sym (ap₂ rounds_at c.no_rounds.ensures.rounds c.no_rounds.ensures.point)) tt

pub returns-then-num_vars-eq0-clause-accepted : goal.returns-then-num_vars-eq0-clause-accepted
returns-then-num_vars-eq0-clause-accepted g c =
    let E = g.E.Field.field in
    let s = sum_of g.F.Field.field c.args.prover.now in
    let t = embedded_sum g.E.ExtensionOf.within s in
    let n = variables_of c.args.prover.now in
    let none : n ≡ 0 = omega arith in
    let end = c.no_rounds.ensures in
    subst (λ xs. AreAccepted E (max 1 (degree_of s)) (cube_sum E n t) (rounds_in c.no_rounds.result) (sum_value E t xs)) (sym end.point)
    (subst (λ rs. AreAccepted E (max 1 (degree_of s)) (cube_sum E n t) rs (sum_value E t [])) (sym (ap₂ rounds_at end.rounds end.point))
    (ap (λ k. cube_sum E k t) none ∙ cube_sum-none E g.met.E.Field.field_laws t))

pub returns-clause-rounds : goal.returns-clause-rounds
returns-clause-rounds g c =
    omega (arith, ap length c.in_ok-proof.ensures.rounds, c.in_ok-rest.ensures.rounds, c.in_ok-left.ensures.variables)

pub returns-clause-point : goal.returns-clause-point
returns-clause-point g c =
    omega (arith, ap length c.in_ok-proof.ensures.point, c.in_ok-rest.ensures.point, c.in_ok-left.ensures.variables)

pub returns-clause-truth : goal.returns-clause-truth
returns-clause-truth g c =
    let E = g.E.Field.field in
    let s = sum_of g.F.Field.field c.args.prover.now in
    let t = embedded_sum g.E.ExtensionOf.within s in
    let left = c.in_ok-left.left in
    let rest = c.in_ok-rest.rest in
    let kept : degree_of (sum_of E left) ≡ degree_of s = ap degree_of c.in_ok-left.ensures.sum ∙ longest_kept g.E.ExtensionOf.within s.addends in
    let few : length rest.point.items ≤ length rest.rounds.items = omega (arith, c.in_ok-rest.ensures.rounds, c.in_ok-rest.ensures.point) in
    first_true E (max 1 (degree_of s)) t (max 1 (degree_of (sum_of E left))) (variables_of c.args.prover.now - 1) (sum_of E left) c.in_ok-values.values c.challenge-challenge.result
    rest.rounds.items c.in_ok-proof.proof.rounds.items rest.point.items c.in_ok-proof.proof.point.items c.in_ok-proof.ensures.rounds c.in_ok-proof.ensures.point
    (ap (max 1) kept) c.in_ok-left.ensures.sum
    (length-rounds_at rest.rounds.items rest.point.items few ∙ c.in_ok-rest.ensures.point ∙ c.in_ok-left.ensures.variables)
    c.in_ok-values.ensures.truth c.in_ok-rest.ensures.truth

pub returns-clause-accepted : goal.returns-clause-accepted
returns-clause-accepted g c =
    let E = g.E.Field.field in
    let s = sum_of g.F.Field.field c.args.prover.now in
    let t = embedded_sum g.E.ExtensionOf.within s in
    let left = c.in_ok-left.left in
    let rest = c.in_ok-rest.rest in
    let proof = c.in_ok-proof.proof in
    let kept : degree_of (sum_of E left) ≡ degree_of s = ap degree_of c.in_ok-left.ensures.sum ∙ longest_kept g.E.ExtensionOf.within s.addends in
    let few : length rest.point.items ≤ length rest.rounds.items = omega (arith, c.in_ok-rest.ensures.rounds, c.in_ok-rest.ensures.point) in
    let rounds : length proof.rounds.items ≡ length rest.rounds.items + 1 = omega (arith, ap length c.in_ok-proof.ensures.rounds) in
    let point : length proof.point.items ≡ length rest.point.items + 1 = omega (arith, ap length c.in_ok-proof.ensures.point) in
    true_lists_accepted E (max 1 (degree_of s)) t g.met.E.Field.field_laws proof.rounds.items proof.point.items (variables_of c.args.prover.now)
    (omega arith) (omega (arith, longest_kept g.E.ExtensionOf.within s.addends)) (omega arith)
    (omega (arith, c.in_ok-rest.ensures.point, c.in_ok-left.ensures.variables))
    (first_true E (max 1 (degree_of s)) t (max 1 (degree_of (sum_of E left))) (variables_of c.args.prover.now - 1) (sum_of E left) c.in_ok-values.values c.challenge-challenge.result
    rest.rounds.items proof.rounds.items rest.point.items proof.point.items c.in_ok-proof.ensures.rounds c.in_ok-proof.ensures.point
    (ap (max 1) kept) c.in_ok-left.ensures.sum
    (length-rounds_at rest.rounds.items rest.point.items few ∙ c.in_ok-rest.ensures.point ∙ c.in_ok-left.ensures.variables)
    c.in_ok-values.ensures.truth c.in_ok-rest.ensures.truth)

pub returns-clause-drawn : goal.returns-clause-drawn
returns-clause-drawn g c =
    let gives = g.C.Challenger.challenge_gives in
    let old = c.args.challenger.now in
    let sent = c.in_ok-values.values.items in
    let next = c.challenge-challenge.new.self in
    subst (λ rs. AreChallenged gives old rs c.prove.new.challenger) (sym (ap₂ rounds_at c.in_ok-proof.ensures.rounds c.in_ok-proof.ensures.point))
    (next, subst (λ vs. gives old vs c.challenge-challenge.result next) c.deref.ensures.value c.challenge-challenge.ensures, c.in_ok-rest.ensures.drawn)
