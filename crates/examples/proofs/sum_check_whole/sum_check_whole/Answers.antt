use Rattle.std.proofs.Common.{◌≡◌, List, length, sym, ap, subst, subst₂, ◌∙◌, Vec, Global}
use Rattle.std.proofs.lemmas.Result.{IfOk-weaker}
use Rattle.ark_sum_check.specs.Cube.{cube_sum, sum_value}
use Rattle.ark_sum_check.specs.Provers.{sum_of, variables_of}
use Rattle.ark_sum_check.specs.Rounds.{AreAccepted, AreChallenged, rounds_at}
use Rattle.ark_sum_check.specs.declared.verifier.Verdict.TheVariants.{Reduced}
use Rattle.examples.proofs.sum_check_whole.sum_check_whole.Goals as goal

pub returns : goal.returns
returns g c = λ one same e.
    let K = g.F.Field.field in
    let p = c.args.prover in
    let s = sum_of K p in
    let proof = c.in_ok-proof.proof in
    let made = c.in_ok-proof.ensures in
    let xs = proof.point.items in
    let value = sum_value K s xs in
    let sent = c.deref.ensures.value in
    let accepted : AreAccepted K c.degree.result c.args.sum (rounds_at c.deref.result.now xs) value =
    subst (λ us. AreAccepted K c.degree.result c.args.sum (rounds_at us xs) value) (sym sent)
    (subst (λ y. AreAccepted K c.degree.result y (rounds_at proof.rounds.items xs) value) (sym e)
    (subst (λ d. AreAccepted K d (cube_sum K (variables_of p) s) (rounds_at proof.rounds.items xs) value) (sym c.degree.ensures.degree) made.accepted)) in
    IfOk-weaker c.verify.result
    (λ v. (q : Vec g.row.F.Denot Global) × (q.items ≡ xs) × (v ≡ Reduced value q))
    (λ v. (q : Vec g.row.F.Denot Global) × (length q.items ≡ variables_of p) × (v ≡ Reduced (sum_value K s q.items) q))
    (λ v h. (h.0, ap length h.1 ∙ made.point, h.2 ∙ ap (λ ys. Reduced (sum_value K s ys) h.0) (sym h.1)))
    (c.verify.ensures.complete xs c.prove.new.challenger value one (made.point ∙ sym c.num_vars.ensures) (ap length sent ∙ made.rounds ∙ sym c.num_vars.ensures)
    (subst₂ (λ us a. AreChallenged g.C.Challenger.challenge_gives a (rounds_at us xs) c.prove.new.challenger) (sym sent) same made.drawn)
    accepted)
