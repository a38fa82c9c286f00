use Rattle.std.proofs.Common.{◌≡◌, ◌≢◌, ℕ, Bool, true, false, length, sym, subst, subst₂, ap, ◌∙◌, ◌==◌, ◌⊎◌, ◌<◌, ◌≤◌, refl, arith}
use Rattle.std.specs.Cmp.{unsigned_Decides}
use Rattle.std.specs.Cmp.Lexicographic.{pointwise_decides}
use Rattle.ark_sum_check.specs.Cube.{cube_sum, sum_value}
use Rattle.ark_sum_check.specs.Rounds.{AreAccepted, HasOneOfFew, rounds_at}
use Rattle.ark_sum_check.proofs.Verified.{challenges-rounds_at, length-rounds_at}
use Rattle.examples.proofs.accepted.is_accepted.Goals.{then-eq, else-eq}
use Rattle.examples.proofs.accepted.is_accepted.Goals as goal

equal_unless : (m n : ℕ) (b : Bool) → (m == n) ≡ b → ((m ≢ n) → ⊥) → m ≡ n
equal_unless m n true e never = (unsigned_Decides m n).0 e
equal_unless m n false e never = absurd (never (λ one. let yes = (unsigned_Decides m n).1 one in cc (yes, e)))

pub returns-after-eq : goal.returns-after-eq
returns-after-eq g c = elim c.if-eq.branch [
  | then-eq w ↦ λ fits s few value.
      let K = g.F.Field.field in
      let last = c.in-Reduced.last in
      let p = c.in-Reduced.point in
      let proof = c.args.proof.now in
      let us = proof.rounds.items in
      let xs = proof.point.items in
      let n = c.args.claim.num_vars in
      let e = c.in_ok-last.ensures in
      let same_point : p.items ≡ xs = (pointwise_decides g.met.F.Field.equality_law p.items xs).0 (sym w.eq-then-eq.ensures ∙ sym w.result-is ∙ fits) in
      let same_value : last ≡ c.args.value = (g.met.F.Field.equality_law last c.args.value).0 (sym c.eq.ensures ∙ w.if-eq.true) in
      let sent : c.deref.result.now ≡ us = c.deref.ensures.value in
      let many : length us ≡ n = ap length (sym sent) ∙ equal_unless (length c.deref.result.now) n (length c.deref.result.now == n) refl (λ differ. let wrong = e.count.1 differ in cc (wrong, c.in-Reduced.is)) in
      let whole : length xs ≡ n = ap length (sym same_point) ∙ e.point last p c.in-Reduced.is in
      let within : length xs ≤ length us = omega (arith, many, whole) in
      let accepted : AreAccepted K c.args.claim.degree c.args.claim.sum (rounds_at us xs) last =
      subst₂ (λ vs ys. AreAccepted K c.args.claim.degree c.args.claim.sum (rounds_at vs ys) last) sent same_point (e.accepted last p c.in-Reduced.is) in
      let counted : length (rounds_at us xs) ≡ n = length-rounds_at us xs within ∙ whole in
      let true_value : last ≡ sum_value K s xs = same_value ∙ value in
      subst (λ m. (c.args.claim.sum ≡ cube_sum K m s) ⊎ HasOneOfFew K c.args.claim.degree s (rounds_at us xs)) counted
      (c.true_or_one_of_few.ensures c.args.claim.sum (rounds_at us xs) last s few
      (λ some. e.different last p c.in-Reduced.is (subst (λ m. 0 < m) counted some))
      accepted (true_value ∙ ap (λ ys. sum_value K s ys) (sym (challenges-rounds_at us xs within))))
  | else-eq w ↦ λ fits. cc
]
