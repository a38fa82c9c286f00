use Rattle.std.proofs.Common.{◌≡◌, ◌+◌, ◌<◌, ◌++◌, ◌∷◌, [], length, length-append, get_or, refl, sym, ap, subst, subst₂, ◌∙◌, arith, Vec, Global}
use Rattle.ark_math.proofs.Outcomes.Tests.{decided}
use Rattle.ark_sum_check.specs.Rounds.{AddsUp, AreAccepted, AreChallenged, AreDifferent, IsRefusedAt, IsRoundOf, IsSound, Round, rounds_at}
use Rattle.ark_sum_check.specs.declared.verifier.Verdict.TheVariants.{Reduced}
use Rattle.ark_sum_check.proofs.Accepted.{AreChallenged-push, sound}
use Rattle.ark_sum_check.proofs.Verified.{IsReached, IsReached-accepted, IsReached-more, IsReached-none, IsReached-refused, all_taken, length-rounds_at, none_refused, rounds_at-drawn, rounds_at-none}
use Rattle.ark_sum_check.proofs.verifier.verify.Goals as goal

pub loop-index-init : goal.loop-index-init
loop-index-init g c =
    let K = g.F.Field.field in
    let vs = c.args.rounds.now in
    let d = c.args.claim.degree in
    let sum = c.args.claim.sum in
    let items = c.in_ok-point.ensures.items in
    let none : rounds_at vs c.in_ok-point.point.items ≡ [] = ap (rounds_at vs) items ∙ rounds_at-none vs in
    record {
      count = ap length items;
      reached = subst (λ rs. IsReached K d sum rs sum) (sym none) (IsReached-none K d sum);
      drawn = subst (λ rs. AreChallenged g.C.Challenger.challenge_gives c.args.challenger.now rs c.args.challenger.now) (sym none) refl;
      degree = refl;
      different = λ l. absurd (omega arith);
    }

pub loop-index-preserved : goal.loop-index-preserved
loop-index-preserved g c =
    let K = g.F.Field.field in
    let gives = g.C.Challenger.challenge_gives in
    let vs = c.args.rounds.now in
    let xs = c.loop-index.point.items in
    let v = c.index-rounds-index.result in
    let inv = c.loop-index.invariant in
    let sum = c.args.claim.sum in
    let d = c.args.claim.degree in
    let now = c.loop-index.verifier.claim in
    let next = c.take.new.self.claim in
    let x = c.challenge-challenge.result in
    let r : Round g.row.F.Denot = record { values = v.items; challenge = x } in
    let pushed : c.push.new.self.items ≡ xs ++ x ∷ [] = c.in_ok-push.ensures.items in
    let few : length xs < length vs = omega (arith, c.loop-index-test.true, inv.count) in
    let at : v ≡ get_or vs (length xs) v = c.index-rounds-index.is ∙ ap (λ i. get_or vs i v) (sym inv.count) in
    let rounds : rounds_at vs c.push.new.self.items ≡ rounds_at vs xs ++ r ∷ [] = ap (rounds_at vs) pushed ∙ rounds_at-drawn vs xs v x few at in
    let taken = c.in_ok-fits.ensures in
    record {
      count = omega (arith, ap length pushed, length-append xs (x ∷ []), inv.count);
      reached =
          subst (λ rs. IsReached K d sum rs next) (sym rounds)
          (IsReached-more K d sum (rounds_at vs xs) r now next inv.reached
          (subst₂ (λ n us. IsRoundOf K n now us x next) inv.degree c.deref-in-loop-index.ensures.value (taken.accepted c.if-not-fits.false))
          (λ y t. (taken.only y (subst₂ (λ n us. IsRoundOf K n now us x y) (sym inv.degree) (sym c.deref-in-loop-index.ensures.value) t)).1));
      drawn =
          subst (λ rs. AreChallenged gives c.args.challenger.now rs c.challenge-challenge.new.self) (sym rounds)
          (AreChallenged-push gives c.args.challenger.now (rounds_at vs xs) c.loop-index.challenger c.deref.result.now r c.challenge-challenge.new.self inv.drawn c.challenge-challenge.ensures c.deref.ensures.value);
      degree = c.take.ensures.degree ∙ inv.degree;
      different = λ _. subst (λ n. AreDifferent K (n + 1)) inv.degree (taken.different c.if-not-fits.false);
    }

pub returns-then-not-fits-clause-refused : goal.returns-then-not-fits-clause-refused
returns-then-not-fits-clause-refused g c = λ i e.
    let K = g.F.Field.field in
    let gives = g.C.Challenger.challenge_gives in
    let vs = c.args.rounds.now in
    let xs = c.loop-index.point.items in
    let v = c.index-rounds-index.result in
    let inv = c.loop-index.invariant in
    let sum = c.args.claim.sum in
    let d = c.args.claim.degree in
    let now = c.loop-index.verifier.claim in
    let x = c.challenge-challenge.result in
    let r : Round g.row.F.Denot = record { values = v.items; challenge = x } in
    let same : c.loop-index.index ≡ i = cc in
    let few : length xs < length vs = omega (arith, c.loop-index-test.true, inv.count) in
    let at : v ≡ get_or vs (length xs) v = c.index-rounds-index.is ∙ ap (λ i. get_or vs i v) (sym inv.count) in
    let rounds : rounds_at vs (xs ++ x ∷ []) ≡ rounds_at vs xs ++ r ∷ [] = rounds_at-drawn vs xs v x few at in
    let count : length (rounds_at vs xs) ≡ i = length-rounds_at vs xs (omega arith) ∙ inv.count ∙ same in (
      xs ++ x ∷ [],
      subst (λ rs. AreChallenged gives c.args.challenger.now rs c.challenge-challenge.new.self) (sym rounds)
          (AreChallenged-push gives c.args.challenger.now (rounds_at vs xs) c.loop-index.challenger c.deref.result.now r c.challenge-challenge.new.self inv.drawn c.challenge-challenge.ensures c.deref.ensures.value),
      subst (λ rs. IsRefusedAt K d sum rs i) (sym rounds)
          (IsReached-refused K d sum (rounds_at vs xs) r now i count inv.reached
          (subst₂ (λ n us. AddsUp K n now us → ⊥) inv.degree c.deref-in-loop-index.ensures.value (c.in_ok-fits.ensures.refused c.if-not-fits.true))),
    )

pub returns-then-not-fits-clause-complete : goal.returns-then-not-fits-clause-complete
returns-then-not-fits-clause-complete g c = λ point end value one count all drawn accepted.
    let K = g.F.Field.field in
    let gives = g.C.Challenger.challenge_gives in
    let vs = c.args.rounds.now in
    let xs = c.loop-index.point.items in
    let v = c.index-rounds-index.result in
    let inv = c.loop-index.invariant in
    let now = c.loop-index.verifier.claim in
    let x = c.challenge-challenge.result in
    let r : Round g.row.F.Denot = record { values = v.items; challenge = x } in
    let few : length xs < length vs = omega (arith, c.loop-index-test.true, inv.count) in
    let at : v ≡ get_or vs (length xs) v = c.index-rounds-index.is ∙ ap (λ i. get_or vs i v) (sym inv.count) in
    let rounds : rounds_at vs (xs ++ x ∷ []) ≡ rounds_at vs xs ++ r ∷ [] = rounds_at-drawn vs xs v x few at in
    absurd (none_refused K c.args.claim.degree c.args.claim.sum gives one vs c.args.challenger.now point end value (count ∙ sym all) drawn accepted xs v x c.challenge-challenge.new.self now few at
    (subst (λ rs. AreChallenged gives c.args.challenger.now rs c.challenge-challenge.new.self) (sym rounds)
    (AreChallenged-push gives c.args.challenger.now (rounds_at vs xs) c.loop-index.challenger c.deref.result.now r c.challenge-challenge.new.self inv.drawn c.challenge-challenge.ensures c.deref.ensures.value))
    inv.reached
    (subst₂ (λ n us. AddsUp K n now us → ⊥) inv.degree c.deref-in-loop-index.ensures.value (c.in_ok-fits.ensures.refused c.if-not-fits.true)))

pub returns-clause-accepted : goal.returns-clause-accepted
returns-clause-accepted g c = λ value point e.
    let K = g.F.Field.field in
    let vs = c.args.rounds.now in
    let claimed : c.loop-index.verifier.claim ≡ value = cc in
    let made : c.loop-index.point ≡ point = cc in
    subst₂ (λ y (p : Vec g.row.F.Denot Global). AreAccepted K c.args.claim.degree c.args.claim.sum (rounds_at vs p.items) y) claimed made
    (IsReached-accepted K c.args.claim.degree c.args.claim.sum (rounds_at vs c.loop-index.point.items) c.loop-index.verifier.claim c.loop-index.invariant.reached)

pub returns-clause-complete : goal.returns-clause-complete
returns-clause-complete g c = λ point end value one count all drawn accepted.
    let K = g.F.Field.field in
    let vs = c.args.rounds.now in
    let inv = c.loop-index.invariant in
    let n : length c.loop-index.point.items ≡ length vs = omega (arith, inv.count) in
    let h = all_taken K c.args.claim.degree c.args.claim.sum g.C.Challenger.challenge_gives one vs c.args.challenger.now point end value (count ∙ sym all) drawn accepted c.loop-index.point.items c.loop-index.challenger c.loop-index.verifier.claim n inv.drawn inv.reached in
    (c.loop-index.point, h.0, ap (λ y. Reduced y c.loop-index.point) h.1)

pub returns-clause-sound : goal.returns-clause-sound
returns-clause-sound g c = λ value point e s few.
    let K = g.F.Field.field in
    let vs = c.args.rounds.now in
    let d = c.args.claim.degree in
    let sum = c.args.claim.sum in
    let claimed : c.loop-index.verifier.claim ≡ value = cc in
    let made : c.loop-index.point ≡ point = cc in
    subst₂ (λ y (p : Vec g.row.F.Denot Global). IsSound K d sum (rounds_at vs p.items) y s) claimed made
    (sound K g.met.F.Field.field_laws (λ a b. decided _ (g.met.F.Field.equality_law a b)) d sum (rounds_at vs c.loop-index.point.items) c.loop-index.verifier.claim s few
    (IsReached-accepted K d sum (rounds_at vs c.loop-index.point.items) c.loop-index.verifier.claim c.loop-index.invariant.reached))
