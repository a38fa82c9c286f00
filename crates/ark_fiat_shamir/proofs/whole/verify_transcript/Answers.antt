use Rattle.std.proofs.Common.{length, sym, ap, subst, subst₂, ◌∙◌}
use Rattle.ark_bytes.specs.declared.compress.Compress.TheVariants.{Yes}
use Rattle.ark_sum_check.specs.Rounds.{AreAccepted, AreChallenged, IsRefusedAt, IsSound, rounds_at}
use Rattle.ark_fiat_shamir.specs.Derived.{IsRoundChallenge}
use Rattle.ark_fiat_shamir.proofs.Determined.{determined}
use Rattle.ark_fiat_shamir.proofs.whole.verify_transcript.Goals as goal

pub returns-in-Reduced-clause-complete : goal.returns-in-Reduced-clause-complete
returns-in-Reduced-clause-complete g c = λ point after value count all derived accepted.
    let K = g.F.Field.field in
    let e = g.F.Spelled.format Yes in
    let size = g.F.Field.element_size in
    let read = c.deref.ensures.value in
    let h = c.in_ok-value.ensures.complete point after value (determined K e size (g.met.F.Field.elements_law Yes)) count (ap length read ∙ all)
    (subst₂ (λ us a. AreChallenged (IsRoundChallenge K e size) a (rounds_at us point) after) (sym read) (sym c.in_ok-challenger.ensures) derived)
    (subst (λ us. AreAccepted K c.args.claim.degree c.args.claim.sum (rounds_at us point) value) (sym read) accepted) in
    (h.0, h.1, sym c.in-Reduced.is ∙ h.2)

pub returns-in-Refused-clause-complete : goal.returns-in-Refused-clause-complete
returns-in-Refused-clause-complete g c = λ point after value count all derived accepted.
    let K = g.F.Field.field in
    let e = g.F.Spelled.format Yes in
    let size = g.F.Field.element_size in
    let read = c.deref.ensures.value in
    let h = c.in_ok-value.ensures.complete point after value (determined K e size (g.met.F.Field.elements_law Yes)) count (ap length read ∙ all)
    (subst₂ (λ us a. AreChallenged (IsRoundChallenge K e size) a (rounds_at us point) after) (sym read) (sym c.in_ok-challenger.ensures) derived)
    (subst (λ us. AreAccepted K c.args.claim.degree c.args.claim.sum (rounds_at us point) value) (sym read) accepted) in
    (h.0, h.1, sym c.in-Refused.is ∙ h.2)

pub returns-in-Reduced-clause-sound : goal.returns-in-Reduced-clause-sound
returns-in-Reduced-clause-sound g c = λ value point e s few.
    subst (λ us. IsSound g.F.Field.field c.args.claim.degree c.args.claim.sum (rounds_at us point.items) value s) c.deref.ensures.value
    (c.in_ok-value.ensures.sound value point (c.in-Reduced.is ∙ e) s few)

pub returns-in-Reduced-clause-different : goal.returns-in-Reduced-clause-different
returns-in-Reduced-clause-different g c = λ value point e some.
    c.in_ok-value.ensures.different value point (c.in-Reduced.is ∙ e) some

pub returns-in-Refused-clause-refused : goal.returns-in-Refused-clause-refused
returns-in-Refused-clause-refused g c = λ i e.
    let K = g.F.Field.field in
    let format = g.F.Spelled.format Yes in
    let gives = IsRoundChallenge K format g.F.Field.element_size in
    let read = c.deref.ensures.value in
    let h = c.in_ok-value.ensures.refused i (c.in-Refused.is ∙ e) in (
      h.0,
      c.verify.new.challenger,
      subst₂ (λ us a. AreChallenged gives a (rounds_at us h.0) c.verify.new.challenger) read c.in_ok-challenger.ensures h.1,
      subst (λ us. IsRefusedAt K c.args.claim.degree c.args.claim.sum (rounds_at us h.0) i) read h.2,
    )
