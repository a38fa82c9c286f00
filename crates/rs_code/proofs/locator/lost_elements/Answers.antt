use Rattle.std.proofs.Common.{◌≡◌, ◌+◌, ◌<◌, length, true, false, get_or, [], ◌∷◌, ◌++◌, ap, ap₂, sym, ◌∙◌, add-one, refl}
use Rattle.ark_math.specs.Field.{power}
use Rattle.ark_math.specs.Domain.{element}
use Rattle.ark_math.proofs.Algebra.Solve.{◌⊗◌}
use Rattle.ark_math.proofs.Algebra.Ring.{ring3}
use Rattle.rs_code.proofs.Lost.{lost-more, lost-kept}
use Rattle.rs_code.proofs.Places.{at_default}
use Rattle.rs_code.proofs.locator.lost_elements.Goals as goal
use Rattle.rs_code.proofs.locator.lost_elements.Goals.{then-place+in_ok-push, else-place}

pub loop-place-preserved : goal.loop-place-preserved
loop-place-preserved g c =
    let K = g.F.Field.field in
    let N = g.met.F.Field.field_laws in
    let d = g.D.EvaluationDomain.domain c.args.domain.now in
    let marks = c.args.erased.now in
    let i = c.loop-place.place-index in
    let inside : i < length marks = c.loop-place-test.true in
    let v = c.loop-place.invariant in
    let next : c.mul-element.result ≡ element K d (i + 1) =
    g.met.F.Field.mul_law _ _ _ c.mul-element.ensures
    ∙ ap₂ K.times v.next_is c.group_gen-root.ensures
    ∙ ring3 K N (λ h p w. ((h ⊗ p) ⊗ w, h ⊗ (w ⊗ p))) refl d.offset (power K d.root i) d.root
    ∙ ap (element K d) (sym (add-one i)) in
    elim c.if-place.branch [
      | then-place+in_ok-push w ↦
          let e : get_or marks i true ≡ true = at_default marks i _ true true inside w.if-place.true in
          record {
            list = ap (λ t. t.items) w.elements-is ∙ w.in_ok-push.ensures.items ∙ ap₂ (λ s t. s ++ t ∷ []) v.list v.next_is ∙ sym (lost-more K d marks i inside e);
            next_is = next;
          }
      | else-place w ↦
          let e : get_or marks i true ≡ false = at_default marks i _ true false inside w.if-place.false in
          record {
            list = ap (λ t. t.items) w.elements-is ∙ v.list ∙ sym (lost-kept K d marks i e);
            next_is = next;
          }
    ]
