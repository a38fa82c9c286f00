use Rattle.std.proofs.Common.{◌≡◌, ◌≢◌, suc, ◌+◌, ◌-◌, ◌<◌, length, slice_set, refl, sym, ap, ◌∙◌, arith, ⊎_elim}
use Rattle.std.proofs.Common.{get_or-set_same, get_or-set_other}
use Rattle.std.proofs.lemmas.Bool.{cases_eq}
use Rattle.std.proofs.lemmas.List.{length-set}
use Rattle.ark_math.specs.Field.{power}
use Rattle.ark_math.specs.Module.{itself, sum_below}
use Rattle.ark_math.specs.Univariate.{of_list}
use Rattle.ark_math.proofs.Algebra.Ring.{ring3}
use Rattle.ark_math.proofs.Algebra.Solve.{◌⊗◌}
use Rattle.ark_math.proofs.Algebra.Sums.{sum_below-same}
use Rattle.ark_math.proofs.Lists.Lists.{written_back}
use Rattle.ark_subproducts.specs.Steps.{power_sum}
use Rattle.ark_subproducts.proofs.few.power_sums.Goals as goal

pub loop-place-preserved : goal.loop-place-preserved
loop-place-preserved g c =
    let K = g.F.Field.field in
    let v = c.loop-place.invariant in
    let points = c.args.points.now in
    let n = length points in
    let z = of_list K points in
    let w = of_list K c.args.weights.now in
    let terms = c.loop-place.terms.items in
    let sums = c.loop-place.sums.items in
    let place = c.loop-place.place - 1 in
    let sum = c.sum_of.result in
    let next : c.loop-place.place ≡ place + 1 = let t = c.loop-place-test.true in omega arith in
    let below : place < n = omega (arith, next, c.loop-place.auto.place) in
    let inside : place < length sums = omega (arith, below, v.len) in
    let exponent : n - c.loop-place.place ≡ n - 1 - place = omega (arith, next) in
    let more : suc (n - c.loop-place.place) ≡ n - place = omega (arith, next, below) in
    let given : c.as_mut_slice.result.now ≡ terms = c.as_mut_slice.ensures.value in
    let size : length c.as_mut_slice.result.now ≡ n = ap length given ∙ v.count in
    let back = written_back c.multiply_each.new.items _ _ (omega (arith, c.multiply_each.auto.items, c.as_mut_slice.ensures.len)) in
    let is : sum ≡ power_sum K points w (n - 1 - place) =
    c.sum_of.ensures
    ∙ ap (λ t. sum_below (itself K) (length t) (of_list K t)) c.deref.ensures.value
    ∙ ap (λ m. sum_below (itself K) m (of_list K terms)) v.count
    ∙ sum_below-same (itself K) n (of_list K terms) (λ i. K.times (w i) (power K (z i) (n - 1 - place)))
    (λ i l. v.terms i l ∙ ap (λ t. K.times (w i) (power K (z i) t)) exponent) in
    record {
      len = length-set sums place sum ∙ v.len;
      count = ap length back ∙ c.multiply_each.auto.items ∙ size;
      terms = λ i l.
          ap (λ t. of_list K t i) back
          ∙ c.multiply_each.ensures i
          ∙ ap (λ t. K.times t (z i)) (ap (λ t. of_list K t i) given ∙ v.terms i l)
          ∙ ring3 K g.met.F.Field.field_laws (λ w p z. ((w ⊗ p) ⊗ z, w ⊗ (z ⊗ p))) refl (w i) (power K (z i) (n - c.loop-place.place)) (z i)
          ∙ ap (λ t. K.times (w i) (power K (z i) t)) more;
      done = λ k l b. ⊎_elim
          (λ (e : k ≡ place). ap (of_list K (slice_set sums place sum)) e ∙ get_or-set_same sums place sum K.zero inside ∙ is ∙ ap (λ t. power_sum K points w (n - 1 - t)) (sym e))
          (λ (ne : k ≢ place). get_or-set_other sums place k sum K.zero ne ∙ v.done k (omega (arith, l, ne, next)) b)
          (cases_eq k place);
    }
