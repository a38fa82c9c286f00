use Rattle.std.proofs.Common.{◌≡◌, ◌≢◌, ◌+◌, ◌<◌, ◌≤◌, suc, length, [], ◌∷◌, ap, ap₂, sym, ◌∙◌, arith, ⊎_elim}
use mathlib.Core.Path.{fun_ext}
use Rattle.std.proofs.lemmas.Bool.{cases_eq, cases_lt}
use Rattle.std.proofs.lemmas.List.{get_or_read, get_or_push, get_or_append_left, get_or_past, length-append}
use Rattle.ark_math.specs.Field.{natural}
use Rattle.ark_math.specs.Univariate.{of_list}
use Rattle.ark_math.proofs.Algebra.Powers.{times_zero}
use Rattle.ark_subproducts.specs.Tree.{derived}
use Rattle.ark_points.proofs.interpolation.derivative.Goals as goal

pub loop-i-preserved : goal.loop-i-preserved
loop-i-preserved g c =
    let K = g.F.Field.field in
    let v = c.loop-i.invariant in
    let i = c.loop-i.i in
    let xs = c.args.coeffs.now in
    let ys = c.loop-i.lowered.items in
    let x = c.mul.result in
    let new = c.in_ok-push.ensures.items in
    let longer : length c.push.new.self.items ≡ length ys + 1 = ap length new ∙ length-append ys (x ∷ []) in
    let exponent : c.add-exponent.result ≡ natural K (suc (length ys)) =
    g.met.F.Field.add_law _ _ _ c.add-exponent.ensures ∙ ap₂ K.plus v.exponent_is (c.one.ensures ∙ g.met.F.Field.one_law) in
    let count = v.len in
    let same : suc (length ys) ≡ i = omega arith in
    let more : suc (length ys) ≡ length c.push.new.self.items = omega arith in
    let read : c.index-coeffs-i.result ≡ of_list K xs i = get_or_read xs i c.index-coeffs-i.result c.loop-i-test.true c.index-coeffs-i.is K.zero in
    let here : x ≡ derived K (of_list K xs) (length ys) =
    g.met.F.Field.mul_law _ _ _ c.mul.ensures ∙ ap₂ K.times exponent (read ∙ ap (of_list K xs) (sym same)) in
    record {
      len = omega arith;
      short = omega arith;
      exponent_is = exponent ∙ ap (natural K) more;
      done = λ k l. ap (λ t. of_list K t k) new ∙ ⊎_elim
          (λ (e : k ≡ length ys). get_or_push ys x K.zero k (sym e) ∙ here ∙ ap (derived K (of_list K xs)) (sym e))
          (λ (ne : k ≢ length ys). let b : k < length ys = omega arith in get_or_append_left ys (x ∷ []) K.zero k b ∙ v.done k (omega arith))
          (cases_eq k (length ys));
    }

pub returns : goal.returns
returns g c =
    let K = g.F.Field.field in
    let v = c.loop-i.invariant in
    let xs = c.args.coeffs.now in
    let ys = c.loop-i.lowered.items in
    let count = v.len in
    let end = c.loop-i-test.false in
    fun_ext (λ k. ⊎_elim
    (λ (l : k < length ys). v.done k (omega arith))
    (λ (m : length ys ≤ k).
    get_or_past ys k K.zero m
    ∙ sym (ap (K.times (natural K (suc k))) (get_or_past xs (suc k) K.zero (omega arith)) ∙ times_zero K g.met.F.Field.field_laws (natural K (suc k))))
    (cases_lt k (length ys)))
