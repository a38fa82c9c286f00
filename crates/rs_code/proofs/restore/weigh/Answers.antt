use Rattle.std.proofs.Common.{◌≡◌, ◌<◌, ℕ, true, false, map, length, get_or, if◌then◌else◌, not, true≢false, sym, ap, ◌∙◌, arith}
use Rattle.std.proofs.lemmas.List.{get_or_read}
use Rattle.ark_math.specs.Module.{item}
use Rattle.ark_math.specs.Univariate.{of_list}
use Rattle.ark_math.proofs.Algebra.Groups.{scale_zero}
use Rattle.ark_math.proofs.Lists.Lists.{written_more, written_rest, read_as}
use Rattle.rs_code.specs.Locator.{weighed}
use Rattle.rs_code.proofs.Places.{at_default, weighed-by}
use Rattle.rs_code.proofs.restore.weigh.Goals as goal
use Rattle.rs_code.proofs.restore.weigh.Goals.{then-erased, else-erased}

pub loop-i-preserved : goal.loop-i-preserved
loop-i-preserved g c =
    let V = g.T.Summand.group in
    let m = g.T.Summand.meaning in
    let K = g.F.Field.field in
    let v = c.loop-i.invariant in
    let s = c.scale_where.ensures in
    let i = c.loop-i.i in
    let xs = c.loop-i.values in
    let marks = c.args.marks.now in
    let f = c.args.factors.now in
    let old = λ (k : ℕ). item V (map m c.args.values.now) k in
    let in_marks : i < length marks = c.loop-i-test.true in
    let inside : i < length xs = omega arith in
    let in_factors : i < length f = omega arith in
    let P = λ (k : ℕ). weighed V (get_or marks k true) (of_list K f k) (old k) in
    let factor : c.index-factors-i.result ≡ of_list K f i = get_or_read f i c.index-factors-i.result in_factors c.index-factors-i.is K.zero in
    let value : m c.if-erased.value ≡ (if get_or marks i true then V.zero else old i) =
    elim c.if-erased.branch [
      | then-erased w ↦
          ap m w.value-is ∙ ap m w.zero-value.ensures ∙ g.met.T.Summand.zero_meaning
          ∙ sym (ap (λ o. if o then V.zero else old i) (at_default marks i _ true true in_marks w.if-erased.true))
      | else-erased w ↦
          ap m w.value-is ∙ read_as m V.zero xs i c.index-values-i.result inside c.index-values-i.is ∙ v.rest i (omega arith)
          ∙ sym (ap (λ o. if o then V.zero else old i) (at_default marks i _ true false in_marks w.if-erased.false))
    ] in
    record {
      before = written_more m V.zero P xs i c.scale_where.new.value inside v.before
          (s.product ∙ ap (λ r. V.scale r (m c.if-erased.value)) factor ∙ weighed-by g.met.F.Field.field_laws g.met.T.Summand.module_laws (get_or marks i true) (of_list K f i) (old i) _ value);
      rest = written_rest m V.zero old xs i c.scale_where.new.value v.rest;
      products_are = omega (arith, s.products, v.products_are);
      butterflies_are = omega (arith, s.butterflies, v.butterflies_are);
      steps_are = omega (arith, s.steps, v.steps_are);
    }

pub scale_where-requires : goal.scale_where-requires
scale_where-requires g c = λ kept.
    let V = g.T.Summand.group in
    let m = g.T.Summand.meaning in
    let r = c.index-factors-i.result in
    elim c.if-erased.branch [
      | then-erased w ↦
          let none : m c.if-erased.value ≡ V.zero = ap m w.value-is ∙ ap m w.zero-value.ensures ∙ g.met.T.Summand.zero_meaning in
          ap (V.scale r) none ∙ scale_zero g.met.T.Summand.module_laws r ∙ sym none
      | else-erased w ↦ absurd {A = V.scale r (m c.if-erased.value) ≡ m c.if-erased.value} (true≢false (ap not (sym w.if-erased.false) ∙ kept))
    ]
