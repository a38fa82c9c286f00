use Rattle.std.proofs.Common.{◌≡◌, ◌<◌, ℕ, true, false, map, length, get_or, if◌then◌else◌, true≢false, sym, ap, ◌∙◌, arith}
use Rattle.std.proofs.lemmas.List.{get_or_read}
use Rattle.ark_math.specs.Module.{item}
use Rattle.ark_math.specs.Univariate.{of_list}
use Rattle.ark_math.proofs.Lists.Lists.{written_more, written_rest, read_as}
use Rattle.rs_code.specs.Locator.{filled}
use Rattle.rs_code.proofs.Places.{at_default, filled-by}
use Rattle.rs_code.proofs.restore.fill.Goals as goal
use Rattle.rs_code.proofs.restore.fill.Goals.{then-erased, else-erased, then-erased-2, else-erased-2}

pub loop-i-preserved : goal.loop-i-preserved
loop-i-preserved g c =
    let V = g.T.Summand.group in
    let m = g.T.Summand.meaning in
    let K = g.F.Field.field in
    let v = c.loop-i.invariant in
    let s = c.scale_where.ensures in
    let i = c.loop-i.i in
    let xs = c.loop-i.values in
    let marks = c.args.marks.now in
    let f = c.args.factors.now in
    let own = λ (k : ℕ). item V (map m c.args.word.now) k in
    let old = λ (k : ℕ). item V (map m c.args.values.now) k in
    let in_marks : i < length marks = c.loop-i-test.true in
    let inside : i < length xs = omega arith in
    let in_word : i < length c.args.word.now = omega arith in
    let in_factors : i < length f = omega arith in
    let P = λ (k : ℕ). filled V (get_or marks k true) (of_list K f k) (own k) (old k) in
    let value : m c.if-erased.value ≡ (if get_or marks i true then old i else own i) =
    elim c.if-erased.branch [
      | then-erased w ↦
          ap m w.value-is ∙ read_as m V.zero xs i c.index-values-i.result inside c.index-values-i.is ∙ v.rest i (omega arith)
          ∙ sym (ap (λ o. if o then old i else own i) (at_default marks i _ true true in_marks w.if-erased.true))
      | else-erased w ↦
          ap m w.value-is ∙ read_as m V.zero c.args.word.now i c.index-word-i.result in_word c.index-word-i.is
          ∙ sym (ap (λ o. if o then old i else own i) (at_default marks i _ true false in_marks w.if-erased.false))
    ] in
    let factor : c.if-erased-2.factor ≡ (if get_or marks i true then of_list K f i else K.one) =
    elim c.if-erased-2.branch [
      | then-erased-2 w ↦
          w.factor-is ∙ get_or_read f i c.index-factors-i.result in_factors c.index-factors-i.is K.zero
          ∙ sym (ap (λ o. if o then of_list K f i else K.one) (at_default marks i _ true true in_marks w.if-erased-2.true))
      | else-erased-2 w ↦
          w.factor-is ∙ w.one-factor.ensures ∙ g.met.F.Field.one_law
          ∙ sym (ap (λ o. if o then of_list K f i else K.one) (at_default marks i _ true false in_marks w.if-erased-2.false))
    ] in
    record {
      before = written_more m V.zero P xs i c.scale_where.new.value inside v.before
          (s.product ∙ filled-by g.met.F.Field.field_laws g.met.T.Summand.module_laws (get_or marks i true) (of_list K f i) _ (own i) (old i) _ factor value);
      rest = written_rest m V.zero old xs i c.scale_where.new.value v.rest;
      products_are = omega (arith, s.products, v.products_are);
      butterflies_are = omega (arith, s.butterflies, v.butterflies_are);
      steps_are = omega (arith, s.steps, v.steps_are);
    }

pub scale_where-requires : goal.scale_where-requires
scale_where-requires g c = λ kept.
    let factor : c.if-erased-2.factor ≡ g.F.Field.field.one =
    elim c.if-erased-2.branch [
      | then-erased-2 w ↦ absurd (true≢false (sym w.if-erased-2.true ∙ kept))
      | else-erased-2 w ↦ w.factor-is ∙ w.one-factor.ensures ∙ g.met.F.Field.one_law
    ] in
    ap (λ f. g.T.Summand.group.scale f (g.T.Summand.meaning c.if-erased.value)) factor
    ∙ g.met.T.Summand.module_laws.one_scale (g.T.Summand.meaning c.if-erased.value)
