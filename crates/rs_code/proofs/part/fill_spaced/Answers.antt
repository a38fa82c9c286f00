use Rattle.std.proofs.Common.{◌≡◌, ◌*◌, ◌<◌, ℕ, true, false, map, length, get_or, sym, ap, ap₂, ◌∙◌, arith}
use Rattle.std.proofs.lemmas.List.{get_or_read}
use Rattle.ark_math.specs.Module.{item}
use Rattle.ark_math.specs.Univariate.{of_list}
use Rattle.ark_math.proofs.Lists.Lists.{written_more, written_rest, read_as}
use Rattle.rs_code.specs.Locator.{filled}
use Rattle.rs_code.proofs.Parts.{spaced_within}
use Rattle.rs_code.proofs.Places.{at_default}
use Rattle.rs_code.proofs.part.fill_spaced.Goals as goal
use Rattle.rs_code.proofs.part.fill_spaced.Goals.{then-marks-i, else-marks-i}

pub loop-j-preserved : goal.loop-j-preserved
loop-j-preserved g c =
    let V = g.T.DomainCoeff.group in
    let m = g.T.DomainCoeff.meaning in
    let K = g.F.Field.field in
    let v = c.loop-j.invariant in
    let j = c.loop-j.j in
    let t = c.args.stride in
    let i = j * t in
    let xs = c.loop-j.values in
    let marks = c.args.marks.now in
    let f = c.args.factors.now in
    let word = c.args.word.now in
    let own = λ (k : ℕ). item V (map m word) (k * t) in
    let old = λ (k : ℕ). item V (map m c.args.values.now) k in
    let inside : j < length xs = omega arith in
    let within : i < length marks = omega (arith, spaced_within j (length c.args.values.now) t c.loop-j-test.true c.requires.positive, c.requires.len) in
    let P = λ (k : ℕ). filled V (get_or marks (k * t) true) (of_list K f (k * t)) (own k) (old k) in
    let rest = written_rest m V.zero old xs j c.if-marks-i.value v.rest in
    elim c.if-marks-i.branch [
      | then-marks-i w ↦
          let e : get_or marks i true ≡ true = at_default marks i _ true true within w.if-marks-i.true in
          let read : w.index-factors-i.result ≡ of_list K f i = get_or_read f i w.index-factors-i.result (omega (arith, within, c.requires.factors)) w.index-factors-i.is K.zero in
          let here : m w.index-values-j.result ≡ old j = read_as m V.zero xs j w.index-values-j.result inside w.index-values-j.is ∙ v.rest j (omega arith) in
          record {
            before = written_more m V.zero P xs j c.if-marks-i.value inside v.before
                (ap m w.value-is ∙ g.met.T.DomainCoeff.mul_assign_meaning _ _ _ w.mul_assign.ensures.after ∙ ap₂ V.scale read here ∙ sym (ap (λ o. filled V o (of_list K f i) (own j) (old j)) e));
            rest = rest;
          }
      | else-marks-i w ↦
          let e : get_or marks i true ≡ false = at_default marks i _ true false within w.if-marks-i.false in
          record {
            before = written_more m V.zero P xs j c.if-marks-i.value inside v.before
                (ap m w.value-is ∙ read_as m V.zero word i c.index-word-i.result (omega (arith, within, c.requires.word)) c.index-word-i.is ∙ sym (ap (λ o. filled V o (of_list K f i) (own j) (old j)) e));
            rest = rest;
          }
    ]
