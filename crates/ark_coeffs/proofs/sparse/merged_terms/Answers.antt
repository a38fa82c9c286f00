use Rattle.std.proofs.Common.{◌<◌, length, ap, ◌∙◌}
use Rattle.ark_coeffs.proofs.SortedPairs.{merged_step_new, merged_step_same}
use Rattle.ark_coeffs.proofs.sparse.merged_terms.Goals.{then-term-degree+in_ok-push_term, else-term-degree}
use Rattle.ark_coeffs.proofs.sparse.merged_terms.Goals as goal

pub loop-i-preserved : goal.loop-i-preserved
loop-i-preserved g c =
    let K = g.F.Field.field in
    let N = g.met.F.Field.field_laws in
    let ps = c.args.terms.now in
    let i = c.loop-i.i in
    let done = c.loop-i.merged.items in
    let h = c.loop-i.invariant in
    let x = c.index-terms-i.result in
    let inside : i < length ps = c.loop-i-test.true in
    let is = c.index-terms-i.is in
    let added = g.met.F.Field.add_assign_law _ _ _ c.add_assign.ensures.after in
    elim c.if-term-degree.branch [
      | then-term-degree+in_ok-push_term w ↦ merged_step_new K N ps done w.push_term.new.terms.items c.if-term-degree.merged.items i c.loop-i.degree c.if-term-degree.degree c.loop-i.sum c.if-term-degree.sum c.add_assign.new.self x h c.requires inside is w.if-term-degree.true w.in_ok-push_term.ensures.sparse w.in_ok-push_term.ensures.sum w.in_ok-push_term.ensures.below (ap (λ v. v.items) w.merged-is) w.degree-is (w.sum-is ∙ w.zero-sum-then-term-degree.ensures ∙ g.met.F.Field.zero_law) added
      | else-term-degree w ↦ merged_step_same K N ps done c.if-term-degree.merged.items i c.loop-i.degree c.if-term-degree.degree c.loop-i.sum c.if-term-degree.sum c.add_assign.new.self x h inside is w.if-term-degree.false (ap (λ v. v.items) w.merged-is) w.degree-is w.sum-is added
    ]
