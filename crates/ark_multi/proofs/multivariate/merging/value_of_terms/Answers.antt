use Rattle.std.proofs.Common.{ap, ◌∙◌}
use Rattle.ark_multi.proofs.SortedTerms.{term_order, value_next}
use Rattle.ark_multi.proofs.multivariate.merging.value_of_terms.Goals as goal

pub loop-term-preserved : goal.loop-term-preserved
loop-term-preserved g c =
    let K = g.F.Field.field in
    let o = term_order g.met.T.Ord.total g.met.T.Ord.matches_eq g.met.T.Term.equality_law in
    let term = c.term-item.result in
    value_next K g.met.F.Field.field_laws o c.args.terms.now c.loop-term.term-index term c.args.point.now c.loop-term.value c.add_assign.new.self c.loop-term-test.true c.term-item.is c.loop-term.invariant
    (g.met.F.Field.add_assign_law _ _ _ c.add_assign.ensures.after ∙ ap (K.plus c.loop-term.value) (g.met.F.Field.mul_law _ _ _ c.mul.ensures ∙ ap (K.times term.0) c.evaluate.ensures))
