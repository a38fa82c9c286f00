use Rattle.std.proofs.Common.{rules, [], sym, subst, arith}
use Rattle.ark_math_variables.specs.Multivariate.{of_listed}
use Rattle.ark_multi.proofs.SortedTerms.{IsGathering, term_order, falling_from_sort_by, gathering_start, gathering_upto, gathering_next, gathering_end}
use Rattle.ark_multi.specs.TermLists.{keyed-permutation}
use Rattle.ark_multi.proofs.multivariate.merging.gathered_terms.Goals as goal

pub loop-next-init : goal.loop-next-init
loop-next-init g c =
    let K = g.F.Field.field in
    let N = g.met.F.Field.field_laws in
    let o = term_order g.met.T.Ord.total g.met.T.Ord.matches_eq g.met.T.Term.equality_law in
    let sorted = c.sort_by.new.self.items in
    let all = of_listed K g.T.Term.listed c.args.terms.items in
    subst (λ done. IsGathering K N o all done sorted) (sym c.new-gathered.ensures.items)
    (subst (λ a. IsGathering K N o a [] sorted) (keyed-permutation K N g.T.Term.listed c.args.terms.items sorted c.in_ok-sort_by.ensures.permutation)
    (gathering_start K N o sorted (falling_from_sort_by K N o sorted c.in_ok-sort_by.ensures.sorted (λ a r f' h. search rules))))

pub take_like-like-requires-clause-upto : goal.take_like-like-requires-clause-upto
take_like-like-requires-clause-upto g c =
    let o = term_order g.met.T.Ord.total g.met.T.Ord.matches_eq g.met.T.Term.equality_law in
    gathering_upto g.F.Field.field g.met.F.Field.field_laws o _ c.loop-next.gathered.items c.loop-next.rest.items c.pop.new.self.items c.in-Some.next c.loop-next.invariant c.in-Some.ensures.items

pub loop-next-preserved : goal.loop-next-preserved
loop-next-preserved g c =
    let o = term_order g.met.T.Ord.total g.met.T.Ord.matches_eq g.met.T.Term.equality_law in
    let pushed = c.in_ok-push_term.ensures in
    let like = c.take_like-like in
    gathering_next g.F.Field.field g.met.F.Field.field_laws o _ like.result c.add.result c.loop-next.gathered.items like.new.terms.items c.push_term.new.terms.items c.loop-next.rest.items c.pop.new.self.items c.in-Some.next c.loop-next.invariant c.in-Some.ensures.items
    like.ensures.sum pushed.rising pushed.sum pushed.upto (g.met.F.Field.add_law _ _ _ c.add.ensures)

pub returns-clause-sum : goal.returns-clause-sum
returns-clause-sum g c =
    let o = term_order g.met.T.Ord.total g.met.T.Ord.matches_eq g.met.T.Term.equality_law in
    gathering_end g.F.Field.field g.met.F.Field.field_laws o _ c.loop-next.gathered.items c.loop-next.rest.items c.loop-next.invariant (omega (arith, c.loop-next.rest.ok.0, c.in_default.ensures.cases.0))
