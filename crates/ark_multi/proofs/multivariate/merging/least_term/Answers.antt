use Rattle.std.proofs.Common.{◌≡◌, ◌∙◌, ap}
use Rattle.std.specs.declared.cmp.Ordering.TheVariants.{Less, Equal, Greater}
use Rattle.ark_coeffs.specs.Multiples.{factor_of}
use Rattle.ark_multi.proofs.SortedTerms.{term_order, least_left, least_right, least_both, least_less, least_greater, none_below}
use Rattle.ark_multi.proofs.multivariate.merging.least_term.Goals as goal

pub returns-in-Less-clause-least : goal.returns-in-Less-clause-least
returns-in-Less-clause-least g c =
    let o = term_order g.met.T.Ord.total g.met.T.Ord.matches_eq g.met.T.Term.equality_law in
    let less : g.T.Ord.cmp c.in-Some-Some.term.now.1 c.in-Some-Some.other.now.1 ≡ Less = cc in
    least_less g.F.Field.field g.met.F.Field.field_laws o _ _ _ _ (factor_of g.F.Field.field c.args.multiple) _ _ c.requires.left c.requires.right c.in-Some-Some.ensures.cases.0 c.in-Some-Some.ensures'.cases.0 less

pub returns-in-Equal-clause-least : goal.returns-in-Equal-clause-least
returns-in-Equal-clause-least g c =
    let K = g.F.Field.field in
    let o = term_order g.met.T.Ord.total g.met.T.Ord.matches_eq g.met.T.Term.equality_law in
    let tie : g.T.Ord.cmp c.in-Some-Some.term.now.1 c.in-Some-Some.other.now.1 ≡ Equal = cc in
    least_both K g.met.F.Field.field_laws o _ _ _ _ (factor_of K c.args.multiple) _ _ _ c.requires.left c.requires.right c.in-Some-Some.ensures.cases.0 c.in-Some-Some.ensures'.cases.0 tie
    (g.met.F.Field.add_law _ _ _ c.add.ensures ∙ ap (K.plus c.in-Some-Some.term.now.0) c.of.ensures)

pub returns-in-Greater-clause-least : goal.returns-in-Greater-clause-least
returns-in-Greater-clause-least g c =
    let o = term_order g.met.T.Ord.total g.met.T.Ord.matches_eq g.met.T.Term.equality_law in
    let greater : g.T.Ord.cmp c.in-Some-Some.term.now.1 c.in-Some-Some.other.now.1 ≡ Greater = cc in
    least_greater g.F.Field.field g.met.F.Field.field_laws o _ _ _ _ (factor_of g.F.Field.field c.args.multiple) _ _ _ c.requires.left c.requires.right c.in-Some-Some.ensures.cases.0 c.in-Some-Some.ensures'.cases.0 greater c.of-in-Greater.ensures

pub returns-in-Some-None-clause-least : goal.returns-in-Some-None-clause-least
returns-in-Some-None-clause-least g c =
    let K = g.F.Field.field in
    let N = g.met.F.Field.field_laws in
    let o = term_order g.met.T.Ord.total g.met.T.Ord.matches_eq g.met.T.Term.equality_law in
    least_left K N o _ _ _ (factor_of K c.args.multiple) _ c.requires.left c.requires.right c.in-Some-None.ensures.cases.0 (none_below K N o _ _ c.in-Some-None.ensures'.cases)

pub returns-in-None-Some-clause-least : goal.returns-in-None-Some-clause-least
returns-in-None-Some-clause-least g c =
    let K = g.F.Field.field in
    let N = g.met.F.Field.field_laws in
    let o = term_order g.met.T.Ord.total g.met.T.Ord.matches_eq g.met.T.Term.equality_law in
    least_right K N o _ _ _ (factor_of K c.args.multiple) _ _ c.requires.left c.requires.right c.in-None-Some.ensures'.cases.0 (none_below K N o _ _ c.in-None-Some.ensures.cases) c.of-in-None-Some.ensures
