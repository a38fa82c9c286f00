use Rattle.std.proofs.Common.{◌≢◌, sym, subst, ap, ◌∙◌}
use Rattle.std.specs.List.{All}
use Rattle.std.specs.declared.cmp.Ordering.TheVariants.{Greater}
use Rattle.ark_math_variables.specs.Multivariate.{of_listed}
use Rattle.ark_multi.specs.TermLists.{keyed-push}
use Rattle.ark_multi.proofs.SortedTerms.{term_order, pushed_upto}
use Rattle.ark_multi.proofs.multivariate.merging.push_term.Goals as goal

pub returns-in_ok-push-clause-sum : goal.returns-in_ok-push-clause-sum
returns-in_ok-push-clause-sum g c =
    let K = g.F.Field.field in
    ap (of_listed K g.T.Term.listed) c.in_ok-push.ensures.items ∙ keyed-push K g.met.F.Field.field_laws g.T.Term.listed c.args.terms.now.items (c.args.coefficient, c.args.term)

pub returns-in_ok-push-clause-upto : goal.returns-in_ok-push-clause-upto
returns-in_ok-push-clause-upto g c =
    let o = term_order g.met.T.Ord.total g.met.T.Ord.matches_eq g.met.T.Term.equality_law in
    subst (All (λ d. g.T.Ord.cmp d.1 c.args.term ≢ Greater)) (sym c.in_ok-push.ensures.items)
    (pushed_upto g.F.Field.field g.met.F.Field.field_laws o c.args.terms.now.items (c.args.coefficient, c.args.term) c.requires.below)
