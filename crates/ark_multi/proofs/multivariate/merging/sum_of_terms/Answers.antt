use Rattle.std.proofs.Common.{refl, sym, subst}
use Rattle.ark_math_variables.specs.Multivariate.{of_listed}
use Rattle.ark_math.specs.Univariate.{added, scaled}
use Rattle.ark_coeffs.specs.Multiples.{factor_of}
use Rattle.ark_multi.proofs.SortedTerms.{IsLeft, term_order, all_left, none_left, done_below, next_left}
use Rattle.ark_multi.proofs.multivariate.merging.sum_of_terms.Goals as goal

pub loop-least-init : goal.loop-least-init
loop-least-init g c =
    let K = g.F.Field.field in
    let N = g.met.F.Field.field_laws in
    let o = term_order g.met.T.Ord.total g.met.T.Ord.matches_eq g.met.T.Term.equality_law in
    let listed = g.T.Term.listed in
    let f = factor_of K c.args.multiple in
    let left = c.args.left.now in
    let right = c.args.right.now in
    subst (λ t. IsLeft K N o (added K (of_listed K listed left) (scaled K f (of_listed K listed right))) f t left right) (sym c.in_ok-sum.ensures.items) (all_left K N o f left right c.requires.left c.requires.right)

pub push_term-requires-clause-below : goal.push_term-requires-clause-below
push_term-requires-clause-below g c =
    let o = term_order g.met.T.Ord.total g.met.T.Ord.matches_eq g.met.T.Term.equality_law in
    let least = c.in-Some.least in
    let copied = g.met.T.Term.clone_law least.term.now c.in_ok-clone.field-0 c.in_ok-clone.ensures.cases in
    done_below g.F.Field.field g.met.F.Field.field_laws o _ (factor_of g.F.Field.field c.args.multiple) least.coefficient c.loop-least.sum.items c.loop-least.left.now c.loop-least.right.now least.left.now least.right.now least.term.now c.in_ok-clone.field-0 c.loop-least.invariant c.in-Some.ensures.least copied

pub loop-least-preserved : goal.loop-least-preserved
loop-least-preserved g c =
    let o = term_order g.met.T.Ord.total g.met.T.Ord.matches_eq g.met.T.Term.equality_law in
    let least = c.in-Some.least in
    let copied = g.met.T.Term.clone_law least.term.now c.in_ok-clone.field-0 c.in_ok-clone.ensures.cases in
    let pushed = c.in_ok-push_term.ensures in
    next_left g.F.Field.field g.met.F.Field.field_laws o _ (factor_of g.F.Field.field c.args.multiple) least.coefficient c.loop-least.sum.items c.push_term.new.terms.items c.loop-least.left.now c.loop-least.right.now least.left.now least.right.now least.term.now c.in_ok-clone.field-0 c.loop-least.invariant c.in-Some.ensures.least copied pushed.rising pushed.sum pushed.upto

pub returns-clause-sum : goal.returns-clause-sum
returns-clause-sum g c =
    let o = term_order g.met.T.Ord.total g.met.T.Ord.matches_eq g.met.T.Term.equality_law in
    let none = c.in_default.ensures.none refl in
    none_left g.F.Field.field g.met.F.Field.field_laws o _ (factor_of g.F.Field.field c.args.multiple) c.loop-least.sum.items c.loop-least.left.now c.loop-least.right.now c.loop-least.invariant none.0 none.1
