use Rattle.std.proofs.Common.{refl, sym, subst, ap, ◌∙◌}
use Rattle.ark_math.specs.Univariate.{of_pairs, added, scaled}
use Rattle.ark_coeffs.proofs.SparseSums.{IsLeft, all_left, none_left, done_below, next_left, fewer_left}
use Rattle.ark_coeffs.specs.Multiples.{factor_of}
use Rattle.ark_coeffs.proofs.sparse.sum_with_multiple.Goals as goal

pub loop-degree-init : goal.loop-degree-init
loop-degree-init g c =
    let K = g.F.Field.field in
    let N = g.met.F.Field.field_laws in
    let f = factor_of K c.args.multiple in
    let left = c.args.left.now in
    let right = c.args.right.now in
    subst (λ t. IsLeft K N (added K (of_pairs K left) (scaled K f (of_pairs K right))) f t left right) (sym c.in_ok-sum.ensures.items) (all_left K N f left right c.requires.left c.requires.right)

pub least_degree-requires-clause-left : goal.least_degree-requires-clause-left
least_degree-requires-clause-left g c = c.loop-degree.invariant.left

pub least_degree-requires-clause-right : goal.least_degree-requires-clause-right
least_degree-requires-clause-right g c = c.loop-degree.invariant.right

pub split_at_degree-requires-clause-sparse : goal.split_at_degree-requires-clause-sparse
split_at_degree-requires-clause-sparse g c = c.loop-degree.invariant.left

pub split_at_degree-requires-clause-lowest : goal.split_at_degree-requires-clause-lowest
split_at_degree-requires-clause-lowest g c = c.in-Some.ensures.left

pub split_at_degree-requires-in-Some-clause-sparse : goal.split_at_degree-requires-in-Some-clause-sparse
split_at_degree-requires-in-Some-clause-sparse g c = c.loop-degree.invariant.right

pub split_at_degree-requires-in-Some-clause-lowest : goal.split_at_degree-requires-in-Some-clause-lowest
split_at_degree-requires-in-Some-clause-lowest g c = c.in-Some.ensures.right

pub push_term-requires-clause-sparse : goal.push_term-requires-clause-sparse
push_term-requires-clause-sparse g c = c.loop-degree.invariant.sparse

pub push_term-requires-clause-below : goal.push_term-requires-clause-below
push_term-requires-clause-below g c =
    let K = g.F.Field.field in
    done_below K g.met.F.Field.field_laws _ (factor_of K c.args.multiple) c.loop-degree.sum.items c.loop-degree.left.now c.loop-degree.right.now c.in-Some.degree c.loop-degree.invariant c.in-Some.ensures.greatest

pub loop-degree-smaller : goal.loop-degree-smaller
loop-degree-smaller g c =
    let left = c.split_at_degree in
    let right = c.split_at_degree-in-Some in
    fewer_left g.F.Field.field g.met.F.Field.field_laws c.loop-degree.left.now c.loop-degree.right.now left.result.1.now right.result.1.now c.in-Some.degree c.in-Some.ensures.greatest left.ensures.higher right.ensures.higher left.ensures.shorter right.ensures.shorter

pub loop-degree-preserved : goal.loop-degree-preserved
loop-degree-preserved g c =
    let K = g.F.Field.field in
    let left = c.split_at_degree in
    let right = c.split_at_degree-in-Some in
    let pushed = c.in_ok-push_term.ensures in
    next_left K g.met.F.Field.field_laws _ (factor_of K c.args.multiple) left.result.0 right.result.0 c.add.result c.loop-degree.sum.items c.loop-degree.left.now c.loop-degree.right.now c.push_term.new.terms.items left.result.1.now right.result.1.now c.in-Some.degree c.loop-degree.invariant
    left.ensures.sum right.ensures.sum left.ensures.sparse right.ensures.sparse left.ensures.higher right.ensures.higher pushed.sparse pushed.sum pushed.below
    (g.met.F.Field.add_law _ _ _ c.add.ensures ∙ ap (K.plus left.result.0) c.of.ensures)

pub returns-clause-sparse : goal.returns-clause-sparse
returns-clause-sparse g c = c.loop-degree.invariant.sparse

pub returns-clause-sum : goal.returns-clause-sum
returns-clause-sum g c =
    let K = g.F.Field.field in
    let none = c.in_default.ensures.none refl in
    none_left K g.met.F.Field.field_laws _ (factor_of K c.args.multiple) c.loop-degree.sum.items c.loop-degree.left.now c.loop-degree.right.now c.loop-degree.invariant none.0 none.1
