use Rattle.std.proofs.Common.{◌≡◌, ◌+◌, ◌*◌, ◌/◌, [], ◌∷◌, length, map, sym, subst, ap, ◌∙◌, arith}
use Rattle.ark_math_variables.specs.Multilinear.{fixed}
use Rattle.ark_math.specs.Univariate.{of_list}
use Rattle.ark_math.proofs.Lists.Lists.{item_of}
use Rattle.ark_sum_check.proofs.Embeddings.{AreBoundWithin, AreBoundWithin-more, AreBoundWithin-none, AreBoundWithin-tables}
use Rattle.ark_sum_check.proofs.prover.within.bound_tables.Goals as goal

pub loop-i-init : goal.loop-i-init
loop-i-init g c =
    let K = g.F.Field.field in
    let E = g.E.Field.field in
    let e = g.E.ExtensionOf.within in
    subst (AreBoundWithin K E e c.args.x c.args.tables.now 0) (sym c.in_ok-left.ensures.items)
    (AreBoundWithin-none K E e g.met.E.ExtensionOf.embeds g.met.E.Field.field_laws c.args.x c.args.tables.now)

pub bind_first-requires : goal.bind_first-requires
bind_first-requires g c =
    let vs = c.args.tables.now in
    let u = c.index-tables-i.result in
    subst (λ n. n ≡ 2 * (n / 2)) (sym (ap length c.deref.ensures.value))
    (item_of (λ t. length t.items ≡ 2 * (length t.items / 2)) vs c.loop-i.i u c.requires (omega arith) c.index-tables-i.is)

pub loop-i-preserved : goal.loop-i-preserved
loop-i-preserved g c =
    let K = g.F.Field.field in
    let E = g.E.Field.field in
    let e = g.E.ExtensionOf.within in
    let vs = c.args.tables.now in
    let x = c.args.x in
    let i = c.loop-i.i in
    let now = c.loop-i.left.items in
    let bound = c.in_ok-bound.bound in
    let slice = c.deref.ensures.value in
    subst (AreBoundWithin K E e x vs (i + 1)) (sym c.in_ok-push.ensures.items)
    (AreBoundWithin-more K E e g.met.E.ExtensionOf.embeds g.met.E.Field.field_laws x vs i now c.index-tables-i.result bound (omega arith) c.index-tables-i.is c.loop-i.invariant
    (c.in_ok-bound.ensures.values ∙ ap (λ t. fixed E (of_list E (map e t)) (x ∷ [])) slice)
    (c.in_ok-bound.ensures.len ∙ ap length slice))

pub returns-clause-values : goal.returns-clause-values
returns-clause-values g c =
    AreBoundWithin-tables g.F.Field.field g.E.Field.field g.E.ExtensionOf.within g.met.E.ExtensionOf.embeds g.met.E.Field.field_laws c.args.x c.args.tables.now c.loop-i.i c.loop-i.left.items
    (omega arith) (omega arith) c.loop-i.invariant

pub returns-clause-count : goal.returns-clause-count
returns-clause-count g c = omega (arith, c.loop-i.invariant.count)

pub returns-clause-len : goal.returns-clause-len
returns-clause-len g c n all = c.loop-i.invariant.halves n all
