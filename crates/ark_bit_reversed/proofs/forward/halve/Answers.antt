use Rattle.std.proofs.Common.{◌+◌, ◌/◌, ◌<◌, ◌++◌, length, refl, sym, subst, ◌∙◌, arith}
use Rattle.std.proofs.lemmas.List.{get_or_read}
use Rattle.ark_bit_reversed.proofs.Levels.{halves_summed, halves_turned}
use Rattle.ark_bit_reversed.proofs.forward.halve.Goals as goal

pub returns-then-block-eq0-clause-values : goal.returns-then-block-eq0-clause-values
returns-then-block-eq0-clause-values g c = λ x are.
    let roots = c.args.roots.now in
    let e = c.split_at_mut-low.ensures in
    let halves = c.split_at_mut-low.result in
    let f = c.sums_and_differences.ensures in
    let new = c.sums_and_differences.new in
    halves_summed g.F.Field.field g.met.F.Field.field_laws (length roots + length roots) x are.reversed c.args.block (omega (arith, c.requires.within)) c.if-block-eq0.true
    (length c.args.values.now / 2) halves.0.now halves.1.now new.low new.high c.args.values.now (new.low ++ new.high) e.value refl e.front_len (f.low_len ∙ e.front_len)
    (λ i l. f.sums i (subst (λ t. i < t) (sym e.front_len) l))
    (λ i l. f.differences i (subst (λ t. i < t) (sym e.front_len) l))

pub returns-else-block-eq0-clause-values : goal.returns-else-block-eq0-clause-values
returns-else-block-eq0-clause-values g c = λ x are.
    let K = g.F.Field.field in
    let roots = c.args.roots.now in
    let e = c.split_at_mut-low.ensures in
    let halves = c.split_at_mut-low.result in
    let f = c.butterflies.ensures in
    let new = c.butterflies.new in
    let root = c.index-roots-block in
    halves_turned K g.met.F.Field.field_laws (length roots + length roots) x are.reversed c.args.block (omega (arith, c.requires.within)) root.result
    (get_or_read roots c.args.block root.result c.requires.within root.is K.zero ∙ are.each c.args.block c.requires.within)
    (length c.args.values.now / 2) halves.0.now halves.1.now new.low new.high c.args.values.now (new.low ++ new.high) e.value refl e.front_len (f.low_len ∙ e.front_len)
    (λ i l. f.sums i (subst (λ t. i < t) (sym e.front_len) l))
    (λ i l. f.differences i (subst (λ t. i < t) (sym e.front_len) l))
