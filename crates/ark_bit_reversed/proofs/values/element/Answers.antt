use Rattle.std.proofs.Common.{◌≡◌, suc, ◌+◌, ◌/◌, ◌<◌, length, sym, ap, ◌∙◌, arith}
use Rattle.std.proofs.lemmas.List.{get_or_read}
use Rattle.ark_bit_reversed.proofs.values.element.Goals as goal

pub returns-else-index-eq0 : goal.returns-else-index-eq0
returns-else-index-eq0 g c = λ x R.
    let K = g.F.Field.field in
    let roots = c.args.roots.now in
    let b = c.args.index / 2 in
    let within : b < length roots = omega (arith, c.requires) in
    let place : suc (b + b) ≡ c.args.index = omega (arith, c.if-index-eq0.false) in
    g.met.F.Field.neg_law _ _ c.neg.ensures
    ∙ ap K.negated (get_or_read roots b c.index-roots-index.result within c.index-roots-index.is K.zero ∙ R.each b within)
    ∙ sym (R.reversed.opposites b (omega (arith, place, c.requires)))
    ∙ ap x place
