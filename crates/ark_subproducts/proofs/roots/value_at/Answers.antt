use Rattle.std.proofs.Common.{◌≡◌, ◌+◌, ◌<◌, length, sym, ap, subst₂, ◌∙◌, arith}
use Rattle.std.proofs.lemmas.List.{get_or_read}
use Rattle.ark_bit_reversed.specs.Blocks.{element_of}
use Rattle.ark_math.specs.Univariate.{IsValue, of_list}
use Rattle.ark_subproducts.proofs.roots.value_at.Goals as goal

pub returns-else-eq : goal.returns-else-eq
returns-else-eq g c = λ p A h.
    let K = g.F.Field.field in
    let known = c.args.known.now in
    let j = c.index_of.result in
    let inside : j < length known = omega (arith, c.index_of.ensures.below, c.size.ensures.size, c.requires.known) in
    let read : c.index-known-index_of.result ≡ of_list K known j = get_or_read known j c.index-known-index_of.result inside c.index-known-index_of.is K.zero in
    let place : 0 + j ≡ j = omega arith in
    subst₂ (IsValue K p) (ap (element_of K c.args.blocks.now) place ∙ c.index_of.ensures.is) (sym read) (A.values j (omega (arith, inside, c.requires.known)))
