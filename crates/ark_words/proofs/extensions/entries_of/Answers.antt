use Rattle.std.proofs.Common.{◌≡◌, ◌<◌, [], ◌∷◌, ◌++◌, length, get_or, zip, take, sym, ap, ap₂, ◌∙◌, arith}
use Rattle.std.proofs.lemmas.List.{length-take-le, take_more, take_all}
use Rattle.ark_words.proofs.Entries.{zip-push}
use Rattle.ark_words.proofs.extensions.entries_of.Goals as goal

pub loop-i-preserved : goal.loop-i-preserved
loop-i-preserved g c =
    let i = c.loop-i.i in
    let indices = c.args.indices.now in
    let values = c.args.values.now in
    let index = get_or indices i 0 in
    let value = c.index-values-i.result in
    let some = c.loop-i-test.true in
    let too : i < length values = omega (arith, some, c.requires) in
    let short : length (take i indices) ≡ i = length-take-le i indices (omega arith) in
    let as_short : length (take i values) ≡ i = length-take-le i values (omega arith) in
    c.in_ok-push.ensures.items
    ∙ ap₂ (λ es v. es ++ (index, v) ∷ []) c.loop-i.invariant c.index-values-i.is
    ∙ sym (zip-push (take i indices) (take i values) index (get_or values i value) (omega (arith, short, as_short)))
    ∙ sym (ap₂ zip (take_more indices i 0 some) (take_more values i value too))

pub returns : goal.returns
returns g c =
    let end = c.loop-i-test.false in
    c.loop-i.invariant
    ∙ ap₂ zip (take_all c.loop-i.i c.args.indices.now (omega (arith, end))) (take_all c.loop-i.i c.args.values.now (omega (arith, end, c.requires)))
