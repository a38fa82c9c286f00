use Rattle.std.proofs.Common.{ap, ◌∙◌, map, lit<, rules, tests, sym}
use Rattle.std.specs.List.{filter_map}
use Rattle.std.proofs.lemmas.Iterator.Consumers.{YieldsList-at, YieldsList-end}
use Rattle.std.proofs.lemmas.Iterator.Splits.{YieldsList-from_str_split}
use Rattle.polyrun_lib.proofs.Reading.{element_in, element_in-answer, found_more, none_more, elements_found}
use Rattle.ark_numbers.proofs.Values.{number_field, values_of_elements}
use Rattle.polyrun_lib.proofs.program.elements.Goals as goal

pub parts-preserved-in-Continue-1 : goal.parts-preserved-in-Continue-1
parts-preserved-in-Continue-1 g c =
    let F = g.F.PrimeNumbers in
    found_more F.numbering F.prime c.parts.yielded c.in-Some.part c.in-Some-from_decimal.element _ _ c.parts.invariant
    (sym c.in-Some-from_decimal.is ∙ element_in-answer F.numbering F.prime c.in-Some.part.now _ c.from_decimal.ensures.some c.from_decimal.ensures.none)
    (search (rules, tests))

pub parts-preserved : goal.parts-preserved
parts-preserved g c =
    let F = g.F.PrimeNumbers in
    none_more F.numbering F.prime c.parts.yielded c.in-Some.part _ c.from_decimal.result c.parts.invariant
    (element_in-answer F.numbering F.prime c.in-Some.part.now _ c.from_decimal.ensures.some c.from_decimal.ensures.none) c.in_default.not-Some

pub returns : goal.returns
returns g c xs spelled =
    let F = g.F.PrimeNumbers in
    let laws = g.met.F.PrimeNumbers in
    let S = number_field F.numbering F.prime laws.field_law laws.generator_law laws.root_law g.met.F.FftField.roots_law in
    let word = c.args.word.now in
    let source = c.into_iter-part-iterator.ensures.into_iter_gives in
    let split = YieldsList-from_str_split 44 word (lit< tt) c.split-part-items.ensures.text c.split-part-items.ensures.has_more c.split-part-items.ensures.pattern in
    let all = YieldsList-end (YieldsList-at source split) c.parts.yielded _ c.parts.yielded_by _ _ c.in-None.is c.next.ensures.steps in
    ap (map F.numbering.number) (c.parts.invariant ∙ ap (filter_map (element_in F.numbering F.prime)) all.0 ∙ elements_found F.numbering F.prime word xs spelled)
    ∙ values_of_elements S xs
