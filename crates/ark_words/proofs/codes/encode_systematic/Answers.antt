use Rattle.std.proofs.Common.{◌≡◌, ◌/◌, ◌<◌, ◌≤◌, ap, sym, subst, ◌∙◌, map, length}
use Rattle.ark_univariate.specs.Domains.{general_domain}
use Rattle.ark_numbers.proofs.Values.{number_field, shown_field}
use Rattle.ark_words.specs.Codes.{IsEncodable, IsExtendedToCodeword, IsSystematic}
use Rattle.ark_words.specs.Numbers.{numbers}
use Rattle.ark_words.proofs.CodesInNumbers.{IsSubgroup, systematic_numbers, codeword_length}
use Rattle.ark_words.proofs.WordLists.{length_read, some_numbers, fewer_numbers, whole_words}
use Rattle.ark_words.proofs.codes.encode_systematic.Goals as goal

pub over-requires-clause-some : goal.over-requires-clause-some
over-requires-clause-some g c =
    let width = g.F.WordElement.WIDTH in
    let message = c.args.message.now in
    let taken = subst (λ f. IsEncodable f message c.args.word.now) g.met.F.WordElement.spelled_law c.in_ok-domain.ensures.taken in
    subst (λ w. 0 < length message / w) (sym c.WIDTH.ensures) (some_numbers width message taken.0.0 taken.0.2)

pub over-requires-clause-fits : goal.over-requires-clause-fits
over-requires-clause-fits g c =
    let judged = c.in_ok-domain.ensures in
    let width = g.F.WordElement.WIDTH in
    let message = c.args.message.now in
    let taken = subst (λ f. IsEncodable f message c.args.word.now) g.met.F.WordElement.spelled_law judged.taken in
    subst (λ w. length message / w ≤ (general_domain c.in_ok-domain.domain).size) (sym c.WIDTH.ensures)
    (subst (λ n. length message / width ≤ n) (sym judged.size)
    (fewer_numbers width message c.args.word.now g.met.F.WordElement.width_law taken.0.0 taken.0.3))

pub put-requires : goal.put-requires
put-requires g c =
    let F = g.F.PrimeNumbers in
    let laws = g.met.F.PrimeNumbers in
    let S = number_field F.numbering F.prime laws.field_law laws.generator_law laws.root_law g.met.F.FftField.roots_law in
    let judged = c.in_ok-domain.ensures in
    let taken = subst (λ f. IsEncodable f c.args.message.now c.args.word.now) g.met.F.WordElement.spelled_law judged.taken in
    let d = general_domain c.in_ok-domain.domain in
    let width = g.F.WordElement.WIDTH in
    let n = length c.args.word.now / width in
    let D : IsSubgroup S n d = record { lawful = judged.lawful; offset = judged.offset; size = judged.size } in
    let count = sym (length_read F.numbering.number width c.in_ok-domain.items.items c.args.message.now judged.numbers) in
    whole_words width (length c.deref-2.result.now) c.args.word.now taken.0.1
    (ap length c.deref-2.ensures.value
    ∙ codeword_length S g.F.DomainCoeff.group g.F.DomainCoeff.meaning g.met.F.FftField.itself_law d n D (length c.in_ok-domain.items.items) c.in-Ok.extended.items
    (rw (c.over.ensures.domain, c.over.ensures.items, c.WIDTH.ensures, count) at c.in-Ok.ensures.codeword))

pub returns-clause-codeword : goal.returns-clause-codeword
returns-clause-codeword g c =
    let F = g.F.PrimeNumbers in
    let laws = g.met.F.PrimeNumbers in
    let S = number_field F.numbering F.prime laws.field_law laws.generator_law laws.root_law g.met.F.FftField.roots_law in
    let f = shown_field S in
    let judged = c.in_ok-domain.ensures in
    let d = general_domain c.in_ok-domain.domain in
    let width = g.F.WordElement.WIDTH in
    let n = length c.args.word.now / width in
    let D : IsSubgroup S n d = record { lawful = judged.lawful; offset = judged.offset; size = judged.size } in
    let count = sym (length_read F.numbering.number width c.in_ok-domain.items.items c.args.message.now judged.numbers) in
    let written = c.put.ensures ∙ ap (map F.numbering.number) c.deref-2.ensures.value in
    let found = systematic_numbers S g.F.DomainCoeff.group g.F.DomainCoeff.meaning g.met.F.FftField.itself_law d n D c.in_ok-domain.items.items c.in-Ok.extended.items
    (rw (c.over.ensures.domain, c.over.ensures.items, c.WIDTH.ensures, count) at c.in-Ok.ensures.codeword)
    (rw (c.over.ensures.items, c.WIDTH.ensures, count, c.deref.ensures.value) at c.in-Ok.ensures.systematic)
    (rw (c.over.ensures.domain, c.over.ensures.items, c.WIDTH.ensures, count, c.deref.ensures.value) at c.in-Ok.ensures.only) in
    subst (λ s. IsExtendedToCodeword s c.args.message.now c.put.new.words) (sym g.met.F.WordElement.spelled_law)
    (subst (λ m. IsSystematic f (m / width) (numbers width c.args.message.now) (numbers width c.put.new.words)) (sym c.put.auto.words)
    (subst (IsSystematic f n (numbers width c.args.message.now)) (sym written)
    (subst (λ m. IsSystematic f n m (map F.numbering.number c.in-Ok.extended.items)) judged.numbers found)))
