use Rattle.std.proofs.Common.{◌≡◌, ◌/◌, ap, sym, subst, ◌∙◌, map, length, mod-eq_of_lt}
use Rattle.ark_math.specs.Transform.{transform}
use Rattle.ark_univariate.specs.Domains.{general_domain}
use Rattle.ark_numbers.specs.Answers.{coset_of, AreValues}
use Rattle.ark_words.specs.Numbers.{numbers}
use Rattle.ark_words.specs.Codes.{IsEncodable, IsEncoded}
use Rattle.ark_words.proofs.WordLists.{whole_words}
use Rattle.ark_numbers.proofs.Values.{number_field, shown_field, number_carries, values_carried, length_carried}
use Rattle.ark_words.proofs.codes.encode.Goals as goal

pub put-requires : goal.put-requires
put-requires g c =
    let F = g.F.PrimeNumbers in
    let laws = g.met.F.PrimeNumbers in
    let S = number_field F.numbering F.prime laws.field_law laws.generator_law laws.root_law g.met.F.FftField.roots_law in
    let taken = subst (λ f. IsEncodable f c.args.message.now c.args.word.now) g.met.F.WordElement.spelled_law c.in_ok-domain.ensures.taken in
    whole_words g.F.WordElement.WIDTH (length c.deref-2.result.now) c.args.word.now taken.0.1
    (ap length c.deref-2.ensures.value
    ∙ length_carried S g.F.DomainCoeff.group g.F.DomainCoeff.meaning (general_domain c.in_ok-domain.domain) _ _ c.in-Ok.ensures.transform
    ∙ c.in_ok-domain.ensures.size)

pub returns-clause-codeword : goal.returns-clause-codeword
returns-clause-codeword g c =
    let F = g.F.PrimeNumbers in
    let laws = g.met.F.PrimeNumbers in
    let S = number_field F.numbering F.prime laws.field_law laws.generator_law laws.root_law g.met.F.FftField.roots_law in
    let judged = c.in_ok-domain.ensures in
    let d = general_domain c.in_ok-domain.domain in
    let width = g.F.WordElement.WIDTH in
    let one = ap F.numbering.number judged.offset ∙ (number_carries S).one_kept ∙ sym (mod-eq_of_lt F.prime.above_one) in
    let transform = subst (λ xs. map g.F.DomainCoeff.meaning c.in-Ok.codeword.items ≡ transform S.field g.F.DomainCoeff.group d (map g.F.DomainCoeff.meaning xs)) c.deref.ensures.value c.in-Ok.ensures.transform in
    subst (λ f. IsEncoded f c.args.message.now c.put.new.words) (sym g.met.F.WordElement.spelled_law)
    (subst (λ n. AreValues (shown_field S) (coset_of (shown_field S) n 1) (numbers width c.args.message.now) (numbers width c.put.new.words)) (judged.size ∙ ap (λ n. n / width) (sym c.put.auto.words))
    (subst (AreValues (shown_field S) (coset_of (shown_field S) d.size 1) (numbers width c.args.message.now))
    (sym (c.put.ensures ∙ ap (map F.numbering.number) c.deref-2.ensures.value))
    (values_carried S g.F.DomainCoeff.group g.F.DomainCoeff.meaning g.met.F.FftField.itself_law d 1 _ c.in_ok-domain.items.items c.in-Ok.codeword.items
    judged.lawful one judged.numbers transform)))
