use Rattle.std.proofs.Common.{◌/◌, ap, sym, subst, ◌∙◌, map, length, mod-eq_of_lt}
use Rattle.ark_math.specs.Words.{number_of_words}
use Rattle.ark_univariate.specs.Domains.{general_domain}
use Rattle.ark_numbers.specs.Answers.{coset_of, AreInterpolated}
use Rattle.ark_words.specs.Numbers.{numbers, AreTransformedBack, AreTransformable}
use Rattle.ark_words.proofs.Multiples.{scaled, interpolated_scaled}
use Rattle.ark_words.proofs.WordLists.{whole_words}
use Rattle.ark_numbers.proofs.Values.{number_field, shown_field, of_any_kind, length_interpolated}
use Rattle.ark_words.proofs.transforms.ifft.Goals as goal

pub put_scaled-requires : goal.put_scaled-requires
put_scaled-requires g c =
    let F = g.F.PrimeNumbers in
    let laws = g.met.F.PrimeNumbers in
    let S = number_field F.numbering F.prime laws.field_law laws.generator_law laws.root_law g.met.F.FftField.roots_law in
    let taken = subst (λ f. AreTransformable f c.args.words.now c.args.offset.now) g.met.F.WordElement.spelled_law c.in_ok-domain.ensures.taken in
    whole_words g.F.WordElement.WIDTH (length c.deref.result.now) c.args.words.now taken.0.0
    (ap length c.deref.ensures.value
    ∙ length_interpolated S g.F.DomainCoeff.group g.F.DomainCoeff.meaning (general_domain c.in_ok-domain.domain) _ _ c.in-Ok.ensures.inverse
    ∙ c.in_ok-domain.ensures.size)

pub returns-clause-coefficients : goal.returns-clause-coefficients
returns-clause-coefficients g c =
    let F = g.F.PrimeNumbers in
    let laws = g.met.F.PrimeNumbers in
    let S = number_field F.numbering F.prime laws.field_law laws.generator_law laws.root_law g.met.F.FftField.roots_law in
    let judged = c.in_ok-domain.ensures in
    let d = general_domain c.in_ok-domain.domain in
    let h = number_of_words c.args.offset.now in
    let u = g.F.WordElement.unit in
    let taken = subst (λ f. AreTransformable f c.args.words.now c.args.offset.now) g.met.F.WordElement.spelled_law judged.taken in
    subst (λ f. AreTransformedBack f c.args.words.now c.args.offset.now c.put_scaled.new.words) (sym g.met.F.WordElement.spelled_law)
    (subst (AreInterpolated (shown_field S) (coset_of (shown_field S) (length c.args.words.now / g.F.WordElement.WIDTH) h) (numbers g.F.WordElement.WIDTH c.args.words.now))
    (sym (c.put_scaled.ensures ∙ ap (map (scaled S u)) c.deref.ensures.value))
    (subst (λ n. AreInterpolated (shown_field S) (coset_of (shown_field S) n h) (numbers g.F.WordElement.WIDTH c.args.words.now) (map (scaled S u) c.ifft_counted.new.evals.items)) judged.size
    (of_any_kind (shown_field S) d.kind d.size h _ _ (interpolated_scaled S u g.F.DomainCoeff.group g.F.DomainCoeff.meaning g.met.F.FftField.itself_law d h _ c.in_ok-domain.evals.items c.ifft_counted.new.evals.items
    judged.lawful (judged.offset ∙ sym (mod-eq_of_lt taken.1.1)) judged.numbers c.in-Ok.ensures.inverse))))
