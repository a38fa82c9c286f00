use Rattle.std.proofs.Common.{◌≡◌, ap, subst, ◌∙◌}
use Rattle.std.proofs.lemmas.Result.{err_from_is_err_and}
use Rattle.ark_math.specs.Root.{Splits}
use Rattle.ark_math_transforms.proofs.Domains.Costs.{one_split}
use Rattle.ark_bytes.proofs.Reading.{refused_fields, unlawful}
use Rattle.ark_fft.specs.CosetBytes.{all_fields, domain_format, domain_tells}
use Rattle.ark_univariate.specs.DomainBytes.{radix2_coset}
use Rattle.ark_univariate.proofs.domain.radix2.bytes.Radix2EvaluationDomainCanonicalDeserialize.deserialize_with_mode.Goals as goal

pub returns-in_err-coset : goal.returns-in_err-coset
returns-in_err-coset g c =
    let p = err_from_is_err_and c.from_residual.result c.from_residual.ensures.1 in
    let mode = c.args.mode in
    rw (p.1, p.2) (refused_fields (domain_format (g.F.Spelled.format mode) all_fields mode) radix2_coset (λ _. Unit {0}) ⊥ _ _ _ c.in_err-coset.ensures)

pub returns-else-coset-eq0 : goal.returns-else-coset-eq0
returns-else-coset-eq0 g c =
    let mode = c.args.mode in
    let e = g.F.Spelled.format mode in
    let s = g.F.FftField.adicity in
    let x = c.in_ok-coset.coset in
    let t = c.in_ok-coset.ensures in
    unlawful (domain_format e all_fields mode) radix2_coset (λ _. Unit {0}) _ _ x
    (λ y has lawful same.
    let shows = domain_tells e all_fields (g.F.Spelled.format_law mode) (λ v. v) (g.met.F.Field.elements_law mode).one_to_one mode x y.coset t.has has same in
    let size : x.size ≡ y.coset.size = ap (λ v. v.0) shows in
    let here : Splits s y.coset.size x.log_size_of_group x.odd_exponent = subst (λ n. Splits s n x.log_size_of_group x.odd_exponent) size x.splits in
    let split = one_split s y.coset.size x.log_size_of_group x.odd_exponent y.coset.log_size_of_group y.coset.odd_exponent g.met.F.FftField.roots_law.base here y.coset.splits in
    c.if-coset-eq0.false (split.1 ∙ y.even))
    t
