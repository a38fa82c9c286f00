use Rattle.std.proofs.Common.{◌⊎◌, inl, inr}
use Rattle.std.proofs.lemmas.Result.{err_from_is_err_and}
use Rattle.ark_univariate.specs.Layouts.{general_domain}
use Rattle.ark_bytes.specs.Either.{sum_of}
use Rattle.ark_bytes.proofs.Reading.{refused_fields, refused_weaker}
use Rattle.ark_fft.specs.CosetBytes.{all_fields}
use Rattle.ark_univariate.specs.DomainBytes.{radix2_coset, mixed_radix_coset, either_of, coset_format}
use Rattle.ark_univariate.proofs.domain.general.bytes.GeneralEvaluationDomainCanonicalDeserialize.deserialize_with_mode.Goals as goal

pub returns-in_err-domain : goal.returns-in_err-domain
returns-in_err-domain g c =
    let p = err_from_is_err_and c.from_residual.result c.from_residual.ensures.1 in
    let e = g.F.Spelled.format c.args.mode in
    let radix2 = coset_format all_fields radix2_coset e c.args.mode in
    let mixed = coset_format all_fields mixed_radix_coset e c.args.mode in
    let none = λ (m : ⊥ ⊎ ⊥). elim m as (λ _. ⊥) [ inl n ↦ n | inr n ↦ n ] in
    let read = refused_weaker (general_domain radix2 mixed sum_of) (⊥ ⊎ ⊥) ⊥ none _ _ _ c.in_err-domain.ensures in
    rw (p.1, p.2) (refused_fields (general_domain radix2 mixed sum_of) either_of (λ _. Unit {0}) ⊥ _ _ _ read)
