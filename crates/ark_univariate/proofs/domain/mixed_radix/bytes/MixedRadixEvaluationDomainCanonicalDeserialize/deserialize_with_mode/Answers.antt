use Rattle.std.proofs.Common.{is_some, sym, ap, ◌∙◌}
use Rattle.std.proofs.lemmas.Bool.{false≢true}
use Rattle.std.proofs.lemmas.Result.{err_from_is_err_and}
use Rattle.ark_bytes.proofs.Reading.{refused_fields, unlawful}
use Rattle.ark_fft.specs.CosetBytes.{all_fields, domain_format}
use Rattle.ark_univariate.specs.DomainBytes.{mixed_radix_coset}
use Rattle.ark_univariate.proofs.domain.mixed_radix.bytes.MixedRadixEvaluationDomainCanonicalDeserialize.deserialize_with_mode.Goals as goal

pub returns-in_err-coset : goal.returns-in_err-coset
returns-in_err-coset g c =
    let p = err_from_is_err_and c.from_residual.result c.from_residual.ensures.1 in
    let mode = c.args.mode in
    rw (p.1, p.2) (refused_fields (domain_format (g.F.Spelled.format mode) all_fields mode) mixed_radix_coset (λ _. Unit {0}) ⊥ _ _ _ c.in_err-coset.ensures)

pub returns-else-is_some : goal.returns-else-is_some
returns-else-is_some g c =
    let mode = c.args.mode in
    unlawful (domain_format (g.F.Spelled.format mode) all_fields mode) mixed_radix_coset (λ _. Unit {0}) _ _ c.in_ok-coset.coset
    (λ y has lawful same. false≢true (sym c.if-is_some.false ∙ c.is_some.ensures ∙ ap is_some c.odd_base.ensures ∙ y.based))
    c.in_ok-coset.ensures
