use Rattle.std.proofs.Common.{sym, ◌∙◌, subst}
use Rattle.std.proofs.lemmas.Bool.{true≢false}
use Rattle.std.proofs.lemmas.Result.{err_from_is_err_and}
use Rattle.ark_math.specs.Univariate.{IsTrimmed}
use Rattle.ark_math_formats.specs.Format.{list}
use Rattle.ark_math_formats.proofs.Formats.OneToOne.{list_tells}
use Rattle.ark_bytes.proofs.Reading.{refused_fields, unlawful_value}
use Rattle.ark_univariate.proofs.polynomial.univariate.dense.bytes.DensePolynomialCanonicalDeserialize.deserialize_with_mode.Goals as goal

pub returns-in_err-coeffs : goal.returns-in_err-coeffs
returns-in_err-coeffs g c =
    let e = g.F.Spelled.format c.args.mode in
    let p = err_from_is_err_and c.from_residual.result c.from_residual.ensures.1 in
    rw (p.1, p.2) (refused_fields (list e) (λ cs. cs) (IsTrimmed g.F.Field.field) (Unit {0}) _ _ _ c.in_err-coeffs.ensures)

pub returns-else-is_trimmed : goal.returns-else-is_trimmed
returns-else-is_trimmed g c =
    let K = g.F.Field.field in
    let e = g.F.Spelled.format c.args.mode in
    let one = list_tells e (g.F.Spelled.format_law c.args.mode) (g.met.F.Field.elements_law c.args.mode).one_to_one in
    unlawful_value (list e) (IsTrimmed K) one _ _ c.in_ok-coeffs.coeffs.items
    (λ t. true≢false (sym (c.is_trimmed.ensures.1 (subst (IsTrimmed K) (sym c.deref.ensures.value) t)) ∙ c.if-is_trimmed.false))
    c.in_ok-coeffs.ensures
