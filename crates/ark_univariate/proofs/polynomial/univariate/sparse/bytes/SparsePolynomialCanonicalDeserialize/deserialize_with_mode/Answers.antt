use Rattle.std.proofs.Common.{sym, ◌∙◌, subst}
use Rattle.std.proofs.lemmas.Bool.{true≢false}
use Rattle.std.proofs.lemmas.Result.{err_from_is_err_and}
use Rattle.ark_math.specs.Univariate.{IsSparse}
use Rattle.ark_math_formats.specs.Format.{word, ◌⊗◌, list}
use Rattle.ark_math_formats.proofs.Formats.Ends.{number_is_format, pair_is_format}
use Rattle.ark_math_formats.proofs.Formats.OneToOne.{number_tells, pair_tells, list_tells}
use Rattle.ark_bytes.proofs.Reading.{refused_fields, unlawful_value}
use Rattle.ark_univariate.proofs.polynomial.univariate.sparse.bytes.SparsePolynomialCanonicalDeserialize.deserialize_with_mode.Goals as goal

pub returns-in_err-coeffs : goal.returns-in_err-coeffs
returns-in_err-coeffs g c =
    let e = g.F.Spelled.format c.args.mode in
    let p = err_from_is_err_and c.from_residual.result c.from_residual.ensures.1 in
    rw (p.1, p.2) (refused_fields (list (word ⊗ e)) (λ ps. ps) (IsSparse g.F.Field.field) (Unit {0}) _ _ _ c.in_err-coeffs.ensures)

pub returns-else-is_sparse : goal.returns-else-is_sparse
returns-else-is_sparse g c =
    let K = g.F.Field.field in
    let e = g.F.Spelled.format c.args.mode in
    let law = g.F.Spelled.format_law c.args.mode in
    let pairs = pair_tells word e (number_is_format 8) (number_tells 8) (g.met.F.Field.elements_law c.args.mode).one_to_one in
    let one = list_tells (word ⊗ e) (pair_is_format word e (number_is_format 8) law) pairs in
    unlawful_value (list (word ⊗ e)) (IsSparse K) one _ _ c.in_ok-coeffs.coeffs.items
    (λ t. true≢false (sym (c.is_sparse.ensures.1 (subst (IsSparse K) (sym c.deref.ensures.value) t)) ∙ c.if-is_sparse.false))
    c.in_ok-coeffs.ensures
