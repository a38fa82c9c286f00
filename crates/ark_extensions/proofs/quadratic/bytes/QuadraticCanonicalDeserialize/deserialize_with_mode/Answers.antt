use Rattle.std.proofs.Common.{◌⊎◌, inl, inr}
use Rattle.std.proofs.lemmas.Result.{err_from_is_err_and}
use Rattle.ark_math_formats.specs.Format.{◌⊗◌}
use Rattle.ark_bytes.proofs.Reading.{refused_fields, refused_weaker}
use Rattle.ark_extensions.specs.Elements.{coefficients}
use Rattle.ark_extensions.proofs.quadratic.bytes.QuadraticCanonicalDeserialize.deserialize_with_mode.Goals as goal

pub returns-in_err-c0 : goal.returns-in_err-c0
returns-in_err-c0 g c =
    let p = err_from_is_err_and c.from_residual.result c.from_residual.ensures.1 in
    let e = g.F.Spelled.format c.args.mode in
    let M = g.F.CanonicalDeserialize.takes_memory in
    let fields = coefficients {F = g.row.F.Denot} {M = g.row.M.Denot} in
    let read = refused_weaker (e ⊗ e) (M ⊎ M) M (λ m. elim m [ inl h ↦ h | inr h ↦ h ]) _ _ _ c.in_err-c0.ensures in
    rw (p.1, p.2) (refused_fields (e ⊗ e) fields (λ _. Unit {0}) M _ _ _ read)
