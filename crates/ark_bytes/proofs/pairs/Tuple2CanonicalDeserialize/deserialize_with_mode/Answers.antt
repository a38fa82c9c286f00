use Rattle.std.proofs.Common.{◌⊎◌, inl, inr}
use Rattle.std.proofs.lemmas.Result.{err_from_is_err_and}
use Rattle.ark_math_formats.specs.Format.{◌⊗◌}
use Rattle.ark_bytes.proofs.Reading.{refused_first, refused_second, refused_weaker}
use Rattle.ark_bytes.proofs.pairs.Tuple2CanonicalDeserialize.deserialize_with_mode.Goals as goal

pub returns-in_err-first : goal.returns-in_err-first
returns-in_err-first g c =
    let p = err_from_is_err_and c.from_residual.result c.from_residual.ensures.1 in
    let first = g.A.Spelled.format c.args.mode in
    let second = g.B.Spelled.format c.args.mode in
    let M = g.A.CanonicalDeserialize.takes_memory in
    let N = g.B.CanonicalDeserialize.takes_memory in
    let read = refused_first first second (g.A.Spelled.format_law c.args.mode) M _ _ _ c.in_err-first.ensures in
    rw (p.1, p.2) (refused_weaker (first ⊗ second) M (M ⊎ N) (λ m. inl m) _ _ _ read)

pub returns-in_err-second : goal.returns-in_err-second
returns-in_err-second g c =
    let p = err_from_is_err_and c.from_residual-in_err-second.result c.from_residual-in_err-second.ensures.1 in
    let first = g.A.Spelled.format c.args.mode in
    let second = g.B.Spelled.format c.args.mode in
    let M = g.A.CanonicalDeserialize.takes_memory in
    let N = g.B.CanonicalDeserialize.takes_memory in
    let read = refused_second first second (g.A.Spelled.format_law c.args.mode) N _ _ _ _ _ c.in_ok-first.ensures c.in_err-second.ensures in
    rw (p.1, p.2) (refused_weaker (first ⊗ second) N (M ⊎ N) (λ m. inr m) _ _ _ read)
