use Rattle.std.proofs.Common.{◌⊎◌, inl, inr}
use Rattle.std.proofs.lemmas.Result.{err_from_is_err_and}
use Rattle.ark_math_formats.specs.Format.{either}
use Rattle.ark_bytes.specs.Either.{sum_of}
use Rattle.ark_bytes.proofs.Reading.{refused_fields, refused_tag, refused_left, refused_right, refused_weaker, same_number}
use Rattle.ark_bytes.proofs.one_of_two.EitherCanonicalDeserialize.deserialize_with_mode.Goals as goal

pub returns-in_err-tag : goal.returns-in_err-tag
returns-in_err-tag g c =
    let p = err_from_is_err_and c.from_residual.result c.from_residual.ensures.1 in
    let first = g.A.Spelled.format c.args.mode in
    let second = g.B.Spelled.format c.args.mode in
    let M = g.A.CanonicalDeserialize.takes_memory in
    let N = g.B.CanonicalDeserialize.takes_memory in
    rw (p.1, p.2) (refused_fields (either first second) sum_of (λ _. Unit {0}) (M ⊎ N) _ _ _ (refused_tag first second (M ⊎ N) _ _ _ c.in_err-tag.ensures))

pub returns-in_err-deserialize_with_mode-in-0 : goal.returns-in_err-deserialize_with_mode-in-0
returns-in_err-deserialize_with_mode-in-0 g c =
    let p = err_from_is_err_and (c.from_residual-in_err-deserialize_with_mode-in-0).result (c.from_residual-in_err-deserialize_with_mode-in-0).ensures.1 in
    let first = g.A.Spelled.format c.args.mode in
    let second = g.B.Spelled.format c.args.mode in
    let M = g.A.CanonicalDeserialize.takes_memory in
    let N = g.B.CanonicalDeserialize.takes_memory in
    let tag = same_number _ _ 1 c.in_ok-tag.tag 0 c.in-0.is c.in_ok-tag.ensures in
    let read = refused_left first second M _ _ _ _ tag (c.in_err-deserialize_with_mode-in-0).ensures in
    rw (p.1, p.2) (refused_fields (either first second) sum_of (λ _. Unit {0}) (M ⊎ N) _ _ _ (refused_weaker (either first second) M (M ⊎ N) (λ m. inl m) _ _ _ read))

pub returns-in_err-deserialize_with_mode-in-1 : goal.returns-in_err-deserialize_with_mode-in-1
returns-in_err-deserialize_with_mode-in-1 g c =
    let p = err_from_is_err_and (c.from_residual-in_err-deserialize_with_mode-in-1).result (c.from_residual-in_err-deserialize_with_mode-in-1).ensures.1 in
    let first = g.A.Spelled.format c.args.mode in
    let second = g.B.Spelled.format c.args.mode in
    let M = g.A.CanonicalDeserialize.takes_memory in
    let N = g.B.CanonicalDeserialize.takes_memory in
    let tag = same_number _ _ 1 c.in_ok-tag.tag 1 c.in-1.is c.in_ok-tag.ensures in
    let read = refused_right first second N _ _ _ _ tag (c.in_err-deserialize_with_mode-in-1).ensures in
    rw (p.1, p.2) (refused_fields (either first second) sum_of (λ _. Unit {0}) (M ⊎ N) _ _ _ (refused_weaker (either first second) N (M ⊎ N) (λ m. inr m) _ _ _ read))
