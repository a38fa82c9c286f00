use Rattle.std.proofs.Common.{[], ◌∷◌}
use Rattle.std.proofs.lemmas.Result.{err_from_is_err_and}
use Rattle.ark_math_formats.specs.Format.{either}
use Rattle.ark_bytes.specs.Either.{sum_of}
use Rattle.ark_bytes.specs.declared.one_of_two.Either.TheVariants.{First, Second}
use Rattle.ark_bytes.proofs.Writing.{stops_before, write_fields, write_left, write_right}
use Rattle.ark_bytes.proofs.one_of_two.EitherCanonicalSerialize.serialize_with_mode.Goals as goal

pub returns-in_err-write_number-in-First : goal.returns-in_err-write_number-in-First
returns-in_err-write_number-in-First g c =
    let p = err_from_is_err_and c.from_residual.result c.from_residual.ensures.1 in
    let first = g.A.Spelled.format c.args.mode in
    rw (p.1, p.2, c.in-First.is) (stops_before _ _ (0 ∷ []) (first.spelling c.in-First.value) _ (c.in_err-write_number-in-First).ensures)

pub returns-in_err-write_number-in-Second : goal.returns-in_err-write_number-in-Second
returns-in_err-write_number-in-Second g c =
    let p = err_from_is_err_and (c.from_residual-in_err-write_number-in-Second).result (c.from_residual-in_err-write_number-in-Second).ensures.1 in
    let second = g.B.Spelled.format c.args.mode in
    rw (p.1, p.2, c.in-Second.is) (stops_before _ _ (1 ∷ []) (second.spelling c.in-Second.value) _ (c.in_err-write_number-in-Second).ensures)

pub returns-in_ok-write_number-in-First : goal.returns-in_ok-write_number-in-First
returns-in_ok-write_number-in-First g c =
    let first = g.A.Spelled.format c.args.mode in
    let second = g.B.Spelled.format c.args.mode in
    let v = c.in-First.value in
    rw c.in-First.is (write_fields (either first second) sum_of (λ _. Unit {0}) _ _ (First v) _ tt (write_left first second _ _ _ v _ (c.in_ok-write_number-in-First).ensures c.serialize_with_mode.ensures))

pub returns-in_ok-write_number-in-Second : goal.returns-in_ok-write_number-in-Second
returns-in_ok-write_number-in-Second g c =
    let first = g.A.Spelled.format c.args.mode in
    let second = g.B.Spelled.format c.args.mode in
    let v = c.in-Second.value in
    rw c.in-Second.is (write_fields (either first second) sum_of (λ _. Unit {0}) _ _ (Second v) _ tt (write_right first second _ _ _ v _ (c.in_ok-write_number-in-Second).ensures (c.serialize_with_mode-in-Second).ensures))
