use Rattle.std.proofs.lemmas.Result.{err_from_is_err_and}
use Rattle.ark_prime256.proofs.WordBytes.{read_as_number, refused_as_number, no_memory}
use Rattle.ark_prime256.proofs.words.bytes.read_words.Goals as goal

pub returns : goal.returns
returns g c = read_as_number _ _ (record { w0 = c.in_ok-w0.w0; w1 = c.in_ok-w0.w1; w2 = c.in_ok-w0.w2; w3 = c.in_ok-w0.w3 }) c.in_ok-w0.ensures

pub returns-in_err-w0 : goal.returns-in_err-w0
returns-in_err-w0 g c =
    let p = err_from_is_err_and c.from_residual.result c.from_residual.ensures.1 in
    rw (p.1, p.2) (refused_as_number _ _ c.in_err-w0.field-0.0 no_memory c.in_err-w0.ensures)
