use Rattle.std.proofs.Common.{refl}
use Rattle.std.proofs.lemmas.Result.{err_from_is_err_and}
use Rattle.ark_math_formats.specs.Format.{word, list}
use Rattle.ark_multi.proofs.Bytes.{stops_in_first, write_both}
use Rattle.ark_multi.proofs.multilinear.dense.bytes.DenseMultilinearExtensionCanonicalSerialize.serialize_with_mode.Goals as goal

pub returns-in_err-write_list : goal.returns-in_err-write_list
returns-in_err-write_list g c =
    let p = err_from_is_err_and c.from_residual.result c.from_residual.ensures.1 in
    rw (p.1, p.2) (stops_in_first (list (g.F.Spelled.format c.args.mode)) word (λ p. (p.evaluations.items, p.num_vars)) (λ _. Unit {0}) _ _ c.args.self.now _ _ c.deref.ensures.value c.in_err-write_list.ensures)

pub returns : goal.returns
returns g c =
    write_both (list (g.F.Spelled.format c.args.mode)) word (λ p. (p.evaluations.items, p.num_vars)) (λ _. Unit {0}) _ _ _ c.args.self.now _ _ _ c.deref.ensures.value refl tt c.in_ok-write_list.ensures c.serialize_with_mode.ensures
