use Rattle.std.proofs.Common.{refl}
use Rattle.std.proofs.lemmas.Result.{err_from_is_err_and}
use Rattle.ark_math_formats.specs.Format.{word, ◌⊗◌, list}
use Rattle.ark_multi.proofs.Bytes.{stops_in_first, write_both}
use Rattle.ark_multi.proofs.multivariate.sparse.bytes.SparsePolynomialCanonicalSerialize.serialize_with_mode.Goals as goal

pub returns-in_err-serialize_with_mode : goal.returns-in_err-serialize_with_mode
returns-in_err-serialize_with_mode g c =
    let p = err_from_is_err_and c.from_residual.result c.from_residual.ensures.1 in
    let item = g.F.Spelled.format c.args.mode ⊗ g.T.Spelled.format c.args.mode in
    rw (p.1, p.2) (stops_in_first word (list item) (λ p. (p.num_vars, p.terms.items)) (λ _. Unit {0}) _ _ c.args.self.now _ _ refl c.in_err-serialize_with_mode.ensures)

pub returns : goal.returns
returns g c =
    let item = g.F.Spelled.format c.args.mode ⊗ g.T.Spelled.format c.args.mode in
    write_both word (list item) (λ p. (p.num_vars, p.terms.items)) (λ _. Unit {0}) _ _ _ c.args.self.now _ _ _ refl c.deref.ensures.value tt c.in_ok-serialize_with_mode.ensures c.write_list.ensures
