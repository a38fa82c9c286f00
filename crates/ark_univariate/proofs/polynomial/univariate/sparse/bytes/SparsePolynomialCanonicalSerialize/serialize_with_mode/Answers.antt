use Rattle.std.proofs.Common.{sym, ◌∙◌, subst}
use Rattle.ark_math.specs.Univariate.{IsSparse}
use Rattle.ark_math_formats.specs.Format.{word, ◌⊗◌, list}
use Rattle.ark_bytes.proofs.Writing.{write_fields}
use Rattle.ark_univariate.proofs.polynomial.univariate.sparse.bytes.SparsePolynomialCanonicalSerialize.serialize_with_mode.Goals as goal

pub returns : goal.returns
returns g c =
    let e = g.F.Spelled.format c.args.mode in
    let K = g.F.Field.field in
    write_fields (list (word ⊗ e)) (λ ps. ps) (IsSparse K) _ _ c.args.self.now c.write_list.result
    (subst (IsSparse K) c.self.view_is c.self.invariant)
    (rw (← c.self.view_is, ← c.deref.ensures.value) c.write_list.ensures)
