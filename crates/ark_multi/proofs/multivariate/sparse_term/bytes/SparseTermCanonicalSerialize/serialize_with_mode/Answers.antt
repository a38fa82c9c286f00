use Rattle.std.proofs.Common.{sym}
use Rattle.ark_math_formats.specs.Format.{word, ◌⊗◌, list}
use Rattle.ark_math_variables.specs.Term.{IsTerm}
use Rattle.ark_multi.proofs.Bytes.{write_value}
use Rattle.ark_multi.proofs.multivariate.sparse_term.bytes.SparseTermCanonicalSerialize.serialize_with_mode.Goals as goal

pub returns : goal.returns
returns g c =
    write_value (list (word ⊗ word)) (λ ps. ps) IsTerm _ _ c.self.inside.powers.items _ _ _ (sym c.self.view_is) c.deref.ensures.value c.self.invariant c.write_list.ensures
