use Rattle.std.proofs.Common.{◌≡◌, sym, ◌∙◌, subst}
use Rattle.std.proofs.lemmas.Bool.{true≢false}
use Rattle.ark_math_formats.specs.Format.{word, ◌⊗◌, list}
use Rattle.ark_math_variables.specs.Term.{IsTerm}
use Rattle.ark_multi.specs.LayoutLaws.{pairs_tell}
use Rattle.ark_multi.proofs.Bytes.{fault_by_fields}
use Rattle.ark_multi.proofs.multivariate.sparse_term.bytes.SparseTermCanonicalDeserialize.deserialize_with_mode.Goals as goal

pub returns-else-is_term : goal.returns-else-is_term
returns-else-is_term g c =
    fault_by_fields (list (word ⊗ word)) (λ ps. ps) IsTerm pairs_tell IsTerm (λ y h. h) _ _ c.in_ok-powers.powers.items
    (λ h. true≢false (sym (c.is_term.ensures.1 (subst IsTerm (sym c.deref.ensures.value) h)) ∙ c.if-is_term.false))
    c.in_ok-powers.ensures
