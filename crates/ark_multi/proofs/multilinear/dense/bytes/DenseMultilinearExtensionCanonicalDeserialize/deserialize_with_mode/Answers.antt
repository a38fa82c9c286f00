use Rattle.std.proofs.Common.{◌≡◌, map, sym, ◌∙◌, subst}
use Rattle.std.proofs.lemmas.Bool.{true≢false}
use Rattle.std.proofs.lemmas.Result.{err_from_is_err_and}
use Rattle.ark_math_formats.specs.Format.{word, list}
use Rattle.ark_math_formats.proofs.Formats.Ends.{list_is_format}
use Rattle.ark_multi.specs.LayoutLaws.{values_show}
use Rattle.ark_multi.proofs.Bytes.{refused_in_first, refused_in_second, fault_in_both, IsWhole, whole_alike}
use Rattle.ark_multi.proofs.multilinear.dense.bytes.DenseMultilinearExtensionCanonicalDeserialize.deserialize_with_mode.Goals as goal

pub returns-in_err-evaluations : goal.returns-in_err-evaluations
returns-in_err-evaluations g c =
    let p = err_from_is_err_and c.from_residual.result c.from_residual.ensures.1 in
    let item = g.F.Spelled.format c.args.mode in
    rw (p.1, p.2) (refused_in_first (list item) word (λ p. (p.evaluations.items, p.num_vars)) (λ _. Unit {0}) (list_is_format item (g.F.Spelled.format_law c.args.mode)) (Unit {0}) _ _ _ c.in_err-evaluations.ensures)

pub returns-in_err-num_vars : goal.returns-in_err-num_vars
returns-in_err-num_vars g c =
    let p = err_from_is_err_and c.from_residual-in_err-num_vars.result c.from_residual-in_err-num_vars.ensures.1 in
    let item = g.F.Spelled.format c.args.mode in
    rw (p.1, p.2) (refused_in_second (list item) word (λ p. (p.evaluations.items, p.num_vars)) (λ _. Unit {0}) (list_is_format item (g.F.Spelled.format_law c.args.mode)) ⊥ _ _ _ _ _ c.in_ok-evaluations.ensures c.in_err-num_vars.ensures)

pub returns-else-is_table_len : goal.returns-else-is_table_len
returns-else-is_table_len g c =
    let item = g.F.Spelled.format c.args.mode in
    let law = g.F.Spelled.format_law c.args.mode in
    let shown = g.F.Spelled.shown in
    let read = c.in_ok-evaluations.evaluations.items in
    fault_in_both (list item) word (λ p. (p.evaluations.items, p.num_vars)) (λ _. Unit {0}) (list_is_format item law)
    (λ p. (map shown p.0, p.1)) (values_show item law shown (g.F.Spelled.tells c.args.mode)) IsWhole (whole_alike shown) (λ p _. (p.few, p.whole)) _ _ _ read c.in_ok-num_vars.num_vars
    (λ h. true≢false (sym (c.is_table_len.ensures.1 (h.0, c.len.ensures ∙ c.in_ok-evaluations.evaluations.ok.0 ∙ h.1)) ∙ c.if-is_table_len.false))
    c.in_ok-evaluations.ensures c.in_ok-num_vars.ensures
