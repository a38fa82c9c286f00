use Rattle.std.proofs.Common.{◌≡◌, ◌⊎◌, sym, ◌∙◌, subst}
use Rattle.std.proofs.lemmas.Bool.{true≢false}
use Rattle.std.proofs.lemmas.Result.{err_from_is_err_and}
use Rattle.ark_math_formats.specs.Format.{word, ◌⊗◌, list}
use Rattle.ark_math_formats.proofs.Formats.Ends.{number_is_format, pair_is_format, list_is_format}
use Rattle.ark_multi.specs.LayoutLaws.{entries_tell}
use Rattle.ark_tables.specs.Entries.{AreEntries}
use Rattle.ark_multi.proofs.Bytes.{refused_in_first, refused_in_second, fault_in_both}
use Rattle.ark_multi.proofs.multilinear.sparse.bytes.SparseMultilinearExtensionCanonicalDeserialize.deserialize_with_mode.Goals as goal

pub returns-in_err-evaluations : goal.returns-in_err-evaluations
returns-in_err-evaluations g c =
    let p = err_from_is_err_and c.from_residual.result c.from_residual.ensures.1 in
    let item = g.F.Spelled.format c.args.mode in
    let law = pair_is_format word item (number_is_format 8) (g.F.Spelled.format_law c.args.mode) in
    rw (p.1, p.2) (refused_in_first (list (word ⊗ item)) (word ⊗ item) (λ p. (p.evaluations.items, (p.num_vars, p.zero))) (λ _. Unit {0}) (list_is_format (word ⊗ item) law) (Unit {0}) _ _ _ c.in_err-evaluations.ensures)

pub returns-in_err-num_vars : goal.returns-in_err-num_vars
returns-in_err-num_vars g c =
    let p = err_from_is_err_and c.from_residual-in_err-num_vars.result c.from_residual-in_err-num_vars.ensures.1 in
    let item = g.F.Spelled.format c.args.mode in
    let law = pair_is_format word item (number_is_format 8) (g.F.Spelled.format_law c.args.mode) in
    rw (p.1, p.2) (refused_in_second (list (word ⊗ item)) (word ⊗ item) (λ p. (p.evaluations.items, (p.num_vars, p.zero))) (λ _. Unit {0}) (list_is_format (word ⊗ item) law) (⊥ ⊎ g.F.CanonicalDeserialize.takes_memory) _ _ _ _ _ c.in_ok-evaluations.ensures c.in_err-num_vars.ensures)

pub returns-else-are_entries : goal.returns-else-are_entries
returns-else-are_entries g c =
    let K = g.F.Field.field in
    let item = g.F.Spelled.format c.args.mode in
    let law = pair_is_format word item (number_is_format 8) (g.F.Spelled.format_law c.args.mode) in
    let one = entries_tell item (g.F.Spelled.format_law c.args.mode) (g.met.F.Field.elements_law c.args.mode).one_to_one in
    let read = c.in_ok-evaluations.evaluations.items in
    let num_vars = c.in_ok-num_vars.num_vars in
    let zero = c.in_ok-num_vars.zero in
    fault_in_both (list (word ⊗ item)) (word ⊗ item) (λ p. (p.evaluations.items, (p.num_vars, p.zero))) (λ _. Unit {0}) (list_is_format (word ⊗ item) law)
    (λ p. p) one (AreEntries K) (λ p q e h. subst (AreEntries K) (sym e) h) (λ p _. record { sparse = p.sparse; within = p.within; few = p.few; nothing = p.nothing }) _ _ _ read (num_vars, zero)
    (λ h. true≢false (sym (c.are_entries.ensures.1 (subst (λ es. AreEntries K (es, (num_vars, zero))) (sym c.deref.ensures.value) h)) ∙ c.if-are_entries.false))
    c.in_ok-evaluations.ensures c.in_ok-num_vars.ensures
