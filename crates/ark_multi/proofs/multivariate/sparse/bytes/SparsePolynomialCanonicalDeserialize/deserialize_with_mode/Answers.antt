use Rattle.std.proofs.Common.{◌≡◌, sym, ◌∙◌, subst}
use Rattle.std.proofs.lemmas.Bool.{true≢false}
use Rattle.std.proofs.lemmas.Result.{err_from_is_err_and}
use Rattle.ark_math_formats.specs.Format.{word, ◌⊗◌, list}
use Rattle.ark_math_formats.proofs.Formats.Ends.{number_is_format}
use Rattle.ark_multi.specs.LayoutLaws.{terms_show}
use Rattle.ark_multi.specs.TermLists.{keyed}
use Rattle.ark_multi.specs.SortedTerms.{AreTerms}
use Rattle.ark_multi.proofs.SortedTerms.{term_order}
use Rattle.ark_multi.proofs.Bytes.{refused_in_first, refused_in_second, fault_in_both, terms_like}
use Rattle.ark_multi.proofs.multivariate.sparse.bytes.SparsePolynomialCanonicalDeserialize.deserialize_with_mode.Goals as goal

pub returns-in_err-num_vars : goal.returns-in_err-num_vars
returns-in_err-num_vars g c =
    let p = err_from_is_err_and c.from_residual.result c.from_residual.ensures.1 in
    let item = g.F.Spelled.format c.args.mode ⊗ g.T.Spelled.format c.args.mode in
    rw (p.1, p.2) (refused_in_first word (list item) (λ p. (p.num_vars, p.terms.items)) (λ _. Unit {0}) (number_is_format 8) ⊥ _ _ _ c.in_err-num_vars.ensures)

pub returns-in_err-terms : goal.returns-in_err-terms
returns-in_err-terms g c =
    let p = err_from_is_err_and c.from_residual-in_err-terms.result c.from_residual-in_err-terms.ensures.1 in
    let item = g.F.Spelled.format c.args.mode ⊗ g.T.Spelled.format c.args.mode in
    rw (p.1, p.2) (refused_in_second word (list item) (λ p. (p.num_vars, p.terms.items)) (λ _. Unit {0}) (number_is_format 8) (Unit {0}) _ _ _ _ _ c.in_ok-num_vars.ensures c.in_err-terms.ensures)

pub returns-else-are_terms : goal.returns-else-are_terms
returns-else-are_terms g c =
    let K = g.F.Field.field in
    let N = g.met.F.Field.field_laws in
    let cmp = g.T.Ord.cmp in
    let listed = g.T.Term.listed in
    let order = term_order g.met.T.Ord.total g.met.T.Ord.matches_eq g.met.T.Term.equality_law in
    let e = g.F.Spelled.format c.args.mode in
    let t = g.T.Spelled.format c.args.mode in
    let one = terms_show e t (g.F.Spelled.format_law c.args.mode) (g.T.Spelled.format_law c.args.mode) (λ x. x) listed (g.met.F.Field.elements_law c.args.mode).one_to_one (g.met.T.Term.pairs_law c.args.mode) in
    let num_vars = c.in_ok-num_vars.num_vars in
    let read = c.in_ok-terms.terms.items in
    fault_in_both word (list (e ⊗ t)) (λ p. (p.num_vars, p.terms.items)) (λ _. Unit {0}) (number_is_format 8)
    (λ p. (p.0, keyed listed p.1)) one (AreTerms K cmp listed) (terms_like K N order) (λ p _. record { ordered = record { rising = p.rising; not_zero = p.not_zero }; within = p.within }) _ _ _ num_vars read
    (λ h. true≢false (sym (c.are_terms.ensures.1 (subst (λ cs. AreTerms K cmp listed (num_vars, cs)) (sym c.deref.ensures.value) h)) ∙ c.if-are_terms.false))
    c.in_ok-num_vars.ensures c.in_ok-terms.ensures
