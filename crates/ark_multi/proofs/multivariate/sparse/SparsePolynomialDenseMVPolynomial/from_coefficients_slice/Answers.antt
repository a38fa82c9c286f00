use Rattle.std.proofs.Common.{ap, ◌∙◌}
use Rattle.ark_math_variables.specs.Multivariate.{of_terms}
use Rattle.ark_math_variables.specs.Term.{IsWithin}
use Rattle.ark_math.proofs.Outcomes.Results.{IfOk_more}
use Rattle.ark_multi.proofs.SortedTerms.{term_order, keyed_clones, All_like}
use Rattle.ark_multi.proofs.multivariate.sparse.SparsePolynomialDenseMVPolynomial.from_coefficients_slice.Goals as goal

pub from_coefficients_vec-requires : goal.from_coefficients_vec-requires
from_coefficients_vec-requires g c =
    let K = g.F.Field.field in
    let N = g.met.F.Field.field_laws in
    let o = term_order g.met.T.Ord.total g.met.T.Ord.matches_eq g.met.T.Term.equality_law in
    let terms = c.args.terms.now in
    let copied = c.in_ok-to_vec.field-0.items in
    let same = keyed_clones K N o (λ x y. g.F.Clone.is_clone x.0 y.0 × g.T.Clone.is_clone x.1 y.1) (λ x y made. (g.met.F.Field.clone_law x.0 y.0 made.0, g.met.T.Term.clone_law x.1 y.1 made.1)) terms copied c.in_ok-to_vec.ensures.ok in
    All_like K N o (λ p. IsWithin c.args.num_vars p.1) terms copied same c.requires

pub returns-clause-sum : goal.returns-clause-sum
returns-clause-sum g c =
    let K = g.F.Field.field in
    let N = g.met.F.Field.field_laws in
    let o = term_order g.met.T.Ord.total g.met.T.Ord.matches_eq g.met.T.Term.equality_law in
    let terms = c.args.terms.now in
    let copied = c.in_ok-to_vec.field-0.items in
    let same = keyed_clones K N o (λ x y. g.F.Clone.is_clone x.0 y.0 × g.T.Clone.is_clone x.1 y.1) (λ x y made. (g.met.F.Field.clone_law x.0 y.0 made.0, g.met.T.Term.clone_law x.1 y.1 made.1)) terms copied c.in_ok-to_vec.ensures.ok in
    IfOk_more c.from_coefficients_vec.result (λ p e. e ∙ ap (of_terms K) same) c.from_coefficients_vec.ensures.sum
