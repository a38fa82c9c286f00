use Rattle.std.proofs.Common.{sym, ap, ◌∙◌}
use Rattle.ark_math.specs.Univariate.{of_pairs, added, monomial}
use Rattle.ark_math.proofs.Algebra.Groups.{zero_plus}
use Rattle.ark_math_polynomials.proofs.Polynomials.Univariate.{coefficients_are_module}
use Rattle.ark_math_polynomials.proofs.Polynomials.UnivariatePairs.{monomial-zero}
use Rattle.ark_coeffs.proofs.SparseSums.{above_lowest, above_taken, none_above, sparse_taken}
use Rattle.ark_coeffs.proofs.sparse.split_at_degree.Goals.{in_default-via-in-Some+else-term-degree, in_default-via-in_default}
use Rattle.ark_coeffs.proofs.sparse.split_at_degree.Goals as goal

pub returns-in-Some-clause-sparse : goal.returns-in-Some-clause-sparse
returns-in-Some-clause-sparse g c =
    sparse_taken g.F.Field.field g.met.F.Field.field_laws c.args.terms.now c.in-Some.rest.now c.in-Some.term.now c.requires.sparse c.in-Some.ensures.cases.0

pub returns-in-Some-clause-higher : goal.returns-in-Some-clause-higher
returns-in-Some-clause-higher g c =
    above_taken g.F.Field.field g.met.F.Field.field_laws c.args.terms.now c.in-Some.rest.now c.in-Some.term.now c.args.degree c.requires.sparse c.in-Some.ensures.cases.0 c.if-term-degree.true

pub returns-in_default-clause-sum : goal.returns-in_default-clause-sum
returns-in_default-clause-sum g c =
    let K = g.F.Field.field in
    let N = g.met.F.Field.field_laws in
    let terms = of_pairs K c.args.terms.now in
    sym (zero_plus (coefficients_are_module K N) terms)
    ∙ ap (λ t. added K t terms) (sym (monomial-zero K N c.args.degree) ∙ ap (monomial K c.args.degree) (sym (c.zero.ensures ∙ g.met.F.Field.zero_law)))

pub returns-in_default-clause-higher : goal.returns-in_default-clause-higher
returns-in_default-clause-higher g c =
    let terms = c.args.terms.now in
    elim c.in_default.branch [
      | in_default-via-in-Some+else-term-degree w ↦ above_lowest g.F.Field.field g.met.F.Field.field_laws terms w.in-Some.rest.now w.in-Some.term.now c.args.degree c.requires.sparse w.in-Some.ensures.cases.0 w.if-term-degree.false c.requires.lowest
      | in_default-via-in_default w ↦ none_above g.F.Field.field g.met.F.Field.field_laws terms c.args.degree w.in_default.ensures.cases
    ]
