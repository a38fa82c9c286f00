use Rattle.std.proofs.Common.{◌-◌, length, sym, ap, ◌∙◌}
use Rattle.std.specs.List.{slice_get}
use Rattle.std.specs.Option.{option_copied}
use Rattle.ark_math_polynomials.proofs.Polynomials.UnivariatePairs.{sparse_last}
use Rattle.ark_univariate.proofs.polynomial.univariate.sparse.SparsePolynomialPolynomial.degree.Goals as goal

pub returns-in-Some : goal.returns-in-Some
returns-in-Some g c =
    let coeffs = c.self.inside.coeffs.items in
    rw (← c.self.view_is) (sparse_last g.F.Field.field g.met.F.Field.field_laws coeffs c.in-Some.term.now c.self.invariant
    (ap (λ t. slice_get t (length t - 1)) (sym c.deref.ensures.value) ∙ sym c.last.ensures.value ∙ ap option_copied c.in-Some.is))
