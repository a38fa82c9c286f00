use Rattle.std.proofs.Common.{◌==◌, ◌&&◌, sym, ap₂, ◌∙◌}
use Rattle.std.specs.Cmp.Lexicographic.{pointwise}
use Rattle.ark_math_polynomials.proofs.Polynomials.Trimmed.{zero_test}
use Rattle.ark_univariate.specs.GatheredLaws.{gather_of-sparse}
use Rattle.ark_univariate.proofs.polynomial.univariate.sparse.SparsePolynomialPartialEq.eq.Goals as goal

pub returns : goal.returns
returns g c =
    let K = g.F.Field.field in
    let F = g.met.F.Field in
    let eq = g.F.PartialEq.eq in
    let o = g.F.Zero.zero in
    let zero = zero_test K eq o F.equality_law F.zero_law in
    let left = gather_of-sparse K F.field_laws (λ x. eq x o) zero c.self.inside.coeffs.items c.self.invariant in
    let right = gather_of-sparse K F.field_laws (λ x. eq x o) zero c.other.inside.coeffs.items c.other.invariant in
    rw (← c.self.view_is, ← c.other.view_is) (c.eq.ensures ∙ ap₂ (pointwise (λ x y. (x.0 == y.0) && eq x.1 y.1)) (sym left) (sym right))
