use Rattle.std.proofs.Common.{◌≤◌, [], ◌∷◌, ap, ◌∙◌, arith}
use Rattle.ark_math.specs.Univariate.{of_list}
use Rattle.ark_quotients.proofs.PowerSeries.{inverse_constant}
use Rattle.ark_math_polynomials.proofs.Polynomials.UnivariateLists.{of_list-past}
use Rattle.ark_univariate.proofs.polynomial.univariate.dense.DensePolynomial.+inverse_series.Goals as goal

pub returns-then-len-eq1-clause-inverse : goal.returns-then-len-eq1-clause-inverse
returns-then-len-eq1-clause-inverse g t c =
    let K = g.F.Field.field in
    let x = c.args.first_inverted in
    inverse_constant K g.met.F.Field.field_laws c.args.len (of_list K c.args.self.now) (of_list K c.from_coefficients_vec.result) x c.if-len-eq1.true c.requires.first
    (ap (λ t. t 0) (c.from_coefficients_vec.ensures.coefficients ∙ ap (of_list K) (c.in_ok-vec.ensures.items_if_clones_equal (λ y h. g.met.F.Field.clone_law _ _ h))))

pub returns-then-len-eq1-clause-below : goal.returns-then-len-eq1-clause-below
returns-then-len-eq1-clause-below g t c i l =
    let K = g.F.Field.field in
    let x = c.args.first_inverted in
    let one = c.if-len-eq1.true in
    let past : 1 ≤ i = omega (arith, l, one) in
    ap (λ t. t i) (c.from_coefficients_vec.ensures.coefficients ∙ ap (of_list K) (c.in_ok-vec.ensures.items_if_clones_equal (λ y h. g.met.F.Field.clone_law _ _ h)))
    ∙ of_list-past K (x ∷ []) i past

pub refined_inverse-requires : goal.refined_inverse-requires
refined_inverse-requires g t c = record {
  positive = omega arith;
  more = omega arith;
  most = omega arith;
  below = c.in_ok-inverse.ensures.below;
  inverse = c.in_ok-inverse.ensures.inverse;
}

pub returns-clause-inverse : goal.returns-clause-inverse
returns-clause-inverse g t c = c.refined_inverse.ensures.inverse

pub returns-clause-below : goal.returns-clause-below
returns-clause-below g t c = c.refined_inverse.ensures.below

pub returns-clause-errors : goal.returns-clause-errors
returns-clause-errors g t c = c.refined_inverse.ensures.errors
