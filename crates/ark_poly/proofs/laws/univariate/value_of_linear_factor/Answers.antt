use Rattle.std.proofs.Common.{[], ◌∷◌, refl}
use Rattle.ark_math.proofs.Algebra.Solve.{◌⊗◌, ◌⊕◌, ◌⊖◌, negative, nought, unit}
use Rattle.ark_math.proofs.Algebra.Ring.{ring2}
use Rattle.ark_math_polynomials.proofs.Polynomials.UnivariateLists.{of_list-below}
use Rattle.ark_poly.proofs.laws.univariate.value_of_linear_factor.Goals as goal

pub returns : goal.returns
returns g c =
    let K = g.F.Field.field in
    let x = c.args.point in
    let z = c.args.root in (
      2,
      of_list-below K (K.negated z ∷ K.one ∷ []),
      ring2 K g.met.F.Field.field_laws (λ x z. (x ⊖ z, (nought ⊕ (unit ⊗ negative z)) ⊕ ((x ⊗ unit) ⊗ unit))) refl x z,
    )
