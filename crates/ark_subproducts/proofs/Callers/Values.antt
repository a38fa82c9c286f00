-- Values at the points of a subproduct tree: of what is left by the product of x - z over them, and of sums of weights times the
-- products over the others.
use Rattle.std.proofs.Common.{◌≡◌, ◌≢◌, ℕ, ◌<◌, List, length, refl, sym, ◌∙◌, ap, subst, arith}
use Rattle.ark_math.specs.Field.{FieldOn, IsField}
use Rattle.ark_math.specs.Univariate.{IsQuotient, IsValue, added, of_list, product}
use Rattle.ark_math.proofs.Algebra.Ring.{ring2}
use Rattle.ark_math.proofs.Algebra.Solve.{◌⊗◌, ◌⊕◌, nought}
use Rattle.ark_math_polynomials.proofs.Polynomials.UnivariateProducts.{value-product}
use Rattle.ark_math_polynomials.proofs.Polynomials.UnivariateValues.{has_value, one_value, value-added}
use Rattle.ark_math_points.specs.AtPoints.{AreDifferent, HasValues}
use Rattle.ark_math_polynomials.specs.Nodes.{nodes}
use Rattle.ark_subproducts.specs.Tree.{derived, weighed}
use Rattle.ark_subproducts.proofs.Nodes.{cofactor, cofactor-below, cofactor-other, cofactor-whole, nodes-zero}
use Rattle.ark_subproducts.proofs.Weighed.{slope-value, weighed-value}

module _ {F : Type 0} (K : FieldOn F) (N : IsField K) where
  -- where the divisor is zero
  value_of_remainder : (a d q r : ℕ → F) (z y : F) → IsQuotient K a d q r → IsValue K d z K.zero → IsValue K r z y → IsValue K a z y
  value_of_remainder a d q r z y h root there =
      let at_q = has_value K N h.finite.0 q z h.finite.1 in
      subst (λ t. IsValue K t z y) (sym h.whole)
      (subst (IsValue K (added K (product K q d) r) z)
      (ring2 K N (λ q y. ((q ⊗ nought) ⊕ y, y)) refl _ y)
      (value-added K N (product K q d) r z _ y (value-product K N q d z _ K.zero at_q root) there))

  -- values at points of what is left by the product of x - z over them
  pub values_of_remainder : (a r : ℕ → F) (d : ℕ → F) (points ys : List F) → d ≡ nodes K points → ((q : ℕ → F) × IsQuotient K a d q r) → HasValues K (length points) (of_list K points) (of_list K ys) r → HasValues K (length points) (of_list K points) (of_list K ys) a
  values_of_remainder a r d points ys is h values i l =
      value_of_remainder a d h.0 r (of_list K points i) (of_list K ys i) h.1
      (subst (λ t. IsValue K t (of_list K points i) K.zero) (sym is) (nodes-zero K N points i l)) (values i l)

  -- weights that make the y of the slopes make a polynomial with these values
  pub weighed_values : (zs : List F) (w s y : ℕ → F) → HasValues K (length zs) (of_list K zs) s (derived K (nodes K zs)) → ((i : ℕ) → i < length zs → K.times (w i) (s i) ≡ y i) → HasValues K (length zs) (of_list K zs) y (weighed K zs w)
  weighed_values zs w s y slopes make i l =
      let z : F = of_list K zs i in
      let rest : ℕ → F = cofactor K N zs i in
      let own = has_value K N (length zs) rest z (cofactor-below K N zs i l) in
      let slope = slope-value K N (nodes K zs) rest (length zs) z _ (cofactor-below K N zs i l) (cofactor-whole K N zs i l) own in
      let same = one_value K N (derived K (nodes K zs)) z (s i) _ (slopes i l) slope in
      subst (IsValue K (weighed K zs w) z) (ap (K.times (w i)) (sym same) ∙ make i l) (weighed-value K N zs w i _ l own)

  -- where no slope is zero no two of the list are one
  pub slopes_differ : (zs : List F) (s : ℕ → F) → HasValues K (length zs) (of_list K zs) s (derived K (nodes K zs)) → ((i : ℕ) → i < length zs → s i ≢ K.zero) → AreDifferent (length zs) (of_list K zs)
  slopes_differ zs s slopes some i j l b e =
      let z : F = of_list K zs i in
      let first : i < length zs = omega arith in
      let rest : ℕ → F = cofactor K N zs i in
      let none : IsValue K rest z K.zero = subst (λ t. IsValue K rest t K.zero) (sym e) (cofactor-other K N zs i j first b (λ same. omega (arith, same, l))) in
      some i first (one_value K N (derived K (nodes K zs)) z (s i) K.zero (slopes i first)
      (slope-value K N (nodes K zs) rest (length zs) z K.zero (cofactor-below K N zs i first) (cofactor-whole K N zs i first) none))
