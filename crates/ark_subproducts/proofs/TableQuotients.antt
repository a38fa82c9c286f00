-- Values at the roots of a product, from quotients by its values at the elements of a table of roots of unity.
use Rattle.std.proofs.Common.{◌≡◌, ℕ, ◌+◌, ◌/◌, ◌<◌, ◌≤◌, List, length, take, drop, sym, refl, ◌∙◌, ap, subst, arith}
use mathlib.Core.Path.{fun_ext}
use Rattle.ark_math.specs.Field.{FieldOn, IsField, minus, power}
use Rattle.ark_math.specs.Univariate.{IsBelow, IsValue, added, of_list, product, value_below}
use Rattle.ark_math.proofs.Algebra.Groups.{one_times}
use Rattle.ark_math.proofs.Algebra.Powers.{times_zero}
use Rattle.ark_math.proofs.Algebra.Ring.{ring3_by}
use Rattle.ark_math.proofs.Algebra.Solve.{◌⊗◌, ◌⊕◌, ◌⊖◌, nought, unit}
use Rattle.ark_math_polynomials.proofs.Polynomials.UnivariateLoops.{cut, cut-inside, cut-outside}
use Rattle.ark_math_polynomials.proofs.Polynomials.UnivariateProducts.{product-below, value-product}
use Rattle.ark_math_polynomials.proofs.Polynomials.UnivariateValues.{has_value, value_below-added, value_is}
use Rattle.ark_math_polynomials.proofs.Polynomials.Zeros.{same_from_values}
use Rattle.ark_bit_reversed.specs.Blocks.{AreFirstValues, AreReversed, IsPowerOfTwo, element_of, size_of}
use Rattle.ark_math_polynomials.specs.Nodes.{nodes}
use Rattle.ark_bit_reversed.proofs.Callers.Runs.{power_at_first, values-product}
use Rattle.ark_bit_reversed.proofs.Callers.Splits.{value_by_halves, value_of_same}
use Rattle.ark_math_points.specs.AtPoints.{AreDifferent, HasValues}
use Rattle.ark_subproducts.specs.Steps.{ArePowers}
use Rattle.ark_subproducts.specs.Tree.{IsMonic}
use Rattle.ark_math_points.proofs.AtPoints.Lagrange.{through_values}
use Rattle.ark_subproducts.proofs.Nodes.{nodes-halves, nodes-zero, nodes_monic}
use Rattle.ark_bit_reversed.proofs.Callers.PowersOfTwo.{some_power}

-- elements in bit-reversed order, all different, as many as a power of two
pub record AreElements {F : Type 0} (K : FieldOn F) (size : ℕ) (x : ℕ → F) : Type 0 where
  pub reversed : AreReversed K size x
  pub different : AreDifferent size x
  pub power : IsPowerOfTwo size

-- at all elements p has the values of the product of m, of degree n, and g
pub record IsProductAt {F : Type 0} (K : FieldOn F) (size n : ℕ) (x m p g u v : ℕ → F) : Type 0 where
  pub room : n ≤ size
  pub monic : IsMonic K n m
  pub divisor : HasValues K size x u m
  pub quotient : HasValues K size x v g
  pub dividend : HasValues K size x (λ i. K.times (u i) (v i)) p
  pub short : IsBelow K size p
  pub below : IsBelow K size g

module _ {F : Type 0} (K : FieldOn F) (N : IsField K) (size n : ℕ) (x m p g u v : ℕ → F) (table : AreElements K size x) (at : IsProductAt K size n x m p g u v) where
  whole : ℕ → F
  whole = product K m g

  high : ℕ → F
  high j = whole (size + j)

  whole_below : IsBelow K (size + size) whole
  unfolding whole
  whole_below i l = product-below K N (n + 1) size m g at.monic.below at.below i (omega (arith, l, at.room, some_power size table.power))

  whole_values : HasValues K size x (λ i. K.times (u i) (v i)) whole
  unfolding whole
  whole_values j b = value-product K N m g (x j) (u j) (v j) (at.divisor j b) (at.quotient j b)

  -- what is past the elements' number counts as what is before
  is_wrapped : (i : ℕ) → i < size → p i ≡ added K whole high i
  unfolding high
  is_wrapped i l =
      let r : ℕ → F = cut K size (added K whole high) in
      ap (λ t. t i)
      (same_from_values K N size p r x at.short (cut-outside K size (added K whole high)) table.different
      (λ j b.
      let z = x j in
      sym (value_is K N size p z (K.times (u j) (v j)) at.short (at.dividend j b))
      ∙ value_is K N (size + size) whole z (K.times (u j) (v j)) whole_below (whole_values j b)
      ∙ value_by_halves K N size whole z K.one (power_at_first K N size size x table.reversed table.power (omega arith) j b)
      ∙ ap (K.plus (value_below K size whole z)) (one_times K N (value_below K size high z))
      ∙ sym (value_below-added K N size whole high z)
      ∙ value_of_same K N size (added K whole high) r z (λ k c. sym (cut-inside K size (added K whole high) k c))))
      ∙ cut-inside K size (added K whole high) i l

  -- where m is zero, p's value is that of what is past the elements' number, times what is left of one without a power
  pub share_of_quotient : (z y : F) → IsValue K m z K.zero → IsValue K (λ j. product K m g (j + size)) z y → IsValue K p z (K.times y (minus K K.one (power K z size)))
  unfolding whole high
  share_of_quotient z y zero_there there =
      let own : F = power K z size in
      let at_low : F = value_below K size whole z in
      let at_high : F = value_below K size high z in
      let high_below : IsBelow K size high = λ j l. whole_below (size + j) (omega (arith, l)) in
      let moved : (λ j. product K m g (j + size)) ≡ high = fun_ext (λ j. (let place : j + size ≡ size + j = omega arith in ap whole place)) in
      let is : at_high ≡ y = sym (value_is K N size high z y high_below (subst (λ a. IsValue K a z y) moved there)) in
      let none : K.plus at_low (K.times own at_high) ≡ K.zero =
      sym (value_by_halves K N size whole z own refl)
      ∙ sym (value_is K N (size + size) whole z (K.times K.zero (value_below K size g z)) whole_below
      (value-product K N m g z K.zero (value_below K size g z) zero_there (has_value K N size g z at.below)))
      ∙ N.times_comm K.zero (value_below K size g z) ∙ times_zero K N (value_below K size g z) in
      subst (IsValue K p z)
      (value_of_same K N size p (added K whole high) z is_wrapped
      ∙ value_below-added K N size whole high z
      ∙ ring3_by K N (λ a t h. (a ⊕ h, h ⊗ (unit ⊖ t), a ⊕ t ⊗ h, nought)) refl at_low own at_high none
      ∙ ap (λ t. K.times t (minus K K.one own)) is)
      (has_value K N size p z at.short)

-- what calls make of a list by the product over points: quotients by its values u, at the points the values ys of what the
-- quotients' polynomial times it has past the elements' number, and these times what is left of one without a power
pub record AreMadeByQuotients {F : Type 0} (K : FieldOn F) (roots points known u v ys zs powers : List F) : Type 0 where
  pub room : length points ≤ size_of roots
  pub divisors : AreFirstValues K roots (size_of roots) (nodes K points) u
  pub len : length v ≡ size_of roots
  pub quotients : (i : ℕ) → i < size_of roots → of_list K known i ≡ K.times (of_list K u i) (of_list K v i)
  pub raised : ArePowers K (size_of roots) points powers
  pub past : (q : ℕ → F) → IsBelow K (size_of roots) q → AreFirstValues K roots (size_of roots) q v
      → HasValues K (length points) (of_list K points) (of_list K ys) (λ j. product K (nodes K points) q (j + size_of roots))
  pub values : (i : ℕ) → i < length points → of_list K zs i ≡ K.times (of_list K ys i) (minus K K.one (of_list K powers i))

module _ {F : Type 0} (K : FieldOn F) (N : IsField K) (roots points : List F) where
  size : ℕ
  size = size_of roots

  -- the values of the product of x - z over points from those over both halves
  pub values_of_whole : (count : ℕ) (low high all : List F) → AreFirstValues K roots count (nodes K (take (length points / 2) points)) low → AreFirstValues K roots count (nodes K (drop (length points / 2) points)) high → length all ≡ length low
      → ((i : ℕ) → i < length low → of_list K all i ≡ K.times (of_list K low i) (of_list K high i)) → AreFirstValues K roots count (nodes K points) all
  values_of_whole count low high all L H len each =
      subst (λ a. AreFirstValues K roots count a all) (nodes-halves K N points (length points / 2))
      (values-product K N (element_of K roots) 0 count (nodes K (take (length points / 2) points)) (nodes K (drop (length points / 2) points)) low high all L H (len ∙ L.len) (λ i l. each i (omega (arith, l, L.len))))

  -- from quotients by these the values at the points
  pub values_by_quotients : (known u v ys zs powers : List F) (p : ℕ → F) → AreElements K (size_of roots) (element_of K roots) → AreMadeByQuotients K roots points known u v ys zs powers → IsBelow K (size_of roots) p → AreFirstValues K roots (size_of roots) p known → HasValues K (length points) (of_list K points) (of_list K zs) p
  unfolding size
  values_by_quotients known u v ys zs powers p table made short P i l =
      let x = element_of K roots in
      let at : (a : ℕ → F) (w : List F) → AreFirstValues K roots size a w → HasValues K size x (of_list K w) a = λ a w h j b.
      (let place : 0 + j ≡ j = omega arith in subst (λ k. IsValue K a (x k) (of_list K w j)) place (h.values j b)) in
      let h = through_values K N x size (of_list K v) table.different in
      let q : ℕ → F = h.0 in
      let z = of_list K points i in
      let y = of_list K ys i in
      subst (IsValue K p z) (ap (λ t. K.times y (minus K K.one t)) (sym (made.raised.each i l)) ∙ sym (made.values i l))
      (share_of_quotient K N size (length points) x (nodes K points) p q (of_list K u) (of_list K v) table
      (record {
        room = made.room;
        monic = nodes_monic K N points;
        divisor = at (nodes K points) u made.divisors;
        quotient = h.2;
        dividend = λ j b. subst (IsValue K p (x j)) (made.quotients j b) (at p known P j b);
        short = short;
        below = h.1;
      })
      z y (nodes-zero K N points i l)
      (made.past q h.1 (record {
        len = made.len;
        values = λ j b. (let place : j ≡ 0 + j = omega arith in subst (λ k. IsValue K q (x k) (of_list K v j)) place (h.2 j b));
      }) i l))
