-- What a division by x - z leaves: the remainder theorem, the factor theorem, and the quotient of an opening.
use Rattle.std.proofs.Common.{◌≡◌, ◌≢◌, ℕ, zero, suc, ◌<◌, ◌⊎◌, inl, inr, [], ◌∷◌, refl, sym, ◌∙◌, ap, subst, arith}
use mathlib.Core.Path.{fun_ext}
use Rattle.std.proofs.lemmas.Bool.{cases_lt}
use Rattle.ark_math.specs.Field.{FieldOn, IsField}
use Rattle.ark_math_polynomials.specs.Linear.{constant, linear_factor}
use Rattle.ark_math.specs.Univariate.{IsBelow, IsDegree, IsQuotient, IsValue, added, opposite, nothing, product, value_below}
use Rattle.ark_math.proofs.Algebra.Solve.{◌⊗◌, ◌⊕◌, ◌⊞◌, ◌⊟◌, negative, nought, unit}
use Rattle.ark_math.proofs.Algebra.Ring.{ring1, ring2, module0_2}
use Rattle.ark_math_polynomials.proofs.Polynomials.Quotients.{one_quotient}
use Rattle.ark_math_polynomials.proofs.Polynomials.Univariate.{coefficients_are_module, nothing_from_below, one_degree, IsBelow-more}
use Rattle.ark_math_polynomials.proofs.Polynomials.UnivariateLists.{of_list-past}
use Rattle.ark_math_polynomials.proofs.Polynomials.UnivariateProducts.{value-product}
use Rattle.ark_math_polynomials.proofs.Polynomials.UnivariateValues.{has_value, one_value, value-added, value-opposite, value-of_list}

module _ {F : Type 0} (K : FieldOn F) where
  -- a remainder is zero, or its degree is smaller than the divisor's
  pub smaller_degree : (a d q r : ℕ → F) (m e : ℕ) → IsQuotient K a d q r → IsDegree K d m → IsDegree K r e → (r ≡ nothing K) ⊎ (e < m)
  smaller_degree a d q r m e h M E =
      let k = h.degree.0 in
      let same : k ≡ m = one_degree K d k m (record { rest = h.degree.2; leading = λ _. h.degree.1 }) M in
      elim (cases_lt e m) [
        | inl l ↦ inr l
        | inr l ↦ elim (cases_lt 0 e) [
          | inl p ↦ absurd (E.leading p (h.degree.3 e (omega arith)))
          | inr z ↦ inl (nothing_from_below K r (λ i b. h.degree.3 i (omega arith)))
        ]
      ]

  linear_below : (z : F) → IsBelow K 2 (linear_factor K z)
  linear_below z k l = of_list-past K (K.negated z ∷ K.one ∷ []) k l

  constant_below : (y : F) → IsBelow K 1 (constant K y)
  constant_below y k l = of_list-past K (y ∷ []) k l

  rest_below : (a q r : ℕ → F) (z : F) → IsQuotient K a (linear_factor K z) q r → IsBelow K 1 r
  rest_below a q r z h = elim (cases_lt h.degree.0 2) [
    | inl l ↦ IsBelow-more K h.degree.0 1 r (omega arith) h.degree.3
    | inr l ↦ absurd (h.degree.1 (linear_below z h.degree.0 l))
  ]

  first_alone : (r : ℕ → F) → IsBelow K 1 r → (i : ℕ) → r i ≡ constant K (r 0) i
  first_alone r below zero = refl
  first_alone r below (suc i) = below (suc i) (omega arith) ∙ sym (constant_below (r 0) (suc i) (omega arith))

module _ {F : Type 0} (K : FieldOn F) (N : IsField K) where
  -- it isn't zero
  pub linear_not_zero : (z : F) → linear_factor K z ≢ nothing K
  linear_not_zero z e = N.one_not_zero (ap (λ f. f 1) e)

  -- and has the root z
  pub linear_root : (z : F) → IsValue K (linear_factor K z) z K.zero
  linear_root z =
      subst (IsValue K (linear_factor K z) z)
      (ring1 K N (λ c. ((nought ⊕ unit ⊗ negative c) ⊕ (c ⊗ unit) ⊗ unit, nought)) refl z)
      (value-of_list K N (K.negated z ∷ K.one ∷ []) z)

  pub constant_value : (y x : F) → IsValue K (constant K y) x y
  constant_value y x =
      subst (IsValue K (constant K y) x)
      (ring1 K N (λ y. (nought ⊕ unit ⊗ y, y)) refl y)
      (value-of_list K N (y ∷ []) x)

  -- a product with x - z, and a constant: its value at z is the constant
  value_at_root : (q : ℕ → F) (n : ℕ) (z y : F) → IsBelow K n q → IsValue K (added K (product K q (linear_factor K z)) (constant K y)) z y
  value_at_root q n z y finite =
      let w = value_below K n q z in
      subst (IsValue K (added K (product K q (linear_factor K z)) (constant K y)) z) (ring2 K N (λ w y. (w ⊗ nought ⊕ y, y)) refl w y)
      (value-added K N (product K q (linear_factor K z)) (constant K y) z (K.times w K.zero) y
      (value-product K N q (linear_factor K z) z w K.zero (has_value K N n q z finite) (linear_root z)) (constant_value y z))

  -- the remainder theorem: what is left by x - z is the value at z
  pub remainder_is_value : (a q r : ℕ → F) (z y : F) → IsQuotient K a (linear_factor K z) q r → IsValue K a z y → r ≡ constant K y
  remainder_is_value a q r z y h v =
      let rest : r ≡ constant K (r 0) = fun_ext (first_alone K r (rest_below K a q r z h)) in
      let whole : a ≡ added K (product K q (linear_factor K z)) (constant K (r 0)) = h.whole ∙ ap (added K (product K q (linear_factor K z))) rest in
      let at : IsValue K a z (r 0) = subst (λ t. IsValue K t z (r 0)) (sym whole) (value_at_root q h.finite.0 z (r 0) h.finite.1) in
      rest ∙ ap (constant K) (one_value K N a z (r 0) y at v)

  -- so p = q (x - z) + p(z)
  pub whole_at : (a q r : ℕ → F) (z y : F) → IsQuotient K a (linear_factor K z) q r → IsValue K a z y → a ≡ added K (product K q (linear_factor K z)) (constant K y)
  whole_at a q r z y h v = h.whole ∙ ap (added K (product K q (linear_factor K z))) (remainder_is_value a q r z y h v)

  quotient_at : (a p : ℕ → F) (n : ℕ) (z y : F) → IsBelow K n p → a ≡ added K (product K p (linear_factor K z)) (constant K y) → IsQuotient K a (linear_factor K z) p (constant K y)
  quotient_at a p n z y finite whole = record {
    finite = (n, finite);
    whole = whole;
    degree = (1, N.one_not_zero, linear_below K z, constant_below K y);
  }

  -- for no other q
  pub one_quotient_at : (a q r p : ℕ → F) (n : ℕ) (z y : F) → IsQuotient K a (linear_factor K z) q r → IsBelow K n p → a ≡ added K (product K p (linear_factor K z)) (constant K y) → p ≡ q
  one_quotient_at a q r p n z y h finite whole = (one_quotient K N a (linear_factor K z) p (constant K y) q r (quotient_at a p n z y finite whole) h).0

  constant_zero : constant K K.zero ≡ nothing K
  constant_zero = fun_ext (λ i. sym (first_alone K (nothing K) (λ k l. refl) i))

  -- the factor theorem: where z is a root, x - z divides
  pub root_divides : (a q r : ℕ → F) (z : F) → IsQuotient K a (linear_factor K z) q r → IsValue K a z K.zero → a ≡ product K q (linear_factor K z)
  root_divides a q r z h root =
      whole_at a q r z K.zero h root
      ∙ ap (added K (product K q (linear_factor K z))) constant_zero
      ∙ (coefficients_are_module K N).plus_zero (product K q (linear_factor K z))

  -- and only there
  pub divided_root : (a q : ℕ → F) (n : ℕ) (z : F) → IsBelow K n q → a ≡ product K q (linear_factor K z) → IsValue K a z K.zero
  divided_root a q n z finite whole =
      subst (λ t. IsValue K t z K.zero)
      (ap (added K (product K q (linear_factor K z))) constant_zero ∙ (coefficients_are_module K N).plus_zero (product K q (linear_factor K z)) ∙ sym whole)
      (value_at_root q n z K.zero finite)

  -- an opening: what is left of a polynomial without its value at z has the root z
  pub opened_root : (a s : ℕ → F) (z y : F) → IsValue K a z y → s ≡ added K a (opposite K (constant K y)) → IsValue K s z K.zero
  opened_root a s z y v e =
      subst (λ t. IsValue K t z K.zero) (sym e)
      (subst (IsValue K (added K a (opposite K (constant K y))) z) (N.plus_negated y)
      (value-added K N a (opposite K (constant K y)) z y (K.negated y) v (value-opposite K N (constant K y) z y (constant_value y z))))

  -- and with the value it is the polynomial again
  pub opened_back : (a s k : ℕ → F) → s ≡ added K a (opposite K k) → a ≡ added K s k
  opened_back a s k e =
      sym (ap (λ t. added K t k) e ∙ module0_2 N (coefficients_are_module K N) (λ a k. ((a ⊟ k) ⊞ k, a)) refl a k)
