-- Products with x - z, coefficient by coefficient.
use Rattle.std.proofs.Common.{◌≡◌, ℕ, zero, suc, ◌+◌, ◌-◌, ◌<◌, List, [], ◌∷◌, ◌++◌, length, get_or, take, refl, sym, ◌∙◌, ap, ap₂, arith}
use mathlib.Core.Path.{fun_ext}
use Rattle.std.proofs.lemmas.List.{take_all}
use Rattle.ark_math.specs.Field.{FieldOn, IsField, minus}
use Rattle.ark_math_polynomials.specs.Linear.{linear_factor}
use Rattle.ark_math.specs.Univariate.{IsBelow, difference, monomial, of_list, product}
use Rattle.ark_math.proofs.Algebra.Solve.{◌⊗◌, ◌⊕◌, ◌⊖◌, negative, nought, unit}
use Rattle.ark_math.proofs.Algebra.Ring.{ring1, ring2, ring3, ring4, ring5}
use Rattle.ark_math_polynomials.proofs.Polynomials.Univariate.{monomial-other}
use Rattle.ark_math_polynomials.proofs.Polynomials.UnivariateLists.{of_list-below, of_list-past, of_list-padded}
use Rattle.ark_math_polynomials.proofs.Polynomials.UnivariateProducts.{product_comm, product_assoc, difference-product, monomial-product_before, monomial-product_past, one-product, product-below}
use Rattle.ark_math_polynomials.specs.Nodes.{nodes}

-- with one zero more
pub of_list-pushed_zero : {F : Type 0} (K : FieldOn F) (c : List F) (x : F) → x ≡ K.zero → of_list K (c ++ x ∷ []) ≡ of_list K c
of_list-pushed_zero K c x e =
    ap (λ t. of_list K (t ++ x ∷ [])) (sym (take_all (length c) c (omega arith))) ∙ of_list-padded K c (length c) 1 x (omega arith) e

-- the coefficient before
abbrev pub before : {F : Type 0} → FieldOn F → (ℕ → F) → ℕ → F
before K q zero = K.zero
before K q (suc i) = q i

-- a product with two factors
abbrev pub by_two : {F : Type 0} → FieldOn F → (ℕ → F) → F → F → ℕ → F
by_two K q y z = product K (product K q (linear_factor K y)) (linear_factor K z)

module _ {F : Type 0} (K : FieldOn F) (N : IsField K) where
  factor_is : (z : F) (i : ℕ) → linear_factor K z i ≡ difference K (monomial K 1 K.one) (monomial K 0 z) i
  factor_is z zero = ring2 K N (λ z o. (negative z, nought ⊖ z)) refl z K.one
  factor_is z (suc zero) = ring2 K N (λ z o. (unit, unit ⊖ nought)) refl z K.one
  factor_is z (suc (suc i)) =
      of_list-past K (K.negated z ∷ K.one ∷ []) (suc (suc i)) (omega arith)
      ∙ ring2 K N (λ z o. (nought, nought ⊖ nought)) refl z K.one
      ∙ sym (ap₂ (minus K) (monomial-other K 1 K.one (suc (suc i)) (λ e. omega (arith, e))) (monomial-other K 0 z (suc (suc i)) (λ e. omega (arith, e))))

  linear_factor-is : (z : F) → linear_factor K z ≡ difference K (monomial K 1 K.one) (monomial K 0 z)
  linear_factor-is z = fun_ext (factor_is z)

  pub linear-product : (q : ℕ → F) (z : F) (i : ℕ) → product K q (linear_factor K z) i ≡ minus K (before K q i) (K.times z (q i))
  linear-product q z i =
      ap (λ t. t i) (product_comm K N q (linear_factor K z))
      ∙ ap (λ t. product K t q i) (linear_factor-is z)
      ∙ ap (λ t. t i) (difference-product K N (monomial K 1 K.one) (monomial K 0 z) q)
      ∙ ap₂ (minus K) (moved q i) (same q z i)
    where
      same : (q : ℕ → F) (z : F) (i : ℕ) → product K (monomial K 0 z) q i ≡ K.times z (q i)
      same q z i = let e : i - 0 ≡ i = omega arith in monomial-product_past K N 0 z q i (omega arith) ∙ ap (λ t. K.times z (q t)) e

      moved : (q : ℕ → F) (i : ℕ) → product K (monomial K 1 K.one) q i ≡ before K q i
      moved q zero = monomial-product_before K N 1 K.one q 0 (omega arith)
      moved q (suc i) =
          let e : suc i - 1 ≡ i = omega arith in
          monomial-product_past K N 1 K.one q (suc i) (omega arith) ∙ ap (λ t. K.times K.one (q t)) e ∙ N.times_comm K.one (q i) ∙ N.times_one (q i)

  pub linear-product_first : (q : ℕ → F) (z : F) → product K q (linear_factor K z) 0 ≡ K.negated (K.times z (q 0))
  linear-product_first q z = linear-product q z 0 ∙ ring1 K N (λ x. (nought ⊖ x, negative x)) refl (K.times z (q 0))

  pub linear-product_past : (q : ℕ → F) (z : F) (i : ℕ) → 0 < i → product K q (linear_factor K z) i ≡ minus K (q (i - 1)) (K.times z (q i))
  linear-product_past q z zero l = absurd (omega arith)
  linear-product_past q z (suc i) l =
      let e : suc i - 1 ≡ i = omega arith in linear-product q z (suc i) ∙ ap (λ k. minus K (q k) (K.times z (q (suc i)))) (sym e)

  -- one coefficient more than the list has
  pub linear-product_below : (c : List F) (z : F) → IsBelow K (length c + 1) (product K (of_list K c) (linear_factor K z))
  linear-product_below c z i l =
      product-below K N (length c) 2 (of_list K c) (linear_factor K z) (of_list-below K c) (of_list-below K (K.negated z ∷ K.one ∷ [])) i (omega arith)

  -- with two: none past the list's and two more, the first ones, and the later ones
  pub by_two-below : (c : List F) (y z : F) → IsBelow K (length c + 2) (by_two K (of_list K c) y z)
  by_two-below c y z i l =
      product-below K N (length c + 1) 2 (product K (of_list K c) (linear_factor K y)) (linear_factor K z) (linear-product_below c y) (of_list-below K (K.negated z ∷ K.one ∷ [])) i (omega arith)

  pub by_two-first : (q : ℕ → F) (y z : F) → by_two K q y z 0 ≡ K.times (K.times y z) (q 0)
  by_two-first q y z =
      linear-product_first (product K q (linear_factor K y)) z
      ∙ ap (λ t. K.negated (K.times z t)) (linear-product_first q y)
      ∙ ring3 K N (λ q y z. (negative (z ⊗ negative (y ⊗ q)), (y ⊗ z) ⊗ q)) refl (q 0) y z

  pub by_two-second : (q : ℕ → F) (y z : F) → by_two K q y z 1 ≡ minus K (K.times (K.times y z) (q 1)) (K.times (K.plus y z) (q 0))
  by_two-second q y z =
      linear-product (product K q (linear_factor K y)) z 1
      ∙ ap₂ (λ s t. minus K s (K.times z t)) (linear-product_first q y) (linear-product q y 1)
      ∙ ring4 K N (λ q p y z. (negative (y ⊗ q) ⊖ z ⊗ (q ⊖ y ⊗ p), (y ⊗ z) ⊗ p ⊖ (y ⊕ z) ⊗ q)) refl (q 0) (q 1) y z

  pub by_two-past : (q : ℕ → F) (y z : F) (i : ℕ) → 1 < i → by_two K q y z i ≡ K.plus (minus K (q (i - 2)) (K.times (K.plus y z) (q (i - 1)))) (K.times (K.times y z) (q i))
  by_two-past q y z zero l = absurd (omega arith)
  by_two-past q y z (suc zero) l = absurd (omega arith)
  by_two-past q y z (suc (suc i)) l =
      let second : suc (suc i) - 2 ≡ i = omega arith in
      let next : suc (suc i) - 1 ≡ suc i = omega arith in
      linear-product (product K q (linear_factor K y)) z (suc (suc i))
      ∙ ap₂ (λ s t. minus K s (K.times z t)) (linear-product q y (suc i)) (linear-product q y (suc (suc i)))
      ∙ ring5 K N (λ a b c y z. ((a ⊖ y ⊗ b) ⊖ z ⊗ (b ⊖ y ⊗ c), (a ⊖ (y ⊕ z) ⊗ b) ⊕ (y ⊗ z) ⊗ c)) refl (q i) (q (suc i)) (q (suc (suc i))) y z
      ∙ sym (ap₂ (λ m n. K.plus (minus K (q m) (K.times (K.plus y z) (q n))) (K.times (K.times y z) (q (suc (suc i))))) second next)

  -- ---- products over lists

  pub nodes-joined : (xs ys : List F) → nodes K (xs ++ ys) ≡ product K (nodes K xs) (nodes K ys)
  nodes-joined [] ys = sym (one-product K N (nodes K ys))
  nodes-joined (x ∷ xs) ys =
      ap (product K (linear_factor K x)) (nodes-joined xs ys) ∙ sym (product_assoc K N (linear_factor K x) (nodes K xs) (nodes K ys))

  nodes-one : (x : F) → nodes K (x ∷ []) ≡ linear_factor K x
  nodes-one x = product_comm K N (linear_factor K x) (monomial K 0 K.one) ∙ one-product K N (linear_factor K x)

  -- one more at the end
  nodes-push : (xs : List F) (x : F) → nodes K (xs ++ x ∷ []) ≡ product K (nodes K xs) (linear_factor K x)
  nodes-push xs x = nodes-joined xs (x ∷ []) ∙ ap (product K (nodes K xs)) (nodes-one x)

  take_push : (xs : List F) (i : ℕ) (x : F) → i < length xs → get_or xs i x ≡ x → take (suc i) xs ≡ take i xs ++ x ∷ []
  take_push [] i x l h = absurd (omega arith)
  take_push (y ∷ xs) zero x l h = ap (λ t. t ∷ []) h
  take_push (y ∷ xs) (suc i) x l h = ap (λ t. y ∷ t) (take_push xs i x (omega arith) h)

  -- the next of a list
  pub nodes-next : (xs : List F) (i : ℕ) (x : F) → i < length xs → x ≡ get_or xs i x → nodes K (take (suc i) xs) ≡ product K (nodes K (take i xs)) (linear_factor K x)
  nodes-next xs i x l h = ap (nodes K) (take_push xs i x l (sym h)) ∙ nodes-push (take i xs) x
