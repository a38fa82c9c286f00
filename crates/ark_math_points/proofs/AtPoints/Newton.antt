-- The polynomial through given points, a point at a time, and so that there is one.
use Rattle.std.proofs.Common.{◌≡◌, ◌≢◌, ℕ, zero, suc, ◌+◌, ◌<◌, [], ◌∷◌, refl, sym, ◌∙◌, ap, subst, arith, add-one, below_more}
use Rattle.ark_math.specs.Field.{FieldOn, IsField, minus}
use Rattle.ark_math_polynomials.specs.Linear.{linear_factor}
use Rattle.ark_math.specs.Univariate.{IsBelow, IsValue, added, scaled, nothing, of_list, product, value_below}
use Rattle.ark_math.proofs.Algebra.Powers.{zero_factor}
use Rattle.ark_math.proofs.Algebra.Solve.{◌⊗◌, ◌⊕◌, ◌⊖◌, nought, unit}
use Rattle.ark_math.proofs.Algebra.Ring.{ring1, ring2, ring4}
use Rattle.ark_math_polynomials.proofs.Polynomials.Univariate.{IsBelow-more, added-below, scaled-below}
use Rattle.ark_math_polynomials.proofs.Polynomials.UnivariateLists.{of_list-below}
use Rattle.ark_math_polynomials.proofs.Polynomials.UnivariateProducts.{product-below, value-product}
use Rattle.ark_math_polynomials.proofs.Polynomials.UnivariateValues.{has_value, one_value, value_is, value-added, value-scaled}
use Rattle.ark_math_polynomials.proofs.Callers.Remainders.{constant_value}
use Rattle.ark_math_polynomials.proofs.Polynomials.Zeros.{same_from_values}
use Rattle.ark_math_points.specs.AtPoints.{AreDifferent, HasValues}
use Rattle.ark_math_points.proofs.AtPoints.Basis.{line_value, same_points}

-- p is through the first i points, and v is zero at them and nowhere else
pub record Reached {F : Type 0} (K : FieldOn F) (x y : ℕ → F) (i : ℕ) (p v : ℕ → F) : Type 0 where
  pub below : IsBelow K i p
  pub reach : IsBelow K (i + 1) v
  pub known : HasValues K i x y p
  pub zeros : (j : ℕ) → j < i → IsValue K v (x j) K.zero
  pub elsewhere : (t w : F) → ((j : ℕ) → j < i → x j ≢ t) → IsValue K v t w → w ≢ K.zero

module _ {F : Type 0} (K : FieldOn F) (N : IsField K) (x y : ℕ → F) where
  pub reached-zero : (p v : ℕ → F) → p ≡ nothing K → v ≡ of_list K (K.one ∷ []) → Reached K x y 0 p v
  reached-zero p v e f = record {
    below = λ i l. ap (λ t. t i) e;
    reach = subst (IsBelow K 1) (sym f) (of_list-below K (K.one ∷ []));
    known = λ j l. absurd (omega arith);
    zeros = λ j l. absurd (omega arith);
    elsewhere = λ t w apart h none. N.one_not_zero (one_value K N (of_list K (K.one ∷ [])) t K.one w (constant_value K N K.one t) (subst (λ u. IsValue K u t w) f h) ∙ none);
  }

  at_new : (b k w inverse s : F) → K.times w inverse ≡ K.one → s ≡ K.times (minus K b k) inverse → K.plus k (K.times s w) ≡ b
  at_new b k w inverse s one is =
      ap (λ t. K.plus k (K.times t w)) is
      ∙ ring4 K N (λ b k w i. (k ⊕ ((b ⊖ k) ⊗ i) ⊗ w, k ⊕ (b ⊖ k) ⊗ (w ⊗ i))) refl b k w inverse
      ∙ ap (λ t. K.plus k (K.times (minus K b k) t)) one
      ∙ ring2 K N (λ b k. (k ⊕ (b ⊖ k) ⊗ unit, b)) refl b k

  -- the value at the next point isn't zero
  pub reached-some : (i n : ℕ) (p v : ℕ → F) (w : F) → AreDifferent n x → i < n → Reached K x y i p v → IsValue K v (x i) w → w ≢ K.zero
  reached-some i n p v w different l r node = r.elsewhere (x i) w (λ j b. different j i b l) node

  pub reached-suc : (i : ℕ) (p v : ℕ → F) (k w inverse s : F) (p2 v2 : ℕ → F) → Reached K x y i p v → IsValue K p (x i) k → IsValue K v (x i) w → K.times w inverse ≡ K.one → s ≡ K.times (minus K (y i) k) inverse → p2 ≡ added K p (scaled K s v) → v2 ≡ product K v (linear_factor K (x i)) → Reached K x y (i + 1) p2 v2
  reached-suc i p v k w inverse s p2 v2 r read node one is e f = record {
    below = subst (IsBelow K (i + 1)) (sym e)
        (added-below K N (i + 1) p (scaled K s v) (IsBelow-more K i (i + 1) p (omega arith) r.below) (scaled-below K N (i + 1) v s r.reach));
    reach = subst (IsBelow K (i + 1 + 1)) (sym f)
        (λ m l. product-below K N (i + 1) 2 v (linear_factor K (x i)) r.reach (of_list-below K (K.negated (x i) ∷ K.one ∷ [])) m (omega arith));
    known = below_more _ i
        (λ j l. subst (λ t. IsValue K t (x j) (y j)) (sym e)
        (subst (IsValue K (added K p (scaled K s v)) (x j)) (ring2 K N (λ y s. (y ⊕ s ⊗ nought, y)) refl (y j) s)
        (value-added K N p (scaled K s v) (x j) (y j) (K.times s K.zero) (r.known j l) (value-scaled K N s v (x j) K.zero (r.zeros j l)))))
        (subst (λ t. IsValue K t (x i) (y i)) (sym e)
        (subst (IsValue K (added K p (scaled K s v)) (x i)) (at_new (y i) k w inverse s one is)
        (value-added K N p (scaled K s v) (x i) k (K.times s w) read (value-scaled K N s v (x i) w node))));
    zeros = below_more _ i
        (λ j l.
        let a = minus K (x j) (x i) in
        subst (λ t. IsValue K t (x j) K.zero) (sym f)
        (subst (IsValue K (product K v (linear_factor K (x i))) (x j)) (ring1 K N (λ a. (nought ⊗ a, nought)) refl a)
        (value-product K N v (linear_factor K (x i)) (x j) K.zero a (r.zeros j l) (line_value K N (x i) (x j)))))
        (subst (λ t. IsValue K t (x i) K.zero) (sym f)
        (subst (IsValue K (product K v (linear_factor K (x i))) (x i)) (ring2 K N (λ w a. (w ⊗ (a ⊖ a), nought)) refl w (x i))
        (value-product K N v (linear_factor K (x i)) (x i) w (minus K (x i) (x i)) node (line_value K N (x i) (x i)))));
    elsewhere = λ t u apart h none.
        let old = value_below K (i + 1) v t in
        let there : IsValue K v t old = has_value K N (i + 1) v t r.reach in
        let same : K.times old (minus K t (x i)) ≡ u =
        one_value K N v2 t (K.times old (minus K t (x i))) u
        (subst (λ q. IsValue K q t (K.times old (minus K t (x i)))) (sym f)
        (value-product K N v (linear_factor K (x i)) t old (minus K t (x i)) there (line_value K N (x i) t))) h in
        apart i (omega arith) (sym (same_points K N t (x i)
        (zero_factor K N old (minus K t (x i)) (r.elsewhere t old (λ j l. apart j (omega arith)) there) (same ∙ none))));
  }

  reached : (n : ℕ) → AreDifferent n x → (p : ℕ → F) × (v : ℕ → F) × Reached K x y n p v
  reached zero different = (nothing K, of_list K (K.one ∷ []), reached-zero (nothing K) (of_list K (K.one ∷ [])) refl refl)
  reached (suc n) different =
      let h = reached n (λ i j l b. different i j l (omega arith)) in
      let p = h.0 in
      let v = h.1 in
      let r = h.2 in
      let k = value_below K n p (x n) in
      let w = value_below K (n + 1) v (x n) in
      let node : IsValue K v (x n) w = has_value K N (n + 1) v (x n) r.reach in
      let inverse = N.inverts w (reached-some n (suc n) p v w different (omega arith) r node) in
      let s = K.times (minus K (y n) k) inverse.0 in
      let p2 = added K p (scaled K s v) in
      let v2 = product K v (linear_factor K (x n)) in (
        p2,
        v2,
        subst (λ m. Reached K x y m p2 v2) (add-one n)
            (reached-suc n p v k w inverse.0 s p2 v2 r (has_value K N n p (x n) r.below) node inverse.1 refl refl refl),
      )

  -- at different points there is a polynomial below their number with given values
  pub some_interpolation : (n : ℕ) → AreDifferent n x → (a : ℕ → F) × IsBelow K n a × HasValues K n x y a
  some_interpolation n different = let h = reached n different in (h.0, h.2.below, h.2.known)

  -- and only one
  pub only_interpolation : (n : ℕ) → AreDifferent n x → (a b : ℕ → F) → IsBelow K n a → IsBelow K n b → HasValues K n x y a → HasValues K n x y b → a ≡ b
  only_interpolation n different a b short low here there =
      same_from_values K N n a b x short low different
      (λ i l. sym (value_is K N n a (x i) (y i) short (here i l)) ∙ value_is K N n b (x i) (y i) low (there i l))
