-- Sums of weights times products without a factor, and the derivative of such a product.
use Rattle.std.proofs.Common.{◌≡◌, ℕ, zero, suc, ◌+◌, ◌-◌, ◌<◌, ◌≤◌, List, [], ◌∷◌, ◌++◌, length, take, drop, refl, sym, ◌∙◌, ap, ap₂, subst, arith}
use mathlib.Core.Path.{fun_ext}
use Rattle.std.proofs.lemmas.List.{get_or-append_right, get_or_append_left, length-take-le, take-append-drop}
use Rattle.ark_math.specs.Field.{FieldOn, IsField, minus, natural}
use Rattle.ark_math_polynomials.specs.Linear.{linear_factor}
use Rattle.ark_math.specs.Univariate.{IsBelow, IsValue, added, monomial, of_list, product, scaled}
use Rattle.ark_math.proofs.Algebra.Solve.{◌⊗◌, ◌⊕◌, ◌⊖◌, nought, unit}
use Rattle.ark_math.proofs.Algebra.Ring.{ring1, ring2, ring3, ring4}
use Rattle.ark_math_polynomials.proofs.Callers.Remainders.{linear_root}
use Rattle.ark_math_polynomials.proofs.Polynomials.Univariate.{added-below, scaled-below, nothing-below}
use Rattle.ark_math_polynomials.proofs.Polynomials.UnivariateLists.{of_list-below}
use Rattle.ark_math_polynomials.proofs.Polynomials.UnivariateProducts.{product_comm, product_assoc, product-added, added-product, product-below, one-product, nothing-product, constant-product, value-product}
use Rattle.ark_math_polynomials.proofs.Polynomials.UnivariateValues.{has_value, one_value, value-added, value-scaled}
use Rattle.ark_math_polynomials.proofs.Polynomials.LinearFactors.{linear-product, nodes-joined}
use Rattle.ark_subproducts.proofs.Nodes.{cofactor, cofactor-below, nodes-below, nodes-zero}
use Rattle.ark_math_polynomials.specs.Nodes.{nodes}
use Rattle.ark_subproducts.specs.Tree.{derived, weighed}

module _ {F : Type 0} (K : FieldOn F) (N : IsField K) where
  scaled-product : (c : F) (a b : ℕ → F) → scaled K c (product K a b) ≡ product K (scaled K c a) b
  scaled-product c a b =
      sym (constant-product K N c (product K a b))
      ∙ (sym (product_assoc K N (monomial K 0 c) a b) ∙ ap (λ t. product K t b) (constant-product K N c a))

  pub weighed-below : (zs : List F) (w : ℕ → F) → IsBelow K (length zs) (weighed K zs w)
  weighed-below [] w = nothing-below K 0
  weighed-below (z ∷ zs) w =
      added-below K N (suc (length zs)) (scaled K (w 0) (nodes K zs)) (product K (linear_factor K z) (weighed K zs (λ i. w (suc i))))
      (λ i l. scaled-below K N (length zs + 1) (nodes K zs) (w 0) (nodes-below K N zs) i (omega arith))
      (λ i l. product-below K N 2 (length zs) (linear_factor K z) (weighed K zs (λ i. w (suc i))) (of_list-below K (K.negated z ∷ K.one ∷ [])) (weighed-below zs (λ i. w (suc i))) i (omega arith))

  four : (p q r s : ℕ → F) → added K p (added K q r) ≡ added K (added K p q) r
  four p q r s = fun_ext (λ i. ring3 K N (λ x y z. (x ⊕ (y ⊕ z), (x ⊕ y) ⊕ z)) refl (p i) (q i) (r i))

  swapped : (l a b : ℕ → F) → product K l (product K a b) ≡ product K a (product K l b)
  swapped l a b = sym (product_assoc K N l a b) ∙ (ap (λ t. product K t b) (product_comm K N l a) ∙ product_assoc K N a l b)

  pub weighed-joined : (xs ys : List F) (w : ℕ → F) → weighed K (xs ++ ys) w ≡ added K (product K (weighed K xs w) (nodes K ys)) (product K (weighed K ys (λ i. w (length xs + i))) (nodes K xs))
  weighed-joined [] ys w =
      let e : w ≡ (λ i. w (0 + i)) = fun_ext (λ i. (let e : i ≡ 0 + i = omega arith in ap w e)) in
      ap (weighed K ys) e
      ∙ (sym (product_comm K N (weighed K ys (λ i. w (0 + i))) (monomial K 0 K.one) ∙ one-product K N (weighed K ys (λ i. w (0 + i))))
      ∙ (fun_ext (λ i. ring1 K N (λ x. (x, nought ⊕ x)) refl (product K (weighed K ys (λ i. w (0 + i))) (monomial K 0 K.one) i))
      ∙ ap (λ t. added K t (product K (weighed K ys (λ i. w (0 + i))) (monomial K 0 K.one))) (sym (nothing-product K N (nodes K ys)))))
  weighed-joined (x ∷ xs) ys w =
      let l : ℕ → F = linear_factor K x in
      let v : ℕ → F = λ i. w (suc i) in
      let e : (λ i. v (length xs + i)) ≡ (λ i. w (suc (length xs) + i)) = fun_ext (λ i. (let e : suc (length xs + i) ≡ suc (length xs) + i = omega arith in ap w e)) in
      let a : ℕ → F = weighed K xs v in
      let b : ℕ → F = weighed K ys (λ i. v (length xs + i)) in
      let n : ℕ → F = nodes K ys in
      let m : ℕ → F = nodes K xs in
      ap₂ (λ s t. added K (scaled K (w 0) s) (product K l t)) (nodes-joined K N xs ys) (weighed-joined xs ys v)
      ∙ (ap₂ (added K) (scaled-product (w 0) m n) (product-added K N l (product K a n) (product K b m))
      ∙ (four (product K (scaled K (w 0) m) n) (product K l (product K a n)) (product K l (product K b m)) n
      ∙ ap₂ (added K)
      (ap (added K (product K (scaled K (w 0) m) n)) (sym (product_assoc K N l a n)) ∙ sym (added-product K N (scaled K (w 0) m) (product K l a) n))
      (swapped l b m ∙ ap (λ t. product K (weighed K ys t) (product K l m)) e)))

  -- as many weights as there are in the list count
  pub weighed-same : (zs : List F) (w v : ℕ → F) → ((i : ℕ) → i < length zs → w i ≡ v i) → weighed K zs w ≡ weighed K zs v
  weighed-same [] w v h = refl
  weighed-same (z ∷ zs) w v h =
      ap₂ (λ s t. added K (scaled K s (nodes K zs)) (product K (linear_factor K z) t)) (h 0 (omega arith))
      (weighed-same zs (λ i. w (suc i)) (λ i. v (suc i)) (λ i l. h (suc i) (omega arith)))

  -- of two parts, and their weights
  pub weighed-parts : (xs ys us vs : List F) → length us ≡ length xs → added K (product K (weighed K xs (of_list K us)) (nodes K ys)) (product K (weighed K ys (of_list K vs)) (nodes K xs)) ≡ weighed K (xs ++ ys) (of_list K (us ++ vs))
  weighed-parts xs ys us vs same =
      ap₂ (λ s t. added K (product K s (nodes K ys)) (product K t (nodes K xs)))
      (weighed-same xs (of_list K us) (of_list K (us ++ vs)) (λ i b. sym (get_or_append_left us vs K.zero i (omega (arith, b, same)))))
      (weighed-same ys (of_list K vs) (λ i. of_list K (us ++ vs) (length xs + i)) (λ i b.
      let place : i ≡ length xs + i - length xs = omega arith in
      ap (of_list K vs) place ∙ sym (get_or-append_right us vs (length xs) (length xs + i) K.zero same (omega arith))))
      ∙ sym (weighed-joined xs ys (of_list K (us ++ vs)))

  -- of the parts before h and from there on
  pub weighed-halves : (zs ws : List F) (h : ℕ) → h ≤ length zs → length ws ≡ length zs
      → added K (product K (weighed K (take h zs) (of_list K (take h ws))) (nodes K (drop h zs))) (product K (weighed K (drop h zs) (of_list K (drop h ws))) (nodes K (take h zs))) ≡ weighed K zs (of_list K ws)
  weighed-halves zs ws h l same =
      weighed-parts (take h zs) (drop h zs) (take h ws) (drop h ws) (length-take-le h ws (omega (arith, l, same)) ∙ sym (length-take-le h zs l))
      ∙ ap₂ (λ t u. weighed K t (of_list K u)) (take-append-drop h zs) (take-append-drop h ws)

  -- at one of the list: its weight times what the others make there
  pub weighed-value : (zs : List F) (w : ℕ → F) (i : ℕ) (d : F) → i < length zs → IsValue K (cofactor K N zs i) (of_list K zs i) d → IsValue K (weighed K zs w) (of_list K zs i) (K.times (w i) d)
  unfolding cofactor
  weighed-value [] w i d l h = absurd (omega arith)
  weighed-value (z ∷ zs) w zero d l h =
      let rest : ℕ → F = weighed K zs (λ i. w (suc i)) in
      let there = has_value K N (length zs) rest z (weighed-below zs (λ i. w (suc i))) in
      subst (IsValue K (weighed K (z ∷ zs) w) z)
      (ring2 K N (λ a b. (a ⊕ (nought ⊗ b), a)) refl (K.times (w 0) d) _)
      (value-added K N (scaled K (w 0) (nodes K zs)) (product K (linear_factor K z) rest) z (K.times (w 0) d) _
      (value-scaled K N (w 0) (nodes K zs) z d h)
      (value-product K N (linear_factor K z) rest z K.zero _ (linear_root K N z) there))
  weighed-value (z ∷ zs) w (suc i) d l h =
      let x : F = of_list K zs i in
      let rest : ℕ → F = weighed K zs (λ i. w (suc i)) in
      let c : ℕ → F = cofactor K N zs i in
      let line = has_value K N 2 (linear_factor K z) x (of_list-below K (K.negated z ∷ K.one ∷ [])) in
      let own = has_value K N (length zs) c x (cofactor-below K N zs i (omega arith)) in
      let e = one_value K N (product K (linear_factor K z) c) x d _ h (value-product K N (linear_factor K z) c x _ _ line own) in
      subst (IsValue K (weighed K (z ∷ zs) w) x)
      (ring4 K N (λ a b t s. ((a ⊗ nought) ⊕ (t ⊗ (b ⊗ s)), b ⊗ (t ⊗ s))) refl (w 0) (w (suc i)) _ _ ∙ ap (K.times (w (suc i))) (sym e))
      (value-added K N (scaled K (w 0) (nodes K zs)) (product K (linear_factor K z) rest) x (K.times (w 0) K.zero) _
      (value-scaled K N (w 0) (nodes K zs) x K.zero (nodes-zero K N zs i (omega arith)))
      (value-product K N (linear_factor K z) rest x _ _ line (weighed-value zs (λ i. w (suc i)) i _ (omega arith) own)))

  derived_item : (c : ℕ → F) (z : F) (i : ℕ) → derived K (product K c (linear_factor K z)) i ≡ added K c (product K (λ j. K.times (natural K (suc j)) (c (suc j))) (linear_factor K z)) i
  derived_item c z i = ap (K.times (natural K (suc i))) (linear-product K N c z (suc i)) ∙ step i
    where
      step : (i : ℕ) → K.times (natural K (suc i)) (minus K (c i) (K.times z (c (suc i)))) ≡ added K c (product K (λ j. K.times (natural K (suc j)) (c (suc j))) (linear_factor K z)) i
      step zero =
          ring3 K N (λ a z b. ((nought ⊕ unit) ⊗ (a ⊖ (z ⊗ b)), a ⊕ (nought ⊖ (z ⊗ ((nought ⊕ unit) ⊗ b))))) refl (c 0) z (c 1)
          ∙ ap (K.plus (c 0)) (sym (linear-product K N (λ j. K.times (natural K (suc j)) (c (suc j))) z 0))
      step (suc i) =
          ring4 K N (λ n a z b. ((n ⊕ unit) ⊗ (a ⊖ (z ⊗ b)), a ⊕ ((n ⊗ a) ⊖ (z ⊗ ((n ⊕ unit) ⊗ b))))) refl (natural K (suc i)) (c (suc i)) z (c (suc (suc i)))
          ∙ ap (K.plus (c (suc i))) (sym (linear-product K N (λ j. K.times (natural K (suc j)) (c (suc j))) z (suc i)))

  -- the slope at a root is the value of what is left without it
  pub slope-value : (m c : ℕ → F) (n : ℕ) (z d : F) → IsBelow K n c → m ≡ product K c (linear_factor K z) → IsValue K c z d → IsValue K (derived K m) z d
  slope-value m c n z d below is h =
      let rest : ℕ → F = λ j. K.times (natural K (suc j)) (c (suc j)) in
      let there = has_value K N n rest z (λ j l. ap (K.times (natural K (suc j))) (below (suc j) (omega arith)) ∙ ring1 K N (λ x. (x ⊗ nought, nought)) refl (natural K (suc j))) in
      subst (λ t. IsValue K t z d) (sym (ap (derived K) is ∙ fun_ext (derived_item c z)))
      (subst (IsValue K (added K c (product K rest (linear_factor K z))) z)
      (ring2 K N (λ a b. (a ⊕ (b ⊗ nought), a)) refl d _)
      (value-added K N c (product K rest (linear_factor K z)) z d _ h (value-product K N rest (linear_factor K z) z _ K.zero there (linear_root K N z))))
