-- The polynomial with given values at 0, 1, .., d, and its value at a point, by those through fewer of the values.
use Rattle.std.proofs.Common.{◌≡◌, ◌≢◌, ℕ, suc, ◌+◌, ◌-◌, ◌<◌, ◌≤◌, List, [], ◌∷◌, length, refl, sym, ◌∙◌, ap, subst, arith, ⊎_elim}
use Rattle.std.proofs.lemmas.Bool.{cases_eq}
use Rattle.ark_math.specs.Field.{FieldOn, IsField, minus, natural}
use Rattle.ark_math_polynomials.specs.Linear.{linear_factor}
use Rattle.ark_math.specs.Univariate.{IsBelow, IsValue, added, difference, of_list, product, scaled, value_below}
use Rattle.ark_math.proofs.Algebra.Powers.{natural-add}
use Rattle.ark_math.proofs.Algebra.Solve.{negative, nought, unit, ◌⊕◌, ◌⊖◌, ◌⊗◌}
use Rattle.ark_math.proofs.Algebra.Ring.{ring1, ring2, ring2_by, ring3, ring4}
use Rattle.ark_math_polynomials.proofs.Polynomials.Univariate.{IsBelow-more, added-below, difference-below, scaled-below}
use Rattle.ark_math_polynomials.proofs.Polynomials.UnivariateLists.{of_list-below}
use Rattle.ark_math_polynomials.proofs.Polynomials.UnivariateProducts.{product-below, value-product}
use Rattle.ark_math_polynomials.proofs.Polynomials.UnivariateValues.{has_value, one_value, value_is, value-added, value-difference, value-of_list, value-scaled}
use Rattle.ark_math_polynomials.proofs.Polynomials.Zeros.{same_from_values}
use Rattle.ark_sum_check.specs.Rounds.{AreDifferent, IsThrough, IsValueThrough}

-- y is the value at x of a polynomial with the values v i, .., v (i + k) at i, .., i + k, and of degree k at most
pub record IsPart {F : Type 0} (K : FieldOn F) (v : ℕ → F) (k i : ℕ) (x y : F) : Type 0 where
  pub p : ℕ → F
  pub below : IsBelow K (suc k) p
  pub values : (j : ℕ) → i ≤ j → j ≤ i + k → IsValue K p (natural K j) (v j)
  pub value : IsValue K p x y

-- p + (x - z) c (q - p)
abbrev joined : {F : Type 0} → FieldOn F → (ℕ → F) → (ℕ → F) → F → F → ℕ → F
joined K p q z c = added K p (product K (scaled K c (linear_factor K z)) (difference K q p))

module _ {F : Type 0} (K : FieldOn F) (N : IsField K) where
  linear_value : (z x : F) → IsValue K (linear_factor K z) x (minus K x z)
  linear_value z x =
      subst (IsValue K (linear_factor K z) x)
      (ring2 K N (λ z x. ((nought ⊕ unit ⊗ negative z) ⊕ (x ⊗ unit) ⊗ unit, x ⊖ z)) refl z x)
      (value-of_list K N (K.negated z ∷ K.one ∷ []) x)

  -- one value
  IsPart-one : (v : ℕ → F) (i : ℕ) (x : F) → IsPart K v 0 i x (v i)
  IsPart-one v i x =
      let p = of_list K (v i ∷ []) in
      let at : (t : F) → IsValue K p t (v i) = λ t.
      subst (IsValue K p t) (ring1 K N (λ y. (nought ⊕ unit ⊗ y, y)) refl (v i)) (value-of_list K N (v i ∷ []) t) in
      record {
        p = p;
        below = of_list-below K (v i ∷ []);
        values = λ j l m. let e : i ≡ j = omega arith in subst (λ y. IsValue K p (natural K j) y) (ap v e) (at (natural K j));
        value = at x;
      }

  joined-value : (p q : ℕ → F) (z c t a b : F) → IsValue K p t a → IsValue K q t b → IsValue K (joined K p q z c) t (K.plus a (K.times (K.times (minus K t z) c) (minus K b a)))
  joined-value p q z c t a b f g =
      subst (λ s. IsValue K (joined K p q z c) t (K.plus a (K.times s (minus K b a)))) (N.times_comm c (minus K t z))
      (value-added K N p (product K (scaled K c (linear_factor K z)) (difference K q p)) t a (K.times (K.times c (minus K t z)) (minus K b a)) f
      (value-product K N (scaled K c (linear_factor K z)) (difference K q p) t (K.times c (minus K t z)) (minus K b a)
      (value-scaled K N c (linear_factor K z) t (minus K t z) (linear_value z t))
      (value-difference K N q p t b a g f)))

  joined-below : (k : ℕ) (p q : ℕ → F) (z c : F) → IsBelow K (suc k) p → IsBelow K (suc k) q → IsBelow K (suc (suc k)) (joined K p q z c)
  joined-below k p q z c f g =
      let l = scaled K c (linear_factor K z) in
      let e : 2 + suc k - 1 ≡ suc (suc k) = omega arith in
      added-below K N (suc (suc k)) p (product K l (difference K q p))
      (IsBelow-more K (suc k) (suc (suc k)) p (omega arith) f)
      (subst (λ n. IsBelow K n (product K l (difference K q p))) e
      (product-below K N 2 (suc k) l (difference K q p)
      (scaled-below K N 2 (linear_factor K z) c (of_list-below K (K.negated z ∷ K.one ∷ [])))
      (difference-below K N (suc k) q p g f)))

  -- one value more, by two neighbours
  IsPart-more : (v : ℕ → F) (k i : ℕ) (x y z c : F) → K.times (natural K (suc k)) c ≡ K.one → IsPart K v k i x y → IsPart K v k (suc i) x z
      → IsPart K v (suc k) i x (K.plus y (K.times (K.times (minus K x (natural K i)) c) (minus K z y)))
  IsPart-more v k i x y z c inverse f g =
      let r = joined K f.p g.p (natural K i) c in
      let first : IsValue K r (natural K i) (v i) =
      subst (IsValue K r (natural K i))
      (ring4 K N (λ a b c n. (a ⊕ ((n ⊖ n) ⊗ c) ⊗ (b ⊖ a), a)) refl (v i) (value_below K (suc k) g.p (natural K i)) c (natural K i))
      (joined-value f.p g.p (natural K i) c (natural K i) (v i) (value_below K (suc k) g.p (natural K i)) (f.values i (omega arith) (omega arith)) (has_value K N (suc k) g.p (natural K i) g.below)) in
      let middle : (j : ℕ) → suc i ≤ j → j ≤ i + k → IsValue K r (natural K j) (v j) = λ j l m.
      subst (IsValue K r (natural K j))
      (ring2 K N (λ a s. (a ⊕ s ⊗ (a ⊖ a), a)) refl (v j) (K.times (minus K (natural K j) (natural K i)) c))
      (joined-value f.p g.p (natural K i) c (natural K j) (v j) (v j) (f.values j (omega arith) m) (g.values j l (omega arith))) in
      let n = i + suc k in
      let w = value_below K (suc k) f.p (natural K n) in
      let far : K.times (minus K (natural K n) (natural K i)) c ≡ K.one =
      ap (λ s. K.times (minus K s (natural K i)) c) (natural-add K N i (suc k))
      ∙ ring3 K N (λ a b c. (((a ⊕ b) ⊖ a) ⊗ c, b ⊗ c)) refl (natural K i) (natural K (suc k)) c
      ∙ inverse in
      let last : IsValue K r (natural K n) (v n) =
      subst (IsValue K r (natural K n))
      (ap (λ s. K.plus w (K.times s (minus K (v n) w))) far ∙ ring2 K N (λ a b. (a ⊕ unit ⊗ (b ⊖ a), b)) refl w (v n))
      (joined-value f.p g.p (natural K i) c (natural K n) w (v n) (has_value K N (suc k) f.p (natural K n) f.below) (g.values n (omega arith) (omega arith))) in
      record {
        p = r;
        below = joined-below k f.p g.p (natural K i) c f.below g.below;
        values = λ j l m. ⊎_elim
            (λ (e : j ≡ i). subst (λ h. IsValue K r (natural K h) (v h)) (sym e) first)
            (λ (ne : j ≢ i). ⊎_elim
            (λ (e : j ≡ i + suc k). subst (λ h. IsValue K r (natural K h) (v h)) (sym e) last)
            (λ (no : j ≢ i + suc k). middle j (omega arith) (omega arith))
            (cases_eq j (i + suc k)))
            (cases_eq j i);
        value = joined-value f.p g.p (natural K i) c x y z f.value g.value;
      }

  -- all of them
  IsPart-all : (values : List F) (k : ℕ) (x y : F) → suc k ≡ length values → IsPart K (of_list K values) k 0 x y → IsValueThrough K values x y
  IsPart-all values k x y e h = (
    h.p,
    record { below = subst (λ n. IsBelow K n h.p) e h.below; takes = λ i l. h.values i (omega arith) (omega arith) },
    h.value,
  )

  -- there is one such polynomial, where the points are different
  pub one_through : (values : List F) (p q : ℕ → F) → AreDifferent K (length values) → IsThrough K values p → IsThrough K values q → p ≡ q
  one_through values p q different f g =
      same_from_values K N (length values) p q (natural K) f.below g.below
      (λ i j l m e.
      let far : i + (j - i) ≡ j = omega arith in
      different (j - i) (omega arith) (omega arith)
      (ring2_by K N (λ a b. (b, nought, a ⊕ b, a)) refl (natural K i) (natural K (j - i)) (sym (natural-add K N i (j - i)) ∙ ap (natural K) far ∙ sym e)))
      (λ i l.
      sym (value_is K N (length values) p (natural K i) (of_list K values i) f.below (f.takes i l))
      ∙ value_is K N (length values) q (natural K i) (of_list K values i) g.below (g.takes i l))

  pub one_value_through : (values : List F) (x y z : F) → AreDifferent K (length values) → IsValueThrough K values x y → IsValueThrough K values x z → y ≡ z
  one_value_through values x y z different f g =
      one_value K N g.0 x y z (subst (λ p. IsValue K p x y) (one_through values f.0 g.0 different f.1 g.1) f.2) g.2

-- ---- rows of such values

-- the values at x of the polynomials through n of the values each, from every place on
pub record IsRow {F : Type 0} (K : FieldOn F) (values : List F) (x : F) (n : ℕ) (partials : List F) : Type 0 where
  pub len : length partials ≡ length values
  pub parts : (i : ℕ) → i + n ≤ length values → IsPart K (of_list K values) (n - 1) i x (of_list K partials i)
  pub different : AreDifferent K n

-- the next value in place i, by those in places i and i + 1
abbrev pub neighbours : {F : Type 0} → FieldOn F → F → F → (ℕ → F) → ℕ → F
neighbours K x c a i = K.plus (a i) (K.times (K.times (minus K x (natural K i)) c) (minus K (a (i + 1)) (a i)))

module _ {F : Type 0} (K : FieldOn F) (N : IsField K) where
  pub IsRow-begin : (values : List F) (x : F) (partials : List F) → partials ≡ values → IsRow K values x 1 partials
  IsRow-begin values x partials e = record {
    len = ap length e;
    parts = λ i l. subst (λ r. IsPart K (of_list K values) 0 i x (of_list K r i)) (sym e) (IsPart-one K N (of_list K values) i x);
    different = λ i l m. absurd (omega arith);
  }

  pub IsRow-more : (values : List F) (x : F) (n : ℕ) (partials next : List F) (c : F) → 0 < n → n < length values → K.times (natural K n) c ≡ K.one → IsRow K values x n partials → length next ≡ length partials
      → ((i : ℕ) → i < length values - n → of_list K next i ≡ neighbours K x c (of_list K partials) i) → IsRow K values x (n + 1) next
  IsRow-more values x n partials next c some few inverse h len is = record {
    len = len ∙ h.len;
    parts = λ i l.
        let k = n - 1 in
        let e : suc k ≡ n = omega arith in
        let f : suc k ≡ n + 1 - 1 = omega arith in
        let s : i + 1 ≡ suc i = omega arith in
        subst (λ m. IsPart K (of_list K values) m i x (of_list K next i)) f
        (subst (IsPart K (of_list K values) (suc k) i x) (sym (is i (omega arith)))
        (IsPart-more K N (of_list K values) k i x (of_list K partials i) (of_list K partials (i + 1)) c (ap (λ m. K.times (natural K m) c) e ∙ inverse)
        (h.parts i (omega arith))
        (subst (λ m. IsPart K (of_list K values) k m x (of_list K partials (i + 1))) s (h.parts (i + 1) (omega arith)))));
    different = λ i l m. ⊎_elim
        (λ (e : i ≡ n). λ z. N.one_not_zero
        (sym inverse ∙ ap (λ m. K.times (natural K m) c) (sym e) ∙ ap (λ y. K.times y c) z ∙ ring1 K N (λ c. (nought ⊗ c, nought)) refl c))
        (λ (ne : i ≢ n). h.different i l (omega arith))
        (cases_eq i n);
  }

  pub IsRow-end : (values : List F) (x : F) (n : ℕ) (partials : List F) (y : F) → 0 < length values → n ≡ length values → y ≡ of_list K partials 0 → IsRow K values x n partials → IsValueThrough K values x y
  IsRow-end values x n partials y some e is h =
      IsPart-all K N values (n - 1) x y (omega arith) (subst (IsPart K (of_list K values) (n - 1) 0 x) (sym is) (h.parts 0 (omega arith)))
