-- Division of a list in place: each place from the divisor's degree on becomes the quotient's coefficient, the highest
-- first, and its multiple of the divisor is subtracted from the places below.
use Rattle.std.proofs.Common.{◌≡◌, ◌≢◌, ℕ, ◌+◌, ◌-◌, ◌<◌, ◌≤◌, List, length, set, take, drop, sym, ◌∙◌, ap, ap₂, refl, arith, ⊎_elim, get_or-set_same, get_or-set_other}
use mathlib.Core.Path.{fun_ext}
use Rattle.std.proofs.lemmas.Bool.{cases_eq, cases_lt}
use Rattle.std.proofs.lemmas.List.{get_or-drop, get_or-take, length-take}
use Rattle.ark_math.specs.Field.{FieldOn, IsField, minus}
use Rattle.ark_math.specs.Univariate.{IsBelow, IsQuotient, nothing, added, difference, monomial, product, of_list}
use Rattle.ark_math.proofs.Algebra.Groups.{itself_is_module, zero_plus, minus_zero}
use Rattle.ark_math.proofs.Algebra.Powers.{times_zero}
use Rattle.ark_math.proofs.Algebra.Solve.{◌⊕◌, ◌⊖◌, ◌⊗◌, negative, unit}
use Rattle.ark_math.proofs.Algebra.Ring.{ring3, ring3_by}
use Rattle.ark_math_polynomials.proofs.Polynomials.Quotients.{quotient_step, step-below}
use Rattle.ark_math_polynomials.proofs.Polynomials.Univariate.{IsBelow-more, coefficients_are_module, monomial-same, monomial-other}
use Rattle.ark_math_polynomials.proofs.Polynomials.UnivariateLists.{of_list-past, of_list-below, of_list-set}
use Rattle.ark_math_polynomials.proofs.Polynomials.UnivariateProducts.{product-added, product-nothing, nothing-product, monomial-monomial, monomial-product_past, monomial-product_before}

-- b is what stands once the places from i on have been divided by d, of degree k: the quotient's coefficients from there
-- on, and what is left of a below
pub record IsDivided {F : Type 0} (K : FieldOn F) (d : ℕ → F) (k i : ℕ) (a b : ℕ → F) : Type 0 where
  pub quotient : ℕ → F
  pub rest : ℕ → F
  pub whole : a ≡ added K (product K quotient d) rest
  pub above : (j : ℕ) → i ≤ j + k → quotient j ≡ b (j + k)
  pub none : (j : ℕ) → j + k < i → quotient j ≡ K.zero
  pub kept : (j : ℕ) → j < i → rest j ≡ b j
  pub between : (j : ℕ) → i ≤ j → j < k → b j ≡ K.zero
  pub below : IsBelow K i rest

module _ {F : Type 0} (K : FieldOn F) (N : IsField K) where
  -- ---- a multiple of a polynomial, moved up, is subtracted coefficient by coefficient

  pub subtracted-none : (a : ℕ → F) (s : ℕ) (f : F) → a ≡ difference K a (product K (monomial K s f) (nothing K))
  subtracted-none a s f =
      sym (ap (difference K a) (product-nothing K N (monomial K s f)) ∙ fun_ext (λ i. minus_zero (itself_is_module K N) (a i)))

  -- as the loops write it
  pub subtracted-as_sum : (a f c : F) → K.plus a (K.times (K.negated f) c) ≡ minus K a (K.times f c)
  subtracted-as_sum a f c = ring3 K N (λ a f c. (a ⊕ (negative f ⊗ c), a ⊖ (f ⊗ c))) refl a f c

  -- e are the coefficients that were subtracted before
  pub subtracted-more : (a e : ℕ → F) (s j : ℕ) (f c x : F) (xs : List F) → s + j < length xs → x ≡ minus K (of_list K xs (s + j)) (K.times f c)
      → of_list K xs ≡ difference K a (product K (monomial K s f) e) → of_list K (set xs (s + j) x) ≡ difference K a (product K (monomial K s f) (added K e (monomial K j c)))
  subtracted-more a e s j f c x xs l is h =
      let n = s + j in
      let m = monomial K s f in
      let y = K.times f c in
      of_list-set K xs n x (difference K a (added K (product K m e) (monomial K n y))) l
      (ap (λ t. minus K (a n) (K.plus (product K m e n) t)) (monomial-same K n y)
      ∙ ring3 K N (λ a p y. (a ⊖ (p ⊕ y), (a ⊖ p) ⊖ y)) refl (a n) (product K m e n) y
      ∙ ap (λ t. minus K (t n) y) (sym h)
      ∙ sym is)
      (λ i ne.
      ap (λ t. minus K (a i) (K.plus (product K m e i) t)) (monomial-other K n y i (λ e. ne (sym e)))
      ∙ ap (minus K (a i)) (N.plus_zero (product K m e i))
      ∙ sym (ap (λ t. t i) h))
      ∙ sym (ap (difference K a) (product-added K N m e (monomial K j c) ∙ ap (added K (product K m e)) (monomial-monomial K N s j f c)))

  -- ---- the division

  pub divided-none : (d : ℕ → F) (k : ℕ) (xs : List F) → IsDivided K d k (length xs) (of_list K xs) (of_list K xs)
  divided-none d k xs = record {
    quotient = nothing K;
    rest = of_list K xs;
    whole = sym (ap (λ t. added K t (of_list K xs)) (nothing-product K N d) ∙ zero_plus (coefficients_are_module K N) (of_list K xs));
    above = λ j l. sym (of_list-past K xs (j + k) l);
    none = λ j l. refl;
    kept = λ j l. refl;
    between = λ j l m. of_list-past K xs j l;
    below = of_list-below K xs;
  }

  -- one place more, of which c is the quotient's coefficient
  divided-more : (d a b e : ℕ → F) (k i : ℕ) (c : F) → k ≤ i → IsBelow K (k + 1) d → K.times c (d k) ≡ b i → e i ≡ c
      → ((j : ℕ) → i < j → e j ≡ b j) → ((j : ℕ) → j < i → e j ≡ difference K b (product K (monomial K (i - k) c) d) j)
      → IsDivided K d k (i + 1) a b → IsDivided K d k i a e
  divided-more d a b e k i c l f is here higher lower h =
      let m = monomial K (i - k) c in
      record {
        quotient = added K h.quotient m;
        rest = difference K h.rest (product K m d);
        whole = quotient_step K N a d h.quotient h.rest (i - k) c h.whole;
        above = λ j b. ⊎_elim
            (λ (s : i ≡ j + k).
            let t : i - k ≡ j = omega arith in
            ap₂ K.plus (h.none j (omega arith)) (ap (λ u. monomial K u c j) t ∙ monomial-same K j c)
            ∙ zero_plus (itself_is_module K N) c
            ∙ sym here
            ∙ ap e s)
            (λ (ne : i ≢ j + k).
            let other : i - k ≢ j = λ u. ne (omega arith) in
            ap₂ K.plus (h.above j (omega arith)) (monomial-other K (i - k) c j other)
            ∙ N.plus_zero _
            ∙ sym (higher (j + k) (omega arith)))
            (cases_eq i (j + k));
        none = λ j b.
            let other : i - k ≢ j = λ u. omega arith in
            ap₂ K.plus (h.none j (omega arith)) (monomial-other K (i - k) c j other) ∙ N.plus_zero K.zero;
        kept = λ j b. ap (λ t. minus K t (product K m d j)) (h.kept j (omega arith)) ∙ sym (lower j b);
        between = λ j b t. absurd (omega arith);
        below = step-below K N d h.rest k i c l f h.below (is ∙ sym (h.kept i (omega arith)));
      }

  -- of a polynomial, what stands below k is all that counts below s + k
  moved_same : (s k j : ℕ) (c : F) (d e : ℕ → F) → ((t : ℕ) → t < k → e t ≡ d t) → j < s + k → product K (monomial K s c) e j ≡ product K (monomial K s c) d j
  moved_same s k j c d e h l = ⊎_elim
      (λ (b : j < s). monomial-product_before K N s c e j b ∙ sym (monomial-product_before K N s c d j b))
      (λ (b : s ≤ j). monomial-product_past K N s c e j b ∙ ap (K.times c) (h (j - s) (omega arith)) ∙ sym (monomial-product_past K N s c d j b))
      (cases_lt j s)

  -- as a list is written: the place becomes c, and c times what the divisor has below its degree is subtracted
  pub divided-set : (d e a : ℕ → F) (k i : ℕ) (c : F) (xs ys : List F) → k ≤ i → i < length xs → IsBelow K (k + 1) d → IsBelow K k e → ((t : ℕ) → t < k → e t ≡ d t)
      → K.times c (d k) ≡ of_list K xs i → of_list K ys ≡ difference K (of_list K (set xs i c)) (product K (monomial K (i - k) c) e)
      → IsDivided K d k (i + 1) a (of_list K xs) → IsDivided K d k i a (of_list K ys)
  divided-set d e a k i c xs ys l inside f g same is ends h =
      let s = i - k in
      let m = monomial K s c in
      let at : (j : ℕ) → of_list K ys j ≡ minus K (of_list K (set xs i c) j) (product K m e j) = λ j. ap (λ t. t j) ends in
      let past : (j : ℕ) → i ≤ j → product K m e j ≡ K.zero = λ j b.
      monomial-product_past K N s c e j (omega arith) ∙ ap (K.times c) (g (j - s) (omega arith)) ∙ times_zero K N c in
      let other : (j : ℕ) → j ≢ i → of_list K (set xs i c) j ≡ of_list K xs j = λ j ne. get_or-set_other xs i j c K.zero ne in
      divided-more d a (of_list K xs) (of_list K ys) k i c l f is
      (at i ∙ ap₂ (minus K) (get_or-set_same xs i c K.zero inside) (past i (omega arith)) ∙ minus_zero (itself_is_module K N) c)
      (λ j b. at j ∙ ap₂ (minus K) (other j (λ u. omega arith)) (past j (omega arith)) ∙ minus_zero (itself_is_module K N) (of_list K xs j))
      (λ j b. at j ∙ ap₂ (minus K) (other j (λ u. omega arith)) (moved_same s k j c d e same (omega arith)))
      h

  -- all places: the list is the remainder, and then the quotient
  pub divided_list : (d a : ℕ → F) (k i : ℕ) (xs : List F) → i ≤ k → IsDivided K d k i a (of_list K xs)
      → a ≡ added K (product K (of_list K (drop k xs)) d) (of_list K (take k xs))
  divided_list d a k i xs l h =
      let high : h.quotient ≡ of_list K (drop k xs) = fun_ext (λ j.
      let e : j + k ≡ k + j = omega arith in
      h.above j (omega arith) ∙ ap (of_list K xs) e ∙ sym (get_or-drop k xs j K.zero)) in
      let low : h.rest ≡ of_list K (take k xs) = fun_ext (λ j. ⊎_elim
      (λ (b : j < i). h.kept j b ∙ sym (get_or-take k xs j K.zero (omega arith)))
      (λ (b : i ≤ j). h.below j b ∙ ⊎_elim
      (λ (s : j < k). sym (get_or-take k xs j K.zero s ∙ h.between j b s))
      (λ (s : k ≤ j). sym (of_list-past K (take k xs) j (let n = length-take k xs in omega arith)))
      (cases_lt j k))
      (cases_lt j i)) in
      h.whole ∙ ap₂ (λ q r. added K (product K q d) r) high low

  -- ---- the quotient's coefficient, and quotient and remainder at last

  pub leading_taken : (x y l : F) → K.times l y ≡ K.one → K.times (K.times x y) l ≡ x
  leading_taken x y l e = ring3_by K N (λ x y l. ((x ⊗ y) ⊗ l, x, x ⊗ (l ⊗ y), x ⊗ unit)) refl x y l (ap (K.times x) e)

  pub divided_quotient : (d a : ℕ → F) (k : ℕ) (y : F) (q r : List F) → K.times (d k) y ≡ K.one → IsBelow K (k + 1) d → length r ≤ k
      → a ≡ added K (product K (of_list K q) d) (of_list K r) → IsQuotient K a d (of_list K q) (of_list K r)
  divided_quotient d a k y q r e f l whole = record {
    finite = (length q, of_list-below K q);
    whole = whole;
    degree = (k, (λ z. N.one_not_zero (sym e ∙ ap (λ t. K.times t y) z ∙ N.times_comm K.zero y ∙ times_zero K N y)), f, IsBelow-more K (length r) k (of_list K r) l (of_list-below K r));
  }
