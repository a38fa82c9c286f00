-- Products with x ^ n - c, and division by it: each coefficient from n on is carried down by n places, times c, the
-- highest first.
use Rattle.std.proofs.Common.{◌≡◌, ◌≢◌, ℕ, ◌+◌, ◌-◌, ◌<◌, ◌≤◌, List, ◌++◌, length, get_or, set, take, drop, replicate, sym, ◌∙◌, ap, ap₂, refl, arith, ⊎_elim, get_or-set_same, get_or-set_other}
use mathlib.Core.Path.{fun_ext}
use Rattle.std.proofs.lemmas.Bool.{cases_eq, cases_lt}
use Rattle.std.proofs.lemmas.List.{get_or-drop, get_or-take, get_or-replicate, get_or_append_left, get_or-append_right, length-take, length-replicate}
use Rattle.ark_math.specs.Field.{FieldOn, IsField, minus}
use Rattle.ark_math.specs.Univariate.{added, scaled, difference, monomial, product, IsBelow, of_list}
use Rattle.ark_math.proofs.Algebra.Groups.{itself_is_module, one_times, scale_zero}
use Rattle.ark_math.proofs.Algebra.Solve.{◌⊕◌, ◌⊖◌, ◌⊗◌, nought, negative}
use Rattle.ark_math.proofs.Algebra.Ring.{ring1, ring3, ring3_by}
use Rattle.ark_math_polynomials.proofs.Polynomials.Univariate.{difference-below, monomial-below, monomial-same, monomial-other}
use Rattle.ark_math_polynomials.proofs.Polynomials.UnivariateLists.{of_list-past}
use Rattle.ark_math_polynomials.proofs.Polynomials.UnivariateLoops.{cut, cut-inside, cut-outside}
use Rattle.ark_math_polynomials.proofs.Polynomials.UnivariateProducts.{product_comm, product-difference, constant-product, monomial-product_past, monomial-product_before}

-- x ^ n - c
abbrev pub binomial : {F : Type 0} → FieldOn F → ℕ → F → ℕ → F
binomial K n c = difference K (monomial K n K.one) (monomial K 0 c)

-- what stands from n on
abbrev pub upper : {F : Type 0} → ℕ → (ℕ → F) → ℕ → F
upper n b k = b (k + n)

-- b is a once the places from i on have been carried down
pub record IsCarried {F : Type 0} (K : FieldOn F) (n : ℕ) (c : F) (i : ℕ) (a b : ℕ → F) : Type 0 where
  pub carried : (k : ℕ) → i ≤ k + n → b k ≡ K.plus (a k) (K.times c (b (k + n)))
  pub kept : (k : ℕ) → k + n < i → b k ≡ a k

module _ {F : Type 0} (K : FieldOn F) (N : IsField K) (n : ℕ) (c : F) where
  pub binomial-below : IsBelow K (n + 1) (binomial K n c)
  binomial-below =
      difference-below K N (n + 1) (monomial K n K.one) (monomial K 0 c)
      (monomial-below K n (n + 1) K.one (omega arith))
      (monomial-below K 0 (n + 1) c (omega arith))

  pub binomial-leading : 0 < n → binomial K n c n ≡ K.one
  binomial-leading l =
      ap₂ (minus K) (monomial-same K n K.one) (monomial-other K 0 c n (λ e. omega arith))
      ∙ ring1 K N (λ x. (x ⊖ nought, x)) refl K.one

  -- ---- division

  pub carried-none : (xs : List F) → IsCarried K n c (length xs) (of_list K xs) (of_list K xs)
  carried-none xs = record {
    carried = λ k l.
        sym (ap (λ t. K.plus (of_list K xs k) (K.times c t)) (of_list-past K xs (k + n) l)
        ∙ ap (K.plus (of_list K xs k)) (scale_zero (itself_is_module K N) c)
        ∙ N.plus_zero (of_list K xs k));
    kept = λ k l. refl;
  }

  -- one place more
  pub carried-set : (i : ℕ) (a : ℕ → F) (xs : List F) (x : F) → 0 < n → n ≤ i → i < length xs
      → x ≡ K.plus (of_list K xs (i - n)) (K.times c (of_list K xs i)) → IsCarried K n c (i + 1) a (of_list K xs) → IsCarried K n c i a (of_list K (set xs (i - n) x))
  carried-set i a xs x some l inside e h =
      let other : (k : ℕ) → k ≢ i - n → of_list K (set xs (i - n) x) k ≡ of_list K xs k = λ k ne. get_or-set_other xs (i - n) k x K.zero ne in
      record {
        carried = λ k b. ⊎_elim
            (λ (s : k ≡ i - n).
            let up : k + n ≡ i = omega arith in
            let there : of_list K (set xs (i - n) x) (k + n) ≡ of_list K xs i = other (k + n) (λ f. omega arith) ∙ ap (of_list K xs) up in
            let old : of_list K xs (i - n) ≡ a k = ap (of_list K xs) (sym s) ∙ h.kept k (omega arith) in
            ap (of_list K (set xs (i - n) x)) s
            ∙ get_or-set_same xs (i - n) x K.zero (omega arith)
            ∙ e
            ∙ ap₂ (λ u v. K.plus u (K.times c v)) old (sym there))
            (λ (ne : k ≢ i - n).
            other k ne
            ∙ h.carried k (omega arith)
            ∙ ap (λ t. K.plus (a k) (K.times c t)) (sym (other (k + n) (λ f. omega arith))))
            (cases_eq k (i - n));
        kept = λ k b. other k (λ f. omega arith) ∙ h.kept k (omega arith);
      }

  -- all places: a = the upper part * (x ^ n - c) + the lower one
  carried-all : (i : ℕ) (a b : ℕ → F) → i ≤ n → IsCarried K n c i a b → a ≡ added K (product K (upper n b) (binomial K n c)) (cut K n b)
  carried-all i a b all h = fun_ext (λ k.
      let q = upper n b in
      let y = K.times c (b (k + n)) in
      let is : K.plus (a k) y ≡ b k = sym (h.carried k (omega arith)) in
      let parts : product K q (binomial K n c) k ≡ minus K (product K (monomial K n K.one) q k) y =
      ap (λ t. t k) (product-difference K N q (monomial K n K.one) (monomial K 0 c))
      ∙ ap₂ (λ s t. minus K (s k) (t k)) (product_comm K N q (monomial K n K.one)) (product_comm K N q (monomial K 0 c) ∙ constant-product K N c q) in
      ⊎_elim
      (λ (l : k < n).
      ring3_by K N (λ x y z. (x, (nought ⊖ z) ⊕ y, x ⊕ z, y)) refl (a k) (b k) y is
      ∙ ap₂ (λ s t. K.plus (minus K s y) t) (sym (monomial-product_before K N n K.one q k l)) (sym (cut-inside K n b k l)))
      (λ (l : n ≤ k).
      let e : k - n + n ≡ k = omega arith in
      ring3_by K N (λ x y z. (x, (y ⊖ z) ⊕ nought, x ⊕ z, y)) refl (a k) (b k) y is
      ∙ ap₂ (λ s t. K.plus (minus K s y) t)
      (sym (monomial-product_past K N n K.one q k l ∙ one_times K N (q (k - n)) ∙ ap b e)) (sym (cut-outside K n b k l)))
      (cases_lt k n)
      ∙ sym (ap (λ t. K.plus t (cut K n b k)) parts))

  -- of a list
  pub carried_list : (i : ℕ) (a : ℕ → F) (xs : List F) → i ≤ n → IsCarried K n c i a (of_list K xs)
      → a ≡ added K (product K (of_list K (drop n xs)) (binomial K n c)) (of_list K (take n xs))
  carried_list i a xs all h =
      let above : of_list K (drop n xs) ≡ upper n (of_list K xs) = fun_ext (λ k. let e : n + k ≡ k + n = omega arith in get_or-drop n xs k K.zero ∙ ap (of_list K xs) e) in
      let below : of_list K (take n xs) ≡ cut K n (of_list K xs) =
      fun_ext (λ k. ⊎_elim
      (λ (l : k < n). get_or-take n xs k K.zero l ∙ sym (cut-inside K n (of_list K xs) k l))
      (λ (l : n ≤ k). of_list-past K (take n xs) k (let e = length-take n xs in omega arith) ∙ sym (cut-outside K n (of_list K xs) k l))
      (cases_lt k n)) in
      carried-all i a (of_list K xs) all h ∙ sym (ap₂ (λ s t. added K (product K s (binomial K n c)) t) above below)

  -- ---- products

  -- moved up by n places: the product with x ^ n
  moved_list : (xs : List F) (z : F) → z ≡ K.zero → of_list K (replicate n z ++ xs) ≡ product K (monomial K n K.one) (of_list K xs)
  moved_list xs z e = fun_ext (λ k.
      ap (λ t. get_or (replicate n t ++ xs) k K.zero) e
      ∙ ⊎_elim
      (λ (l : k < n).
      get_or_append_left (replicate n K.zero) xs K.zero k (let e = length-replicate n K.zero in omega arith)
      ∙ get_or-replicate n k K.zero K.zero l
      ∙ sym (monomial-product_before K N n K.one (of_list K xs) k l))
      (λ (l : n ≤ k).
      get_or-append_right (replicate n K.zero) xs n k K.zero (length-replicate n K.zero) l
      ∙ sym (monomial-product_past K N n K.one (of_list K xs) k l ∙ one_times K N (of_list K xs (k - n))))
      (cases_lt k n))

  -- and less c times itself: the product with x ^ n - c
  pub multiplied_list : (xs ys : List F) (z f : F) → z ≡ K.zero → f ≡ K.negated c → ys ≡ replicate n z ++ xs
      → added K (of_list K ys) (scaled K f (of_list K xs)) ≡ product K (of_list K xs) (binomial K n c)
  multiplied_list xs ys z f e h g =
      let a = of_list K xs in
      ap₂ (λ s t. added K s (scaled K t a)) (ap (of_list K) g ∙ moved_list xs z e) h
      ∙ fun_ext (λ k. ring3 K N (λ u c x. (u ⊕ (negative c ⊗ x), u ⊖ (c ⊗ x))) refl (product K (monomial K n K.one) a k) c (a k))
      ∙ ap₂ (difference K) (product_comm K N (monomial K n K.one) a) (sym (constant-product K N c a) ∙ product_comm K N (monomial K 0 c) a)
      ∙ sym (product-difference K N a (monomial K n K.one) (monomial K 0 c))
