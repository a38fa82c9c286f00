-- Sums of two sparse lists of pairs: of the pairs that are left the lowest exponent is taken from both at once.
use Rattle.std.proofs.Common.{◌≡◌, ◌≢◌, ℕ, ◌+◌, ◌<◌, ◌≤◌, ◌⊎◌, List, [], ◌∷◌, length, get_or, Some, sym, ◌∙◌, ap, ap₂, subst, arith, ⊎_elim}
use Rattle.std.specs.List.{All, slice_get}
use Rattle.std.proofs.lemmas.List.Elements.{All-cons}
use Rattle.ark_math.specs.Field.{FieldOn, IsField}
use Rattle.ark_math.specs.Univariate.{nothing, added, scaled, monomial, of_pairs, IsSparse}
use Rattle.ark_math.proofs.Algebra.Groups.{zero_plus, plus_swap, scale_zero}
use Rattle.ark_math_polynomials.proofs.Polynomials.Univariate.{coefficients_are_module, monomial-scaled}
use Rattle.ark_math_polynomials.proofs.Polynomials.UnivariatePairs.{monomial-added, after_first, tail_sparse, sparse-nil}

module _ {F : Type 0} (K : FieldOn F) (N : IsField K) where
  -- ---- the lowest exponent

  from_first : (x : ℕ × F) (p : List (ℕ × F)) (n : ℕ) → IsSparse K (x ∷ p) → n ≤ x.0 → All (λ t. n ≤ t.0) (x ∷ p)
  from_first x p n s l = All-cons (λ t. n ≤ t.0) x p l (λ k d b. let m = after_first K N x p s.rising k d b in omega (arith, l, m))

  -- what isn't above the first exponent is above none
  pub lowest_first : (p : List (ℕ × F)) (x : ℕ × F) (n : ℕ) → IsSparse K p → Some x ≡ slice_get p 0 → n ≤ x.0 → All (λ t. n ≤ t.0) p
  lowest_first [] x n s e l = λ k d b. absurd (omega arith)
  lowest_first (y ∷ p) x n s e l =
      let same : x ≡ y = cc in
      from_first y p n s (subst (λ t. n ≤ t.0) same l)

  -- pairs of another exponent than the lowest are above it
  pub above_lowest : (p q : List (ℕ × F)) (x : ℕ × F) (n : ℕ) → IsSparse K p → p ≡ x ∷ q → x.0 ≢ n → All (λ t. n ≤ t.0) p → All (λ t. n < t.0) p
  above_lowest p q x n s e ne l =
      let first : n ≤ x.0 = subst (All (λ t. n ≤ t.0)) e l 0 x (omega arith) in
      subst (All (λ t. n < t.0)) (sym e)
      (All-cons (λ t. n < t.0) x q (omega (arith, first, ne)) (λ k d b. let m = after_first K N x q (subst (IsSparse K) e s).rising k d b in omega (arith, first, m)))

  pub none_above : (p : List (ℕ × F)) (n : ℕ) → length p ≡ 0 → All (λ t. n < t.0) p
  none_above p n e k d b = absurd (omega (arith, e, b))

  pub above_taken : (p q : List (ℕ × F)) (x : ℕ × F) (n : ℕ) → IsSparse K p → p ≡ x ∷ q → x.0 ≡ n → All (λ t. n < t.0) q
  above_taken p q x n s e same = subst (λ m. All (λ t. m < t.0) q) same (after_first K N x q (subst (IsSparse K) e s).rising)

  pub sparse_taken : (p q : List (ℕ × F)) (x : ℕ × F) → IsSparse K p → p ≡ x ∷ q → IsSparse K q
  sparse_taken p q x s e = tail_sparse K N x q (subst (IsSparse K) e s)

  -- ---- one exponent after the other

  -- the sum a has what is in c, and all of p and s times q, whose exponents are above those in c
  pub record IsLeft (a : ℕ → F) (s : F) (c p q : List (ℕ × F)) : Type 0 where
    pub sparse : IsSparse K c
    pub left : IsSparse K p
    pub right : IsSparse K q
    pub below_left : All (λ x. All (λ t. x.0 < t.0) p) c
    pub below_right : All (λ x. All (λ t. x.0 < t.0) q) c
    pub sum : added K (of_pairs K c) (added K (of_pairs K p) (scaled K s (of_pairs K q))) ≡ a

  pub all_left : (s : F) (p q : List (ℕ × F)) → IsSparse K p → IsSparse K q → IsLeft (added K (of_pairs K p) (scaled K s (of_pairs K q))) s [] p q
  all_left s p q l r = record {
    sparse = sparse-nil K N;
    left = l;
    right = r;
    below_left = λ k d b. absurd (omega arith);
    below_right = λ k d b. absurd (omega arith);
    sum = zero_plus (coefficients_are_module K N) (added K (of_pairs K p) (scaled K s (of_pairs K q)));
  }

  pub none_left : (a : ℕ → F) (s : F) (c p q : List (ℕ × F)) → IsLeft a s c p q → p ≡ [] → q ≡ [] → of_pairs K c ≡ a
  none_left a s c p q h e f =
      let M = coefficients_are_module {I = ℕ} K N in
      sym (M.plus_zero (of_pairs K c))
      ∙ ap (added K (of_pairs K c)) (sym (M.plus_zero (nothing K)) ∙ ap (added K (nothing K)) (sym (scale_zero M s)))
      ∙ ap₂ (λ u v. added K (of_pairs K c) (added K (of_pairs K u) (scaled K s (of_pairs K v)))) (sym e) (sym f)
      ∙ h.sum

  -- n is the lowest of the exponents that are left
  pub done_below : (a : ℕ → F) (s : F) (c p q : List (ℕ × F)) (n : ℕ) → IsLeft a s c p q → ((m : ℕ) → All (λ t. m < t.0) p → All (λ t. m < t.0) q → m < n) → All (λ t. t.0 < n) c
  done_below a s c p q n h lowest k d b = lowest (get_or c k d).0 (h.below_left k d b) (h.below_right k d b)

  pub next_left : (a : ℕ → F) (s e f g : F) (c p q b u v : List (ℕ × F)) (n : ℕ) → IsLeft a s c p q → of_pairs K p ≡ added K (monomial K n e) (of_pairs K u) → of_pairs K q ≡ added K (monomial K n f) (of_pairs K v) → IsSparse K u → IsSparse K v → All (λ t. n < t.0) u → All (λ t. n < t.0) v → IsSparse K b → of_pairs K b ≡ added K (of_pairs K c) (monomial K n g) → ((m : ℕ) → n < m → All (λ t. t.0 < m) b) → g ≡ K.plus e (K.times s f) → IsLeft a s b u v
  next_left a s e f g c p q b u v n h left right su sv au av sb sum below is =
      let M = coefficients_are_module {I = ℕ} K N in
      let C = of_pairs K c in
      let U = of_pairs K u in
      let V = of_pairs K v in
      let m = monomial K n in
      record {
        sparse = sb;
        left = su;
        right = sv;
        below_left = λ k d l i t o. below (get_or u i t).0 (au i t o) k d l;
        below_right = λ k d l i t o. below (get_or v i t).0 (av i t o) k d l;
        sum =
            ap (λ t. added K t (added K U (scaled K s V)))
            (sum ∙ ap (added K C) (ap m is ∙ sym (monomial-added K N n e (K.times s f)) ∙ ap (added K (m e)) (monomial-scaled K N n s f)))
            ∙ M.plus_assoc C (added K (m e) (scaled K s (m f))) (added K U (scaled K s V))
            ∙ ap (added K C) (plus_swap M (m e) (scaled K s (m f)) U (scaled K s V)
            ∙ ap (added K (added K (m e) U)) (sym (M.scale_plus s (m f) V))
            ∙ sym (ap₂ (λ x y. added K x (scaled K s y)) left right))
            ∙ h.sum;
      }

  -- so there are fewer
  pub fewer_left : (p q u v : List (ℕ × F)) (n : ℕ) → ((m : ℕ) → All (λ t. m < t.0) p → All (λ t. m < t.0) q → m < n) → All (λ t. n < t.0) u → All (λ t. n < t.0) v → (u ≡ p) ⊎ (length u < length p) → (v ≡ q) ⊎ (length v < length q) → length u + length v < length p + length q
  fewer_left p q u v n lowest au av left right =
      ⊎_elim
      (λ (e : u ≡ p). ⊎_elim
      (λ (f : v ≡ q). let l : n < n = lowest n (subst (All (λ t. n < t.0)) e au) (subst (All (λ t. n < t.0)) f av) in absurd (omega (arith, l)))
      (λ (l : length v < length q). let m : length u ≡ length p = ap length e in omega (arith, l, m)) right)
      (λ (l : length u < length p). ⊎_elim
      (λ (f : v ≡ q). let m : length v ≡ length q = ap length f in omega (arith, l, m))
      (λ (m : length v < length q). omega (arith, l, m)) right)
      left
