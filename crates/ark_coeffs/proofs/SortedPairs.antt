-- Pairs of exponent and coefficient in rising order: that an order changes no sum, and the sums of like terms one by one.
use Rattle.std.proofs.Common.{◌≡◌, ◌≢◌, ℕ, ◌+◌, ◌<◌, ◌≤◌, List, length, get_or, take, sym, ◌∙◌, ap, ap₂, refl, subst, arith}
use Rattle.std.specs.List.{All}
use Rattle.std.specs.List.Sorted.{IsPermutation, IsNonDecreasingBy}
use Rattle.std.proofs.lemmas.List.{get_or_read}
use Rattle.ark_math.specs.Field.{FieldOn, IsField}
use Rattle.ark_math.specs.Univariate.{added, monomial, of_pairs, IsSparse}
use Rattle.ark_math_polynomials.proofs.Polynomials.Permuted.{total-permutation}
use Rattle.ark_math_polynomials.proofs.Polynomials.Univariate.{coefficients_are_module}
use Rattle.ark_math_polynomials.proofs.Polynomials.UnivariatePairs.{of_pairs-push, take_next, monomial-added, monomial-zero}

module _ {F : Type 0} (K : FieldOn F) (N : IsField K) where
  -- in any order pairs have one sum
  pub of_pairs-permutation : (p q : List (ℕ × F)) → IsPermutation p q → of_pairs K q ≡ of_pairs K p
  of_pairs-permutation p q h = total-permutation N (coefficients_are_module K N) (λ x. monomial K x.0 x.1) (of_pairs K) (λ x p. refl) p q h

  -- ---- like terms, of pairs whose exponents don't fall

  -- the first i pairs are done: those in c, and what is summed up of the exponent n
  pub record IsMerged (p c : List (ℕ × F)) (i n : ℕ) (s : F) : Type 0 where
    pub sparse : IsSparse K c
    pub above : All (λ x. x.0 < n) c
    pub sum : added K (of_pairs K c) (monomial K n s) ≡ of_pairs K (take i p)
    pub next : (k : ℕ) (d : ℕ × F) → i ≤ k → k < length p → n ≤ (get_or p k d).0

  -- one more of the same exponent
  merged_more : (p c : List (ℕ × F)) (i n : ℕ) (s t : F) (x : ℕ × F) → IsMerged p c i n s → i < length p → x ≡ get_or p i x → x.0 ≡ n → t ≡ K.plus s x.1 → IsMerged p c (i + 1) n t
  merged_more p c i n s t x h l e f g = record {
    sparse = h.sparse;
    above = h.above;
    sum =
        let M = coefficients_are_module {I = ℕ} K N in
        ap (λ u. added K (of_pairs K c) (monomial K n u)) g
        ∙ ap (added K (of_pairs K c)) (sym (monomial-added K N n s x.1))
        ∙ sym (M.plus_assoc (of_pairs K c) (monomial K n s) (monomial K n x.1))
        ∙ ap₂ (added K) h.sum (ap (λ u. monomial K u x.1) (sym f))
        ∙ sym (of_pairs-push K N (take i p) x)
        ∙ ap (of_pairs K) (sym (take_next K N p i x l e));
    next = λ k d a b. h.next k d (omega arith) b;
  }

  -- the exponent is done, and the next one begins
  merged_next : (p c e : List (ℕ × F)) (i n : ℕ) (s : F) (x : ℕ × F) → IsMerged p c i n s → IsNonDecreasingBy (λ y. y.0) p → i < length p → x ≡ get_or p i x → x.0 ≢ n → IsSparse K e → of_pairs K e ≡ added K (of_pairs K c) (monomial K n s) → ((m : ℕ) → n < m → All (λ y. y.0 < m) e) → IsMerged p e i x.0 K.zero
  merged_next p c e i n s x h rises l is ne sparse sum below =
      let up : n ≤ (get_or p i x).0 = h.next i x (omega arith) l in
      let same : x.0 ≡ (get_or p i x).0 = ap (λ t. t.0) is in
      record {
        sparse = sparse;
        above = below x.0 (omega arith);
        sum =
            ap (added K (of_pairs K e)) (monomial-zero K N x.0)
            ∙ (coefficients_are_module {I = ℕ} K N).plus_zero (of_pairs K e)
            ∙ sum
            ∙ h.sum;
        next = λ k d a b.
            let r : (get_or p i d).0 ≤ (get_or p k d).0 = rises i k d a b in
            let t : x ≡ get_or p i d = get_or_read p i x l is d in
            let u : x.0 ≡ (get_or p i d).0 = ap (λ v. v.0) t in
            omega arith;
      }

  -- the two ways of a turn of the loop
  pub merged_step_new : (p c e m : List (ℕ × F)) (i n k : ℕ) (s r t : F) (x : ℕ × F) → IsMerged p c i n s → IsNonDecreasingBy (λ y. y.0) p → i < length p → x ≡ get_or p i x → x.0 ≢ n → IsSparse K e → of_pairs K e ≡ added K (of_pairs K c) (monomial K n s) → ((b : ℕ) → n < b → All (λ y. y.0 < b) e) → m ≡ e → k ≡ x.0 → r ≡ K.zero → t ≡ K.plus r x.1 → IsMerged p m (i + 1) k t
  merged_step_new p c e m i n k s r t x h rises l is ne sparse sum below f g j q =
      subst (λ u. IsMerged p u (i + 1) k t) (sym f)
      (merged_more p e i k r t x
      (subst (λ u. IsMerged p e i u r) (sym g) (subst (λ u. IsMerged p e i x.0 u) (sym j) (merged_next p c e i n s x h rises l is ne sparse sum below)))
      l is (sym g) q)

  pub merged_step_same : (p c m : List (ℕ × F)) (i n k : ℕ) (s r t : F) (x : ℕ × F) → IsMerged p c i n s → i < length p → x ≡ get_or p i x → x.0 ≡ n → m ≡ c → k ≡ n → r ≡ s → t ≡ K.plus r x.1 → IsMerged p m (i + 1) k t
  merged_step_same p c m i n k s r t x h l is same f g j q =
      subst (λ u. IsMerged p u (i + 1) k t) (sym f)
      (subst (λ u. IsMerged p c (i + 1) u t) (sym g) (merged_more p c i n s t x h l is same (q ∙ ap (λ u. K.plus u x.1) j)))
