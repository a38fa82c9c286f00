-- What lists of (exponent, coefficient) denote, and lists whose exponents rise.
use Rattle.std.proofs.Common.{◌≡◌, ◌≢◌, ℕ, zero, suc, ◌+◌, ◌<◌, ◌≤◌, ◌-◌, List, [], ◌∷◌, ◌++◌, length, get_or, take, None, Some, Bool, Decides, ◌==◌, ◌&&◌, sym, ◌∙◌, ap, ap₂, refl, subst, arith, add-one, ⊎_elim}
use mathlib.Core.Path.{fun_ext}
use Rattle.std.specs.List.{AllPairs, All, slice_get}
use Rattle.std.specs.Cmp.Lexicographic.{pointwise}
use Rattle.std.proofs.Math.Seq.{take-suc}
use Rattle.std.proofs.lemmas.Bool.{cases_eq, cases_order, cases_lt}
use Rattle.std.proofs.lemmas.Bool.Decides.{Decides-eqb}
use Rattle.ark_math.proofs.Algebra.Groups.{pair_Decides, itself_is_module, zero_plus, cancel_left}
use Rattle.std.proofs.lemmas.Slice.Eq.{slice_eq-Decides}
use Rattle.std.proofs.lemmas.Option.{get_or_from_slice_get, slice_get_cases}
use Rattle.std.proofs.lemmas.List.{length_push, get_or_push, get_or_append_left, get_or_default}
use Rattle.std.proofs.lemmas.List.Elements.{All-cons}
use Rattle.std.proofs.lemmas.List.Kept.{AllPairs-cons}
use Rattle.ark_math.specs.Field.{FieldOn, IsField, power}
use Rattle.ark_math.specs.Univariate.{nothing, added, difference, monomial, IsDegree, IsValue, of_pairs, IsSparse}
use Rattle.ark_math_polynomials.proofs.Polynomials.Univariate.{coefficients_are_module, monomial-same, monomial-other, monomial-opposite}
use Rattle.ark_math_polynomials.proofs.Polynomials.UnivariateValues.{value-added, value-monomial}

-- ---- sums of pairs in any order

module _ {F : Type 0} (K : FieldOn F) (N : IsField K) where
  pub monomial-zero : (n : ℕ) → monomial K n K.zero ≡ nothing K
  monomial-zero n = fun_ext (λ i. ⊎_elim
      (λ (h : n ≡ i). subst (λ t. monomial K n K.zero t ≡ K.zero) h (monomial-same K n K.zero))
      (λ (ne : n ≢ i). monomial-other K n K.zero i ne)
      (cases_eq n i))

  pub monomial-added : (n : ℕ) (c e : F) → added K (monomial K n c) (monomial K n e) ≡ monomial K n (K.plus c e)
  monomial-added n c e = fun_ext (λ i. ⊎_elim
      (λ (h : n ≡ i).
      subst (λ t. K.plus (monomial K n c t) (monomial K n e t) ≡ monomial K n (K.plus c e) t) h
      (ap₂ K.plus (monomial-same K n c) (monomial-same K n e) ∙ sym (monomial-same K n (K.plus c e))))
      (λ (ne : n ≢ i). ap₂ K.plus (monomial-other K n c i ne) (monomial-other K n e i ne) ∙ N.plus_zero K.zero ∙ sym (monomial-other K n (K.plus c e) i ne))
      (cases_eq n i))

  of_pairs-append : (p q : List (ℕ × F)) → of_pairs K (p ++ q) ≡ added K (of_pairs K p) (of_pairs K q)
  of_pairs-append [] q = sym (zero_plus (coefficients_are_module K N) (of_pairs K q))
  of_pairs-append (x ∷ p) q =
      ap (added K (monomial K x.0 x.1)) (of_pairs-append p q)
      ∙ sym ((coefficients_are_module K N).plus_assoc (monomial K x.0 x.1) (of_pairs K p) (of_pairs K q))

  pub of_pairs-push : (p : List (ℕ × F)) (x : ℕ × F) → of_pairs K (p ++ x ∷ []) ≡ added K (of_pairs K p) (monomial K x.0 x.1)
  of_pairs-push p x = of_pairs-append p (x ∷ []) ∙ ap (added K (of_pairs K p)) ((coefficients_are_module K N).plus_zero (monomial K x.0 x.1))

  value-of_pairs_push : (x : ℕ × F) (p : List (ℕ × F)) (y z : F) → IsValue K (of_pairs K p) y z → IsValue K (of_pairs K (p ++ x ∷ [])) y (K.plus z (K.times (power K y x.0) x.1))
  value-of_pairs_push x p y z h =
      subst (λ t. IsValue K t y (K.plus z (K.times (power K y x.0) x.1))) (sym (of_pairs-push p x))
      (value-added K N (of_pairs K p) (monomial K x.0 x.1) y z (K.times (power K y x.0) x.1) h (value-monomial K N x.0 x.1 y))

  -- two terms
  pub of_pairs-difference : (n : ℕ) (c h : F) → of_pairs K ((0, K.negated h) ∷ (n, c) ∷ []) ≡ difference K (monomial K n c) (monomial K 0 h)
  of_pairs-difference n c h =
      let M = coefficients_are_module {I = ℕ} K N in
      ap (added K (monomial K 0 (K.negated h))) (M.plus_zero (monomial K n c))
      ∙ M.plus_comm (monomial K 0 (K.negated h)) (monomial K n c)
      ∙ ap (added K (monomial K n c)) (monomial-opposite K N 0 h)

  -- the first pairs, and the next one
  pub take_next : (p : List (ℕ × F)) (i : ℕ) (x : ℕ × F) → i < length p → x ≡ get_or p i x → take (i + 1) p ≡ take i p ++ x ∷ []
  take_next p i x l e = ap (λ n. take n p) (add-one i) ∙ take-suc p i x l ∙ ap (λ t. take i p ++ t ∷ []) (sym e)

  pub value-of_pairs_take : (p : List (ℕ × F)) (i : ℕ) (x : ℕ × F) (y z : F) → i < length p → x ≡ get_or p i x → IsValue K (of_pairs K (take i p)) y z → IsValue K (of_pairs K (take (i + 1) p)) y (K.plus z (K.times (power K y x.0) x.1))
  value-of_pairs_take p i x y z l e h = subst (λ t. IsValue K (of_pairs K t) y (K.plus z (K.times (power K y x.0) x.1))) (sym (take_next p i x l e)) (value-of_pairs_push x (take i p) y z h)

  -- ---- one coefficient

  pub of_pairs-absent : (p : List (ℕ × F)) (i : ℕ) → All (λ x. x.0 ≢ i) p → of_pairs K p i ≡ K.zero
  of_pairs-absent [] i h = refl
  of_pairs-absent (x ∷ p) i h =
      ap₂ K.plus (monomial-other K x.0 x.1 i (h 0 x (omega arith))) (of_pairs-absent p i (λ k d l. h (suc k) d (omega arith))) ∙ N.plus_zero K.zero

  pub after_first : (x : ℕ × F) (p : List (ℕ × F)) → AllPairs (λ p q. p.0 < q.0) (x ∷ p) → All (λ y. x.0 < y.0) p
  after_first x p h k d l = h 0 (suc k) d (omega arith) (omega arith)

  later : (x : ℕ × F) (p : List (ℕ × F)) → AllPairs (λ p q. p.0 < q.0) (x ∷ p) → AllPairs (λ p q. p.0 < q.0) p
  later x p h i j d l m = h (suc i) (suc j) d (omega arith) (omega arith)

  pub tail_sparse : (x : ℕ × F) (p : List (ℕ × F)) → IsSparse K (x ∷ p) → IsSparse K p
  tail_sparse x p h = record { rising = later x p h.rising; some = λ k d l. h.some (suc k) d (omega arith) }

  pub of_pairs-first : (x : ℕ × F) (p : List (ℕ × F)) → AllPairs (λ p q. p.0 < q.0) (x ∷ p) → of_pairs K (x ∷ p) x.0 ≡ x.1
  of_pairs-first x p h =
      ap₂ K.plus (monomial-same K x.0 x.1) (of_pairs-absent p x.0 (λ k d l e. let m = after_first x p h k d l in omega arith)) ∙ N.plus_zero x.1

  of_pairs-before : (x : ℕ × F) (p : List (ℕ × F)) (i : ℕ) → AllPairs (λ p q. p.0 < q.0) (x ∷ p) → i < x.0 → of_pairs K (x ∷ p) i ≡ K.zero
  of_pairs-before x p i h l =
      ap₂ K.plus (monomial-other K x.0 x.1 i (λ e. omega arith)) (of_pairs-absent p i (λ k d b e. let m = after_first x p h k d b in omega arith)) ∙ N.plus_zero K.zero

  pub of_pairs-at : (p : List (ℕ × F)) (k : ℕ) (d : ℕ × F) → AllPairs (λ p q. p.0 < q.0) p → k < length p → of_pairs K p (get_or p k d).0 ≡ (get_or p k d).1
  of_pairs-at [] k d h l = absurd (omega arith)
  of_pairs-at (x ∷ p) zero d h l = of_pairs-first x p h
  of_pairs-at (x ∷ p) (suc k) d h l =
      let y = get_or p k d in
      let m = after_first x p h k d (omega arith) in
      ap₂ K.plus (monomial-other K x.0 x.1 y.0 (λ e. omega arith)) (of_pairs-at p k d (later x p h) (omega arith)) ∙ zero_plus (itself_is_module K N) y.1

  -- ---- sparse lists

  pub sparse-nil : IsSparse K []
  sparse-nil = record { rising = λ i j d l m. absurd (omega arith); some = λ k d l. absurd (omega arith) }

  pub sparse-cons : (x : ℕ × F) (p : List (ℕ × F)) → x.1 ≢ K.zero → All (λ y. x.0 < y.0) p → IsSparse K p → IsSparse K (x ∷ p)
  sparse-cons x p ne l h = record {
    rising = AllPairs-cons (λ p q. p.0 < q.0) x p l h.rising;
    some = All-cons (λ y. y.1 ≢ K.zero) x p ne h.some;
  }

  -- sparse lists are equal where they denote one polynomial
  pub same_sparse : (p q : List (ℕ × F)) → IsSparse K p → IsSparse K q → of_pairs K p ≡ of_pairs K q → p ≡ q
  same_sparse [] [] s t e = refl
  same_sparse [] (y ∷ q) s t e = absurd (t.some 0 y (omega arith) (sym (of_pairs-first y q t.rising) ∙ sym (ap (λ f. f y.0) e)))
  same_sparse (x ∷ p) [] s t e = absurd (s.some 0 x (omega arith) (sym (of_pairs-first x p s.rising) ∙ ap (λ f. f x.0) e))
  same_sparse (x ∷ p) (y ∷ q) s t e =
      let a : of_pairs K (x ∷ p) x.0 ≡ x.1 = of_pairs-first x p s.rising in
      let b : of_pairs K (y ∷ q) y.0 ≡ y.1 = of_pairs-first y q t.rising in
      ⊎_elim
      (λ (f : x.0 ≡ y.0).
      let g : x.1 ≡ y.1 = sym a ∙ ap (λ u. u x.0) e ∙ ap (of_pairs K (y ∷ q)) f ∙ b in
      let same : x ≡ y = λ i. (f i, g i) in
      let rest : of_pairs K p ≡ of_pairs K q =
      cancel_left (coefficients_are_module K N) (monomial K x.0 x.1) (of_pairs K p) (of_pairs K q) (e ∙ ap (λ u. added K (monomial K u.0 u.1) (of_pairs K q)) (sym same)) in
      ap₂ (λ u us. u ∷ us) same (same_sparse p q (tail_sparse x p s) (tail_sparse y q t) rest))
      (λ h. ⊎_elim
      (λ (l : x.0 < y.0). absurd (s.some 0 x (omega arith) (sym a ∙ ap (λ u. u x.0) e ∙ of_pairs-before y q x.0 t.rising l)))
      (λ (l : y.0 < x.0). absurd (t.some 0 y (omega arith) (sym b ∙ ap (λ u. u y.0) (sym e) ∙ of_pairs-before x p y.0 s.rising l)))
      h)
      (cases_order x.0 y.0)

  pub sparse_nothing : (p : List (ℕ × F)) → IsSparse K p → of_pairs K p ≡ nothing K → p ≡ []
  sparse_nothing p s e = same_sparse p [] s sparse-nil e

  -- its degree is its last exponent
  sparse_degree : (p : List (ℕ × F)) (k : ℕ) (x : ℕ × F) → IsSparse K p → k + 1 ≡ length p → ((d : ℕ × F) → get_or p k d ≡ x) → IsDegree K (of_pairs K p) x.0
  sparse_degree p k x h l is = record {
    rest = λ i b. of_pairs-absent p i (λ j d m e.
        let last : (get_or p k d).0 ≡ x.0 = ap (λ t. t.0) (is d) in
        ⊎_elim
        (λ (c : j < k). let r : (get_or p j d).0 < (get_or p k d).0 = h.rising j k d c (omega arith) in absurd (omega arith))
        (λ (c : k ≤ j). let s : j ≡ k = omega arith in let f : (get_or p j d).0 ≡ (get_or p k d).0 = ap (λ t. (get_or p t d).0) s in absurd (omega arith))
        (cases_lt j k));
    leading = λ _ e. h.some k x (omega arith) (sym (of_pairs-at p k x h.rising (omega arith)) ∙ ap (λ t. of_pairs K p t.0) (is x) ∙ e);
  }

  pub sparse_last : (p : List (ℕ × F)) (x : ℕ × F) → IsSparse K p → slice_get p (length p - 1) ≡ Some x → IsDegree K (of_pairs K p) x.0
  sparse_last p x h e = ⊎_elim
      (λ found. let some = found.1 in sparse_degree p (length p - 1) x h (omega (arith, some)) (λ d. get_or_from_slice_get p (length p - 1) x d e))
      (λ none. let same : None ≡ Some x = sym none.1 ∙ e in cc)
      (slice_get_cases p (length p - 1)).1

  -- the last pair, and those before it
  pub before_last : (p : List (ℕ × F)) (x : ℕ × F) → IsSparse K (p ++ x ∷ []) → All (λ y. y.0 < x.0) p
  before_last p x h k d l =
      let first : get_or (p ++ x ∷ []) k x ≡ get_or p k x = get_or_append_left p (x ∷ []) x k l in
      let last : get_or (p ++ x ∷ []) (length p) x ≡ x = get_or_push p x x (length p) refl in
      let same : get_or p k d ≡ get_or p k x = get_or_default p k d x l in
      let less : (get_or (p ++ x ∷ []) k x).0 < (get_or (p ++ x ∷ []) (length p) x).0 = h.rising k (length p) x l (omega (arith, length_push p x)) in
      subst (λ t. t.0 < x.0) (first ∙ sym same) (subst (λ t. (get_or (p ++ x ∷ []) k x).0 < t.0) last less)

  pub last_coefficient : (p : List (ℕ × F)) (x : ℕ × F) → IsSparse K (p ++ x ∷ []) → of_pairs K (p ++ x ∷ []) x.0 ≡ x.1
  last_coefficient p x h =
      ap (λ t. t x.0) (of_pairs-push p x)
      ∙ ap₂ K.plus (of_pairs-absent p x.0 (λ k d l e. let m = before_last p x h k d l in omega arith)) (monomial-same K x.0 x.1)
      ∙ zero_plus (itself_is_module K N) x.1

  pub without_last : (p : List (ℕ × F)) (x : ℕ × F) (i : ℕ) → i < x.0 → of_pairs K p i ≡ of_pairs K (p ++ x ∷ []) i
  without_last p x i l =
      sym (ap (λ t. t i) (of_pairs-push p x) ∙ ap (K.plus (of_pairs K p i)) (monomial-other K x.0 x.1 i (λ e. omega arith)) ∙ N.plus_zero (of_pairs K p i))

  pub past_last : (p : List (ℕ × F)) (x : ℕ × F) (i : ℕ) → IsSparse K (p ++ x ∷ []) → x.0 < i → of_pairs K (p ++ x ∷ []) i ≡ K.zero
  past_last p x i h l =
      ap (λ t. t i) (of_pairs-push p x)
      ∙ ap₂ K.plus (of_pairs-absent p i (λ k d b e. let m = before_last p x h k d b in omega arith)) (monomial-other K x.0 x.1 i (λ e. omega arith))
      ∙ N.plus_zero K.zero

  -- ---- tests

  -- a test of sparse lists by one of their pairs
  pub sparse_Decides : {eq : F → F → Bool} → ((a b : F) → Decides (eq a b) (a ≡ b)) → (p q : List (ℕ × F)) → IsSparse K p → IsSparse K q → Decides (pointwise (λ x y. (x.0 == y.0) && eq x.1 y.1) p q) (of_pairs K p ≡ of_pairs K q)
  sparse_Decides decides p q s t =
      let same = slice_eq-Decides (λ x y. pair_Decides (Decides-eqb x.0 y.0) (decides x.1 y.1)) p q _ refl in
      (λ e. ap (of_pairs K) (same.0 e), λ e. same.1 (same_sparse p q s t e))

  no_pairs : (p : List (ℕ × F)) → length p ≡ 0 → p ≡ []
  no_pairs [] e = refl
  no_pairs (x ∷ p) e = absurd (omega arith)

  pub sparse_none_Decides : (p : List (ℕ × F)) (r : Bool) → IsSparse K p → r ≡ (length p == 0) → Decides r (of_pairs K p ≡ nothing K)
  sparse_none_Decides p r s e =
      let d = Decides-eqb (length p) 0 in
      (λ h. ap (of_pairs K) (no_pairs p (d.0 (sym e ∙ h))), λ h. e ∙ d.1 (ap length (sparse_nothing p s h)))
