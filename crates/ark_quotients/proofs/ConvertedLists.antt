-- Lists of coefficients and lists of pairs of one polynomial: the room that pairs take, and sums pair by pair.
use Rattle.std.proofs.Common.{◌≡◌, ◌≢◌, ℕ, ◌+◌, ◌-◌, ◌<◌, ◌≤◌, List, length, get_or, set, take, Some, None, sym, ◌∙◌, ap, ap₂, refl, arith, ⊎_elim}
use mathlib.Core.Path.{fun_ext}
use Rattle.std.specs.List.{All, slice_get}
use Rattle.std.proofs.lemmas.Bool.{cases_lt}
use Rattle.std.proofs.lemmas.Option.{get_or_from_slice_get, slice_get_cases}
use Rattle.ark_math.specs.Field.{FieldOn, IsField, minus}
use Rattle.ark_math.specs.Univariate.{added, difference, monomial, of_list, of_pairs, IsSparse}
use Rattle.ark_math.proofs.Algebra.Solve.{◌⊕◌, ◌⊖◌}
use Rattle.ark_math.proofs.Algebra.Ring.{ring3}
use Rattle.ark_math_polynomials.proofs.Polynomials.Univariate.{coefficients_are_module, monomial-same, monomial-other, monomial-opposite}
use Rattle.ark_math_polynomials.proofs.Polynomials.UnivariateLists.{of_list-set}
use Rattle.ark_math_polynomials.proofs.Polynomials.UnivariatePairs.{of_pairs-push, of_pairs-at, take_next}

module _ {F : Type 0} (K : FieldOn F) (N : IsField K) where
  -- a term added to the coefficient of its exponent
  list-term : (c : List F) (k : ℕ) (x y : F) → k < length c → y ≡ K.plus (of_list K c k) x → of_list K (set c k y) ≡ added K (of_list K c) (monomial K k x)
  list-term c k x y l e =
      of_list-set K c k y (added K (of_list K c) (monomial K k x)) l
      (ap (K.plus (of_list K c k)) (monomial-same K k x) ∙ sym e)
      (λ i ne. ap (K.plus (of_list K c i)) (monomial-other K k x i (λ f. ne (sym f))) ∙ N.plus_zero (of_list K c i))

  next : (p : List (ℕ × F)) (i : ℕ) (x : ℕ × F) → i < length p → x ≡ get_or p i x → added K (of_pairs K (take i p)) (monomial K x.0 x.1) ≡ of_pairs K (take (i + 1) p)
  next p i x l is = sym (ap (of_pairs K) (take_next K N p i x l is) ∙ of_pairs-push K N (take i p) x)

  -- one pair more, as a list is written
  pub pair_added : (p : List (ℕ × F)) (i : ℕ) (x : ℕ × F) (a : ℕ → F) (c : List F) (y : F) → i < length p → x ≡ get_or p i x → x.0 < length c → of_list K c ≡ added K a (of_pairs K (take i p)) → y ≡ K.plus (of_list K c x.0) x.1
      → of_list K (set c x.0 y) ≡ added K a (of_pairs K (take (i + 1) p))
  pair_added p i x a c y l is inside e f =
      list-term c x.0 x.1 y inside f
      ∙ ap (λ t. added K t (monomial K x.0 x.1)) e
      ∙ (coefficients_are_module K N).plus_assoc a (of_pairs K (take i p)) (monomial K x.0 x.1)
      ∙ ap (added K a) (next p i x l is)

  pub pair_subtracted : (p : List (ℕ × F)) (i : ℕ) (x : ℕ × F) (a : ℕ → F) (c : List F) (y : F) → i < length p → x ≡ get_or p i x → x.0 < length c → of_list K c ≡ difference K a (of_pairs K (take i p)) → y ≡ minus K (of_list K c x.0) x.1
      → of_list K (set c x.0 y) ≡ difference K a (of_pairs K (take (i + 1) p))
  pair_subtracted p i x a c y l is inside e f =
      list-term c x.0 (K.negated x.1) y inside f
      ∙ ap₂ (added K) e (monomial-opposite K N x.0 x.1)
      ∙ fun_ext (λ k. ring3 K N (λ a p m. ((a ⊖ p) ⊖ m, a ⊖ (p ⊕ m))) refl (a k) (of_pairs K (take i p) k) (monomial K x.0 x.1 k))
      ∙ ap (difference K a) (next p i x l is)

  -- ---- the last pair of a sparse list

  -- the other exponents are below its own
  pub below_last : (p : List (ℕ × F)) (x : ℕ × F) → IsSparse K p → slice_get p (length p - 1) ≡ Some x → All (λ t. t.0 < x.0 + 1) p
  below_last p x h e i d l =
      let last : (get_or p (length p - 1) d).0 ≡ x.0 = ap (λ t. t.0) (get_or_from_slice_get p (length p - 1) x d e) in
      ⊎_elim
      (λ (b : i < length p - 1). let r : (get_or p i d).0 < (get_or p (length p - 1) d).0 = h.rising i (length p - 1) d b (omega arith) in omega arith)
      (λ (b : length p - 1 ≤ i). let s : i ≡ length p - 1 = omega arith in let f : (get_or p i d).0 ≡ (get_or p (length p - 1) d).0 = ap (λ t. (get_or p t d).0) s in omega arith)
      (cases_lt i (length p - 1))

  -- and its coefficient isn't zero
  pub last_not_zero : (p : List (ℕ × F)) (x : ℕ × F) → IsSparse K p → slice_get p (length p - 1) ≡ Some x → of_pairs K p x.0 ≢ K.zero
  last_not_zero p x h e z = ⊎_elim
      (λ found.
      let l : length p - 1 < length p = found.1 in
      let is : get_or p (length p - 1) x ≡ x = get_or_from_slice_get p (length p - 1) x x e in
      h.some (length p - 1) x l
      (sym (of_pairs-at K N p (length p - 1) x h.rising l) ∙ ap (λ t. of_pairs K p t.0) is ∙ z))
      (λ none. let same : None ≡ Some x = sym none.1 ∙ e in cc)
      (slice_get_cases p (length p - 1)).1
