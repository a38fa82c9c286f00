-- The tables that maps hold, entry by entry, and what is left of one when variables are bound.
use Rattle.std.proofs.Common.{◌≡◌, ◌≢◌, ℕ, ◌+◌, ◌/◌, ◌%◌, ◌<◌, ◌≤◌, ◌^◌, List, [], ◌∷◌, length, get_or, set, take, nat_eq, Some, Result, Ok, Err, IfOk, IfErr, unwrap_or, ◌==◌, if◌then◌else◌, sym, ◌∙◌, ap, ap₂, refl, subst, arith, eq-eqb, ne_eqb, ⊎_elim}
use mathlib.Core.Path.{fun_ext}
use Rattle.std.specs.Cmp.{nat_eq_equiv}
use Rattle.std.specs.List.{IsDistinct}
use Rattle.std.specs.Map.{lookup, keys_of}
use Rattle.std.specs.declared.hash.FoldHasher.{FoldHasher}
use Rattle.std.specs.declared.hash.BuildHasherDefault.{BuildHasherDefault}
use Rattle.std.specs.HashMap.{HashMap, Updates, IsUnique}
use Rattle.std.specs.List.Sorted.{IsSearchInRange, IsBinarySearchResult, IsNonDecreasingBy}
use Rattle.std.specs.Ordering.{nat_cmp, ordering_index}
use Rattle.std.proofs.lemmas.Cmp.{ranked}
use Rattle.std.proofs.lemmas.Bool.{cases_eq, cases_lt}
use Rattle.std.proofs.lemmas.Bool.Decides.{nat_tests}
use Rattle.std.proofs.lemmas.List.{get_or_read, get_or-take, length-take}
use Rattle.std.proofs.lemmas.Map.{lookup-none}
use Rattle.std.proofs.lemmas.Map.Keys.{IsDistinct-tail}
use Rattle.std.proofs.lemmas.Map.Entries.{lookup_head, lookup_tail, none_past_head}
use Rattle.ark_math.specs.Field.{FieldOn, IsField}
use Rattle.ark_math_variables.specs.Multilinear.{fixed, weight, written}
use Rattle.ark_math.specs.Univariate.{nothing, of_list, of_pairs, added, monomial, IsSparse}
use Rattle.ark_math.proofs.Algebra.Groups.{itself_is_module, zero_plus}
use Rattle.ark_math_polynomials.proofs.Polynomials.Univariate.{monomial-same, monomial-other}
use Rattle.ark_math_polynomials.proofs.Polynomials.UnivariateLists.{of_list-set}
use Rattle.ark_math_polynomials.proofs.Polynomials.UnivariatePairs.{monomial-zero, monomial-added, of_pairs-at, of_pairs-absent, of_pairs-push, take_next}
use Rattle.ark_math_variables.proofs.Polynomials.Multilinear.{fixed-added, fixed-monomial}
use Rattle.ark_math_variables.proofs.Polynomials.Tables.{written-push}
use Rattle.ark_tables.specs.Held.{held}

-- a map from indices to values
abbrev Values : Type 0 → Type 0
Values F = HashMap ℕ F (BuildHasherDefault FoldHasher)

module _ {F : Type 0} (K : FieldOn F) (N : IsField K) where
  of_distinct : (es : List (ℕ × F)) (b : ℕ) → IsDistinct nat_eq (keys_of es) → of_pairs K es b ≡ unwrap_or (lookup (nat_eq b) es) K.zero
  of_distinct [] b d = refl
  of_distinct (e ∷ es) b d =
      let rest = of_distinct es b (IsDistinct-tail nat_eq e.0 (keys_of es) d) in
      ⊎_elim
      (λ (same : b ≡ e.0).
      let test = eq-eqb b e.0 same in
      ap₂ K.plus (ap (monomial K e.0 e.1) same ∙ monomial-same K e.0 e.1)
      (rest ∙ ap (λ o. unwrap_or o K.zero) (lookup-none (nat_eq b) es (none_past_head nat_eq_equiv b e es d test)))
      ∙ N.plus_zero e.1
      ∙ ap (λ o. unwrap_or o K.zero) (sym (lookup_head (nat_eq b) e es test)))
      (λ (ne : b ≢ e.0).
      ap₂ K.plus (monomial-other K e.0 e.1 b (λ f. ne (sym f))) rest
      ∙ zero_plus (itself_is_module K N) (unwrap_or (lookup (nat_eq b) es) K.zero)
      ∙ ap (λ o. unwrap_or o K.zero) (sym (lookup_tail (nat_eq b) e es (ne_eqb b e.0 ne))))
      (cases_eq b e.0)

  -- the sum of a map's entries
  pub of_entries : (m : Values F) → IsUnique nat_eq m → of_pairs K m.entries ≡ held K m
  of_entries m u = fun_ext (λ b. of_distinct m.entries b u)

  pub held-empty : (m : Values F) → m.entries ≡ [] → held K m ≡ nothing K
  held-empty m e = ap (λ es b. unwrap_or (lookup (nat_eq b) es) K.zero) e

  put_same : (m n : Values F) (k : ℕ) (v : F) → Updates nat_eq m n k (Some v) → held K n k ≡ v
  put_same m n k v h = ap (λ o. unwrap_or o K.zero) h.1

  put_other : (m n : Values F) (k b : ℕ) (v : F) → Updates nat_eq m n k (Some v) → k ≢ b → held K n b ≡ held K m b
  put_other m n k b v h ne = ap (λ o. unwrap_or o K.zero) (h.2 b (ne_eqb k b ne))

  -- a pair is written
  pub held-written : (m n : Values F) (ps : List (ℕ × F)) (i : ℕ) (p : ℕ × F) → i < length ps → p ≡ get_or ps i p → held K m ≡ written K.zero (take i ps) → Updates nat_eq m n p.0 (Some p.1) → held K n ≡ written K.zero (take (i + 1) ps)
  held-written m n ps i p l is e h = fun_ext (λ b.
      ⊎_elim
      (λ (same : p.0 ≡ b).
      subst (λ t. held K n t ≡ (if p.0 == t then p.1 else written K.zero (take i ps) t)) same
      (put_same m n p.0 p.1 h ∙ ap (λ t. if t then p.1 else written K.zero (take i ps) p.0) (sym (eq-eqb p.0 p.0 refl))))
      (λ (ne : p.0 ≢ b).
      put_other m n p.0 b p.1 h ne
      ∙ ap (λ t. t b) e
      ∙ ap (λ t. if t then p.1 else written K.zero (take i ps) b) (sym (ne_eqb p.0 b ne)))
      (cases_eq p.0 b)
      ∙ sym (written-push K.zero (take i ps) p b)
      ∙ ap (λ t. written K.zero t b) (sym (take_next K N ps i p l is)))

  -- one more entry is bound
  bound_more : (es : List (ℕ × F)) (p : List F) (i : ℕ) (e : ℕ × F) (k : ℕ) (w : F) (s t : ℕ → F) → s ≡ fixed K (of_pairs K (take i es)) p → i < length es → e ≡ get_or es i e
      → k ≡ e.0 / 2 ^ length p → w ≡ K.times e.1 (weight K p (e.0 % 2 ^ length p)) → t ≡ added K s (monomial K k w) → t ≡ fixed K (of_pairs K (take (i + 1) es)) p
  bound_more es p i e k w s t h l is f g j =
      j
      ∙ ap₂ (added K) h (ap₂ (monomial K) f g ∙ sym (fixed-monomial K N e.0 e.1 p))
      ∙ sym (fixed-added K N (of_pairs K (take i es)) (monomial K e.0 e.1) p)
      ∙ ap (λ u. fixed K u p) (sym (of_pairs-push K N (take i es) e) ∙ ap (of_pairs K) (sym (take_next K N es i e l is)))

  pub nothing_more : (n : ℕ) → added K (nothing K) (monomial K n K.zero) ≡ nothing K
  nothing_more n = ap (added K (nothing K)) (monomial-zero K N n) ∙ fun_ext (λ b. N.plus_zero K.zero)

  -- a sum that waits beside a table is put into it, and a new one begins
  pub sum_put : (h t : ℕ → F) (n k : ℕ) (s z : F) → t ≡ added K h (monomial K n s) → z ≡ K.zero → added K t (monomial K k z) ≡ added K h (monomial K n s)
  sum_put h t n k s z e none = ap₂ (added K) e (ap (monomial K k) none ∙ monomial-zero K N k) ∙ fun_ext (λ b. N.plus_zero (K.plus (h b) (monomial K n s b)))

  -- one more entry is bound into the sum that waits
  pub bound_sum : (es : List (ℕ × F)) (p : List F) (i : ℕ) (e : ℕ × F) (h : ℕ → F) (k : ℕ) (s w r : F) → added K h (monomial K k s) ≡ fixed K (of_pairs K (take i es)) p → i < length es → e ≡ get_or es i e
      → k ≡ e.0 / 2 ^ length p → w ≡ K.times e.1 (weight K p (e.0 % 2 ^ length p)) → r ≡ K.plus s w → added K h (monomial K k r) ≡ fixed K (of_pairs K (take (i + 1) es)) p
  bound_sum es p i e h k s w r before l is f g j =
      bound_more es p i e k w (added K h (monomial K k s)) (added K h (monomial K k r)) before l is f g
      (ap (added K h) (ap (monomial K k) j ∙ sym (monomial-added K N k s w)) ∙ fun_ext (λ b. sym (N.plus_assoc (h b) (monomial K k s b) (monomial K k w b))))

module _ {F : Type 0} (K : FieldOn F) (N : IsField K) where
  -- a search among entries ends at the index, or where no entry has it
  pub searched : (es : List (ℕ × F)) (k : ℕ) (r : Result ℕ ℕ) → IsSparse K es → IsSearchInRange r (length es) → IsBinarySearchResult (λ e. nat_cmp e.0 k) es r
      → record { found : IfOk r (λ i. (i < length es) × ((d : ℕ × F) → (get_or es i d).1 ≡ of_pairs K es k)); absent : IfErr r (λ _. of_pairs K es k ≡ K.zero) }
  searched es k (Ok at) s within equal = record {
    found = (
      within,
      λ d.
          let same : (get_or es at d).0 ≡ k = ranked _ k _ (sym (equal d)) in
          sym (of_pairs-at K N es at d s.rising within) ∙ ap (of_pairs K es) same,
    );
    absent = tt;
  }
  searched es k (Err at) s within parted = record {
    found = tt;
    absent = of_pairs-absent K N es k (λ j d l same. ⊎_elim
        (λ (b : j < at). let m : (get_or es j d).0 < k = ranked _ k _ (sym ((parted rises).0 j d (omega arith) b)) in absurd (omega arith))
        (λ (b : at ≤ j). let m : k < (get_or es j d).0 = ranked _ k _ (sym ((parted rises).1 j d b l)) in absurd (omega arith))
        (cases_lt j at));
  } where
    rises : IsNonDecreasingBy (λ e. ordering_index (nat_cmp e.0 k)) es
    rises i j d le l = ⊎_elim
        (λ (e : i ≡ j). subst (λ n. ordering_index (nat_cmp (get_or es i d).0 k) ≤ ordering_index (nat_cmp (get_or es n d).0 k)) e (omega arith))
        (λ (ne : i ≢ j).
        let up : (get_or es i d).0 < (get_or es j d).0 = s.rising i j d (⊎_elim (λ (m : i < j). m) (λ (m : j ≤ i). absurd (ne (omega arith))) (cases_lt i j)) l in
        grind (arith, nat_tests))
        (cases_eq i j)

  -- one more entry is written over a list
  pub listed_more : (es : List (ℕ × F)) (c : List F) (i : ℕ) (e : ℕ × F) → IsSparse K es → of_list K c ≡ of_pairs K (take i es) → i < length es → e ≡ get_or es i e → e.0 < length c → of_list K (set c e.0 e.1) ≡ of_pairs K (take (i + 1) es)
  listed_more es c i e s h l is inside =
      of_list-set K c e.0 e.1 (of_pairs K (take (i + 1) es)) inside
      (more e.0 ∙ ap₂ K.plus absent (monomial-same K e.0 e.1) ∙ zero_plus (itself_is_module K N) e.1)
      (λ k ne. more k ∙ ap (K.plus (of_pairs K (take i es) k)) (monomial-other K e.0 e.1 k (λ f. ne (sym f))) ∙ N.plus_zero (of_pairs K (take i es) k) ∙ sym (ap (λ t. t k) h))
    where
      more : (k : ℕ) → of_pairs K (take (i + 1) es) k ≡ K.plus (of_pairs K (take i es) k) (monomial K e.0 e.1 k)
      more k = ap (λ t. of_pairs K t k) (take_next K N es i e l is) ∙ ap (λ t. t k) (of_pairs-push K N (take i es) e)

      absent : of_pairs K (take i es) e.0 ≡ K.zero
      absent = of_pairs-absent K N (take i es) e.0 (λ k d m same.
          let short : k < i = omega (arith, length-take i es) in
          let early : get_or (take i es) k d ≡ get_or es k d = get_or-take i es k d short in
          let up : (get_or es k d).0 < (get_or es i d).0 = s.rising k i d short l in
          let here : e ≡ get_or es i d = get_or_read es i e l is d in
          omega (arith, same, ap (λ t. t.0) early, ap (λ t. t.0) here))
