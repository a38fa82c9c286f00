-- Lists of (coefficient, term), where terms are of any kind that tells its list of (variable, power): one for each
-- polynomial in strictly rising order. What loops make of such lists.
use Rattle.std.proofs.Common.{◌≡◌, ◌≢◌, ℕ, suc, ◌<◌, ◌≤◌, ◌⊎◌, Bool, ◌&&◌, ◌==◌, Decides, Ordering, Less, Equal, Greater, List, [], ◌∷◌, ◌++◌, map, length, All, AllPairs, Any, IsPermutation, sym, ◌∙◌, ap, ap₂, refl, arith, inl, inr, ⊎_elim}
use Rattle.std.specs.Cmp.{IsTotalOrder, Equal-is}
use Rattle.std.specs.Cmp.Lexicographic.{pointwise}
use Rattle.std.specs.Ordering.{ordering_reverse, is_eq}
use Rattle.std.proofs.lemmas.Bool.{true≢false}
use Rattle.std.proofs.lemmas.Bool.Decides.{Decides-eqb}
use Rattle.std.proofs.lemmas.Cmp.{alike_right}
use Rattle.std.proofs.lemmas.List.{length-map, get_or-map, map_push, nil_from_length}
use Rattle.std.proofs.lemmas.List.Elements.{All-tail, All-cons, All-map}
use Rattle.std.proofs.lemmas.List.Sorted.{IsPermutation-map}
use Rattle.ark_math.specs.Field.{FieldOn, IsField}
use Rattle.ark_math_variables.specs.Term.{total_degree}
use Rattle.ark_math.specs.Univariate.{nothing, added}
use Rattle.ark_math_variables.specs.Multivariate.{single, of_terms, IsTotalDegree}
use Rattle.ark_math.proofs.Algebra.Groups.{cancel_left, pair_Decides}
use Rattle.ark_math.proofs.Lists.Lists.{AllPairs-map, pointwise-Decides_map}
use Rattle.ark_math_polynomials.proofs.Polynomials.Univariate.{coefficients_are_module}
use Rattle.ark_math_variables.proofs.Polynomials.Multivariate.{of_terms-push, of_terms-permutation, of_terms-absent, of_terms-first, of_terms_degree}

-- each coefficient with its term's list
abbrev pub keyed : {F T : Type 0} → (T → List (ℕ × ℕ)) → List (F × T) → List (F × List (ℕ × ℕ))
keyed key cs = map (λ c. (c.0, key c.1)) cs

-- a strict order of terms, whose lists tell them apart
pub record IsStrictOrder {T : Type 0} (key : T → List (ℕ × ℕ)) (below : T → T → Type 0) : Type 0 where
  pub chain : (s t u : T) → below s t → below t u → below s u
  pub apart : (s t : T) → below s t → key s ≢ key t
  pub total : (s t : T) → below s t ⊎ ((key s ≡ key t) ⊎ below t s)
  pub left : (s t u : T) → key s ≡ key t → below s u → below t u
  pub right : (s t u : T) → key t ≡ key u → below s t → below s u

-- that of a total order whose ties are the terms with one list
pub strict_order : {T : Type 0} {cmp : T → T → Ordering} {eq : T → T → Bool} (key : T → List (ℕ × ℕ)) → IsTotalOrder cmp → ((s t : T) → eq s t ≡ is_eq (cmp s t)) → ((s t : T) → Decides (eq s t) (key s ≡ key t)) → IsStrictOrder key (λ s t. cmp s t ≡ Less)
strict_order {T} {cmp} {eq} key order matches decides = record {
  chain = order.trans;
  apart = λ s t l e. true≢false (sym ((decides s t).1 e) ∙ matches s t ∙ ap is_eq l);
  total = λ s t. by s t (cmp s t) refl;
  left = λ s t u e l. sym (order.congr s t u (tied s t e)) ∙ l;
  right = λ s t u e l. sym (alike_right order t u s (tied t u e)) ∙ l;
}
  where
    by : (s t : T) (o : Ordering) → cmp s t ≡ o → (cmp s t ≡ Less) ⊎ ((key s ≡ key t) ⊎ (cmp t s ≡ Less))
    by s t Less e = inl e
    by s t Equal e = inr (inl ((decides s t).0 (matches s t ∙ ap is_eq e)))
    by s t Greater e = inr (inr (order.antisymm t s ∙ ap ordering_reverse e))

    tied : (s t : T) → key s ≡ key t → cmp s t ≡ Equal
    tied s t e = (Equal-is (cmp s t)).0 (sym (matches s t) ∙ (decides s t).1 e)

module _ {F T : Type 0} (K : FieldOn F) (N : IsField K) (key : T → List (ℕ × ℕ)) {below : T → T → Type 0} (order : IsStrictOrder key below) where
  later : (c : F × T) (cs : List (F × T)) → AllPairs (λ c d. below c.1 d.1) (c ∷ cs) → All (λ d. below c.1 d.1) cs
  later c cs h k d l = h 0 (suc k) d (omega arith) (omega arith)

  tail : (c : F × T) (cs : List (F × T)) → AllPairs (λ c d. below c.1 d.1) (c ∷ cs) → AllPairs (λ c d. below c.1 d.1) cs
  tail c cs h i j d l m = h (suc i) (suc j) d (omega arith) (omega arith)

  all_keyed : (P : F × List (ℕ × ℕ) → Type 0) (cs : List (F × T)) → All (λ c. P (c.0, key c.1)) cs → All P (keyed key cs)
  all_keyed P cs h = All-map P (λ c. (c.0, key c.1)) cs h

  first_coefficient : (c : F × T) (cs : List (F × T)) → AllPairs (λ c d. below c.1 d.1) (c ∷ cs) → of_terms K (keyed key (c ∷ cs)) (key c.1) ≡ c.0
  first_coefficient c cs h = of_terms-first K N (c.0, key c.1) (keyed key cs) (all_keyed (λ e. key c.1 ≢ e.1) cs (λ k d l. order.apart c.1 _ (later c cs h k d l)))

  -- a term below all has no coefficient
  none_before : (t : T) (c : F × T) (cs : List (F × T)) → below t c.1 → AllPairs (λ c d. below c.1 d.1) (c ∷ cs) → of_terms K (keyed key (c ∷ cs)) (key t) ≡ K.zero
  none_before t c cs l h =
      of_terms-absent K N (keyed key (c ∷ cs)) (key t)
      (all_keyed (λ e. e.1 ≢ key t) (c ∷ cs)
      (All-cons (λ e. key e.1 ≢ key t) c cs (λ e. order.apart t c.1 l (sym e)) (λ k d b e. order.apart t _ (order.chain t c.1 _ l (later c cs h k d b)) (sym e))))

  -- lists that denote one polynomial tell the same
  pub same_sorted : (cs ds : List (F × T)) → AllPairs (λ c d. below c.1 d.1) cs → AllPairs (λ c d. below c.1 d.1) ds → All (λ c. c.0 ≢ K.zero) cs → All (λ c. c.0 ≢ K.zero) ds
      → of_terms K (keyed key cs) ≡ of_terms K (keyed key ds) → keyed key cs ≡ keyed key ds
  same_sorted [] [] f g s t e = refl
  same_sorted [] (d ∷ ds) f g s t e = absurd (t 0 d (omega arith) (sym (first_coefficient d ds g) ∙ sym (ap (λ a. a (key d.1)) e)))
  same_sorted (c ∷ cs) [] f g s t e = absurd (s 0 c (omega arith) (sym (first_coefficient c cs f) ∙ ap (λ a. a (key c.1)) e))
  same_sorted (c ∷ cs) (d ∷ ds) f g s t e =
      let a = first_coefficient c cs f in
      let b = first_coefficient d ds g in
      ⊎_elim
      (λ (l : below c.1 d.1). absurd (s 0 c (omega arith) (sym a ∙ ap (λ u. u (key c.1)) e ∙ none_before c.1 d ds l g)))
      (λ h. ⊎_elim
      (λ (k : key c.1 ≡ key d.1).
      let same : ◌≡◌ {A = F × List (ℕ × ℕ)} (c.0, key c.1) (d.0, key d.1) =
      ap₂ (λ x y. (x, y)) (sym a ∙ ap (λ u. u (key c.1)) e ∙ ap (of_terms K (keyed key (d ∷ ds))) k ∙ b) k in
      let rest : of_terms K (keyed key cs) ≡ of_terms K (keyed key ds) =
      cancel_left (coefficients_are_module K N) (single K (key c.1) c.0) (of_terms K (keyed key cs)) (of_terms K (keyed key ds))
      (e ∙ ap (λ u. added K (single K u.1 u.0) (of_terms K (keyed key ds))) (sym same)) in
      ap₂ (λ u us. u ∷ us) same (same_sorted cs ds (tail c cs f) (tail d ds g) (All-tail (λ c. c.0 ≢ K.zero) c cs s) (All-tail (λ c. c.0 ≢ K.zero) d ds t) rest))
      (λ (l : below d.1 c.1). absurd (t 0 d (omega arith) (sym b ∙ ap (λ u. u (key d.1)) (sym e) ∙ none_before d.1 c cs l f)))
      h)
      (order.total c.1 d.1)

  sorted_nothing : (cs : List (F × T)) → AllPairs (λ c d. below c.1 d.1) cs → All (λ c. c.0 ≢ K.zero) cs → of_terms K (keyed key cs) ≡ nothing K → cs ≡ []
  sorted_nothing [] f s e = refl
  sorted_nothing (c ∷ cs) f s e = absurd (s 0 c (omega arith) (sym (first_coefficient c cs f) ∙ ap (λ a. a (key c.1)) e))

  -- ---- tests

  -- a test of sorted lists by one of their items
  pub sorted_Decides : {eq : F → F → Bool} {same : T → T → Bool} → ((a b : F) → Decides (eq a b) (a ≡ b)) → ((s t : T) → Decides (same s t) (key s ≡ key t))
      → (cs ds : List (F × T)) → AllPairs (λ c d. below c.1 d.1) cs → AllPairs (λ c d. below c.1 d.1) ds → All (λ c. c.0 ≢ K.zero) cs → All (λ c. c.0 ≢ K.zero) ds
      → Decides (pointwise (λ c d. eq c.0 d.0 && same c.1 d.1) cs ds) (of_terms K (keyed key cs) ≡ of_terms K (keyed key ds))
  sorted_Decides decides ties cs ds f g s t =
      let same = pointwise-Decides_map (λ c. (c.0, key c.1)) (λ c d. pair_Decides (decides c.0 d.0) (ties c.1 d.1)) cs ds in
      (λ e. ap (of_terms K) (same.0 e), λ e. same.1 (same_sorted cs ds f g s t e))

  pub sorted_none_Decides : (cs : List (F × T)) (r : Bool) → AllPairs (λ c d. below c.1 d.1) cs → All (λ c. c.0 ≢ K.zero) cs → r ≡ (length cs == 0) → Decides r (of_terms K (keyed key cs) ≡ nothing K)
  sorted_none_Decides cs r f s e =
      let d = Decides-eqb (length cs) 0 in
      (λ h. ap (λ ds. of_terms K (keyed key ds)) (nil_from_length cs (d.0 (sym e ∙ h))), λ h. e ∙ d.1 (ap length (sorted_nothing cs f s h)))

  -- ---- the total degree

  pub sorted_degree : (cs : List (F × T)) (d : ℕ) → AllPairs (λ c d. below c.1 d.1) cs → All (λ c. c.0 ≢ K.zero) cs → All (λ c. total_degree (key c.1) ≤ d) cs → (0 < d → Any (λ c. total_degree (key c.1) ≡ d) cs) → IsTotalDegree K (of_terms K (keyed key cs)) d
  sorted_degree cs d f s bounded top =
      of_terms_degree K N (keyed key cs) d
      (AllPairs-map (λ c. (c.0, key c.1)) (λ c e. c.1 ≢ e.1) cs (λ i j e l m. order.apart _ _ (f i j e l m)))
      (all_keyed (λ c. c.0 ≢ K.zero) cs s)
      (all_keyed (λ c. total_degree c.1 ≤ d) cs bounded)
      (λ l.
      let r = top l in
      let b = r.2 in
      let one : F × List (ℕ × ℕ) = (r.1.0, key r.1.1) in
      let long : length (keyed key cs) ≡ length cs = length-map cs (λ c. (c.0, key c.1)) in
      (r.0, one, omega (arith, b, long), get_or-map (λ c. (c.0, key c.1)) cs r.0 r.1 one b ∙ ap (λ c. (c.0, key c.1)) r.3, r.4))

-- ---- what loops make

module _ {F T : Type 0} (K : FieldOn F) (N : IsField K) (key : T → List (ℕ × ℕ)) where
  pub keyed-push : (cs : List (F × T)) (c : F × T) → of_terms K (keyed key (cs ++ c ∷ [])) ≡ added K (of_terms K (keyed key cs)) (single K (key c.1) c.0)
  keyed-push cs c = ap (of_terms K) (map_push (λ c. (c.0, key c.1)) cs c) ∙ of_terms-push K N (keyed key cs) (c.0, key c.1)

  pub keyed-permutation : (cs ds : List (F × T)) → IsPermutation cs ds → of_terms K (keyed key ds) ≡ of_terms K (keyed key cs)
  keyed-permutation cs ds h = of_terms-permutation K N (keyed key cs) (keyed key ds) (IsPermutation-map (λ c. (c.0, key c.1)) cs ds h)
