-- What dense lists denote, and lists whose last item isn't zero.
use Rattle.std.proofs.Common.{◌≡◌, ◌≢◌, ℕ, ◌+◌, ◌-◌, ◌<◌, ◌≤◌, List, [], ◌∷◌, ◌++◌, length, get_or, set, take, replicate, Bool, Decides, ◌==◌, sym, ◌∙◌, ap, refl, subst, arith, ⊎_elim, ◌⊎◌, inl, inr, get_or-set_same, get_or-set_other}
use mathlib.Core.Path.{fun_ext}
use Rattle.std.proofs.lemmas.Bool.{cases_eq, cases_lt}
use Rattle.std.proofs.lemmas.Slice.Eq.{slice_eq-Decides}
use Rattle.std.specs.Cmp.Lexicographic.{pointwise}
use Rattle.std.proofs.lemmas.List.{take_all, get_or-append-add, get_or_past, get_or_push, get_or_append_left, length_push, length-replicate, ext_get_or, get_or-replicate}
use Rattle.std.proofs.lemmas.Bool.Decides.{Decides-eqb}
use Rattle.ark_math.specs.Field.{FieldOn}
use Rattle.ark_math.specs.Univariate.{nothing, IsBelow, IsDegree, of_list, IsTrimmed}
use Rattle.ark_math_polynomials.proofs.Polynomials.Univariate.{one_degree}

no_items : {F : Type 0} (c : List F) → length c ≡ 0 → c ≡ []
no_items [] e = refl
no_items (x ∷ c) e = absurd (omega arith)

module _ {F : Type 0} (K : FieldOn F) where
  pub of_list-past : (c : List F) (i : ℕ) → length c ≤ i → of_list K c i ≡ K.zero
  of_list-past c i l = get_or_past c i K.zero l

  pub of_list-below : (c : List F) → IsBelow K (length c) (of_list K c)
  of_list-below c i l = of_list-past c i l

  pub of_list-replicate : (n : ℕ) → of_list K (replicate n K.zero) ≡ nothing K
  of_list-replicate n = fun_ext (λ i. ⊎_elim
      (λ (l : i < n). get_or-replicate n i K.zero K.zero l)
      (λ (l : n ≤ i). of_list-past (replicate n K.zero) i (let e = length-replicate n K.zero in omega arith))
      (cases_lt i n))

  -- cut or filled up to n
  pub of_list-padded : (c : List F) (n k : ℕ) (x : F) → length c ≤ n → x ≡ K.zero → of_list K (take n c ++ replicate k x) ≡ of_list K c
  of_list-padded c n k x h e =
      ap (λ t. of_list K (t ++ replicate k x)) (take_all n c h)
      ∙ fun_ext (λ i. ⊎_elim
      (λ (l : i < length c). get_or_append_left c (replicate k x) K.zero i l)
      (λ (l : length c ≤ i).
      ap (λ t. get_or (c ++ replicate k t) i K.zero) e
      ∙ ap (λ t. get_or (c ++ replicate k K.zero) t K.zero) (let d : i ≡ length c + (i - length c) = omega arith in d)
      ∙ get_or-append-add c (replicate k K.zero) (i - length c) K.zero
      ∙ ap (λ t. t (i - length c)) (of_list-replicate k)
      ∙ sym (of_list-past c i l))
      (cases_lt i (length c)))

  -- a written item
  pub of_list-set : (c : List F) (k : ℕ) (x : F) (a : ℕ → F) → k < length c → a k ≡ x → ((i : ℕ) → i ≢ k → a i ≡ of_list K c i) → of_list K (set c k x) ≡ a
  of_list-set c k x a l e h = fun_ext (λ i. ⊎_elim
      (λ (f : i ≡ k). subst (λ t. of_list K (set c k x) t ≡ a t) (sym f) (get_or-set_same c k x K.zero l ∙ sym e))
      (λ (ne : i ≢ k). get_or-set_other c k i x K.zero ne ∙ sym (h i ne))
      (cases_eq i k))

  -- ---- trimmed

  pub trimmed-nil : IsTrimmed K []
  trimmed-nil l = absurd (omega arith)

  pub trimmed-push : (c : List F) (x : F) → x ≢ K.zero → IsTrimmed K (c ++ x ∷ [])
  trimmed-push c x ne l e =
      let k : length (c ++ x ∷ []) - 1 ≡ length c = omega (arith, length_push c x) in
      ne (sym (get_or_push c x K.zero (length c) refl) ∙ sym (ap (of_list K (c ++ x ∷ [])) k) ∙ e)

  -- no shorter than what it denotes
  pub trimmed_length : (c : List F) (n : ℕ) → IsTrimmed K c → IsBelow K n (of_list K c) → length c ≤ n
  trimmed_length c n t b =
      ⊎_elim (λ (l : n < length c). absurd (t (omega arith) (b (length c - 1) (omega arith)))) (λ (l : length c ≤ n). l) (cases_lt n (length c))

  -- trimmed lists are equal where they denote one polynomial
  pub same_trimmed : (c d : List F) → IsTrimmed K c → IsTrimmed K d → of_list K c ≡ of_list K d → c ≡ d
  same_trimmed c d s t e =
      let f : length c ≤ length d = trimmed_length c (length d) s (subst (IsBelow K (length d)) (sym e) (of_list-below d)) in
      let g : length d ≤ length c = trimmed_length d (length c) t (subst (IsBelow K (length c)) e (of_list-below c)) in
      ext_get_or K.zero c d (omega arith) (λ i l. ap (λ a. a i) e)

  -- so a test of their items tells whether what they denote is equal
  pub trimmed_Decides : {eq : F → F → Bool} → ((a b : F) → Decides (eq a b) (a ≡ b)) → (c d : List F) → IsTrimmed K c → IsTrimmed K d → Decides (pointwise eq c d) (of_list K c ≡ of_list K d)
  trimmed_Decides decides c d s t =
      let same = slice_eq-Decides decides c d _ refl in
      (λ e. ap (of_list K) (same.0 e), λ e. same.1 (same_trimmed c d s t e))

  pub trimmed_nothing : (c : List F) → IsTrimmed K c → of_list K c ≡ nothing K → c ≡ []
  trimmed_nothing c t e = same_trimmed c [] t trimmed-nil e

  pub trimmed_none_Decides : (c : List F) (r : Bool) → IsTrimmed K c → r ≡ (length c == 0) → Decides r (of_list K c ≡ nothing K)
  trimmed_none_Decides c r t e =
      let d = Decides-eqb (length c) 0 in
      (λ h. ap (of_list K) (no_items c (d.0 (sym e ∙ h))), λ h. e ∙ d.1 (ap length (trimmed_nothing c t h)))

  -- its degree is its length less one
  pub trimmed_degree : (c : List F) → IsTrimmed K c → IsDegree K (of_list K c) (length c - 1)
  trimmed_degree c t = record { rest = λ i l. of_list-past c i (omega arith); leading = λ l. t (omega arith) }

  pub trimmed_degree_is : (c : List F) (d : ℕ) → IsTrimmed K c → IsDegree K (of_list K c) d → d ≡ length c - 1
  trimmed_degree_is c d t h = one_degree K (of_list K c) d (length c - 1) h (trimmed_degree c t)

  -- a trimmed list with an item denotes no zero
  trimmed_some : (c : List F) → IsTrimmed K c → 0 < length c → of_list K c ≢ nothing K
  trimmed_some c t l e = t l (ap (λ a. a (length c - 1)) e)

  -- of two trimmed lists: the second denotes no zero, or both denote zero, or the first alone does not
  pub zero_divisor_cases : (c d : List F) → IsTrimmed K c → IsTrimmed K d
      → (of_list K d ≢ nothing K) ⊎ ((of_list K c ≡ nothing K) × (of_list K d ≡ nothing K)) ⊎ ((of_list K c ≢ nothing K) × (of_list K d ≡ nothing K))
  zero_divisor_cases [] [] s t = inr (inl (refl, refl))
  zero_divisor_cases (x ∷ c) [] s t = inr (inr (trimmed_some (x ∷ c) s (omega arith), refl))
  zero_divisor_cases c (y ∷ d) s t = inl (trimmed_some (y ∷ d) t (omega arith))
