-- Lists of coefficients and terms whose terms rise strictly: what they denote, the least of two lists, and their sums.
use Rattle.std.proofs.Common.{◌≡◌, ◌≢◌, ℕ, zero, suc, take, ◌+◌, ◌<◌, ◌≤◌, ◌-◌, ◌^◌, ◌⊎◌, Bool, true, false, List, [], ◌∷◌, ◌++◌, length, get_or, Some, None, Decides, sym, ◌∙◌, ap, ap₂, refl, subst, arith, ⊎_elim, inl, inr}
use Rattle.std.specs.List.{All, AllPairs, AllZip, Any, slice_get}
use Rattle.std.specs.Fn.{Called, ComparesAs}
use Rattle.std.specs.List.Sorted.{IsSortedBy}
use Rattle.std.proofs.lemmas.List.Sorted.{sorted_far, ranks_by, IsStrictWeakOrder-flip}
use Rattle.std.specs.declared.cmp.Ordering.{Ordering}
use Rattle.std.specs.declared.cmp.Ordering.TheVariants.{Less, Equal, Greater}
use Rattle.std.specs.Ordering.{is_eq, is_lt, ordering_reverse}
use Rattle.std.specs.Cmp.{IsTotalOrder, IsStrictWeakOrder, Equal-is, alike_right}
use Rattle.std.proofs.lemmas.Bool.{cases_lt}
use Rattle.std.proofs.lemmas.Option.{get_or_from_slice_get, slice_get_cases}
use Rattle.std.proofs.lemmas.Fn.{always_returns_same}
use Rattle.std.proofs.lemmas.List.{get_or_append_left, get_or_push, length_push, length-map, get_or-map, map_push, take_more}
use Rattle.std.proofs.lemmas.List.Elements.{All-nil, All-cons, All-tail, All-push, All-more, All-weaker}
use Rattle.std.proofs.lemmas.List.Quantifiers.{Any-push}
use denote.Param.Members.{Mut}
use denote.Ref.{Bor}
use Rattle.ark_math.specs.Field.{FieldOn, IsField}
use Rattle.ark_math.specs.Univariate.{nothing, added, scaled}
use Rattle.ark_math_variables.specs.Multivariate.{single, sum_at, of_listed}
use Rattle.ark_math_variables.specs.Term.{IsTerm, IsOnePower, IsWithin, term_value, total_degree}
use Rattle.ark_multi.specs.SortedTerms.{AreRising, IsLeastTerm}
use Rattle.ark_math.proofs.Algebra.Groups.{itself_is_module, zero_plus, plus_swap, scale_zero}
use Rattle.ark_math_polynomials.proofs.Polynomials.Univariate.{coefficients_are_module}
use Rattle.ark_math_variables.proofs.Polynomials.Multivariate.{single-same, single-other, single-zero, single-added, single-scaled, sum_at-push}
use Rattle.ark_math_variables.proofs.Polynomials.Terms.{IsWithin-more, total_degree-cons}
use Rattle.ark_multi.specs.TermLists.{keyed, keyed-push}

-- ---- tests of a term's list

pub cases_within : (n : ℕ) (t : List (ℕ × ℕ)) → IsWithin n t ⊎ (¬ IsWithin n t)
cases_within n [] = inl (All-nil (λ p. p.0 < n))
cases_within n (p ∷ t) = ⊎_elim
    (λ (l : p.0 < n). ⊎_elim
    (λ h. inl (All-cons (λ p. p.0 < n) p t l h))
    (λ h. inr (λ a. h (All-tail (λ p. p.0 < n) p t a)))
    (cases_within n t))
    (λ (l : n ≤ p.0). inr (λ a. let b : p.0 < n = a 0 p (omega arith) in omega arith))
    (cases_lt p.0 n)

pub cases_one_power : (d : ℕ) (t : List (ℕ × ℕ)) → IsOnePower d t ⊎ (¬ IsOnePower d t)
cases_one_power d [] = inl (inl refl)
cases_one_power d (p ∷ []) = ⊎_elim
    (λ (l : d < p.1). inr (⊎_elim
    (λ (e : p ∷ [] ≡ []). let f : 1 ≡ 0 = ap length e in omega arith)
    (λ h. let f : p.1 ≡ h.1 = ap (λ t. (get_or t 0 p).1) h.2 in let b : h.1 ≤ d = h.3 in omega arith)))
    (λ (l : p.1 ≤ d). inl (inr (p.0, p.1, refl, l)))
    (cases_lt d p.1)
cases_one_power d (p ∷ (q ∷ t)) = inr (⊎_elim
    (λ (e : p ∷ (q ∷ t) ≡ []). let f : suc (suc (length t)) ≡ 0 = ap length e in omega arith)
    (λ h. let f : suc (suc (length t)) ≡ 1 = ap length h.2 in omega arith))

pub one_power-IsTerm : (v e : ℕ) → 0 < e → e < 2 ^ 64 → IsTerm ((v, e) ∷ [])
one_power-IsTerm v e pos fits = record {
  rising = λ i j d l m. absurd (omega arith);
  some = All-cons (λ p. 0 < p.1) (v, e) [] pos (All-nil (λ p. 0 < p.1));
  fits = let t : total_degree ((v, e) ∷ []) ≡ e + 0 = total_degree-cons (v, e) [] in omega (arith, t, fits);
}

pub one_power-within : (n v e : ℕ) (t : List (ℕ × ℕ)) → t ≡ (v, e) ∷ [] → v < n → IsWithin n t
one_power-within n v e t same l = subst (IsWithin n) (sym same) (All-cons (λ p. p.0 < n) (v, e) [] l (All-nil (λ p. p.0 < n)))

-- ---- orders

-- an order that is Equal exactly for terms of one list
pub record IsTermOrder {T : Type 0} (cmp : T → T → Ordering) (listed : T → List (ℕ × ℕ)) : Type 0 where
  pub total : IsTotalOrder cmp
  pub same : (s t : T) → cmp s t ≡ Equal → listed s ≡ listed t
  pub tied : (s t : T) → listed s ≡ listed t → cmp s t ≡ Equal

pub term_order : {T : Type 0} {cmp : T → T → Ordering} {listed : T → List (ℕ × ℕ)} {eq : T → T → Bool} → IsTotalOrder cmp → ((s t : T) → eq s t ≡ is_eq (cmp s t)) → ((s t : T) → Decides (eq s t) (listed s ≡ listed t)) → IsTermOrder cmp listed
term_order {T} {cmp} total ties decides = record {
  total = total;
  same = λ s t e. (decides s t).0 (ties s t ∙ ap is_eq e);
  tied = λ s t e. (Equal-is (cmp s t)).0 (sym (ties s t) ∙ (decides s t).1 e);
}

module _ {F T : Type 0} (K : FieldOn F) (N : IsField K) {cmp : T → T → Ordering} {listed : T → List (ℕ × ℕ)} (o : IsTermOrder cmp listed) where
  abbrev sum_of : List (F × T) → List (ℕ × ℕ) → F
  sum_of = of_listed K listed

  less_other : (s t : T) → cmp s t ≡ Less → listed s ≢ listed t
  less_other s t l e = let same : Less ≡ Equal = sym l ∙ o.tied s t e in cc

  -- a term in place of one with the same list
  less_from : (s t u : T) → listed s ≡ listed t → cmp s u ≡ Less → cmp t u ≡ Less
  less_from s t u e l = sym (o.total.congr s t u (o.tied s t e)) ∙ l

  less_to : (s t u : T) → listed s ≡ listed t → cmp u s ≡ Less → cmp u t ≡ Less
  less_to s t u e l = sym (alike_right o.total s t u (o.tied s t e)) ∙ l

  -- ---- not above

  not_greater : (s t : T) → cmp s t ≡ Less → cmp s t ≢ Greater
  not_greater s t l e = let same : Less ≡ Greater = sym l ∙ e in cc

  tied_not_greater : (s t : T) → cmp s t ≡ Equal → cmp s t ≢ Greater
  tied_not_greater s t l e = let same : Equal ≡ Greater = sym l ∙ e in cc

  upto_less : (s t u : T) → cmp s t ≢ Greater → cmp t u ≡ Less → cmp s u ≡ Less
  upto_less s t u h l = by (cmp s t) refl
    where
      by : (r : Ordering) → cmp s t ≡ r → cmp s u ≡ Less
      by Less e = o.total.trans s t u e l
      by Equal e = o.total.congr s t u e ∙ l
      by Greater e = absurd (h e)

  upto_upto : (s t u : T) → cmp s t ≢ Greater → cmp t u ≢ Greater → cmp s u ≢ Greater
  upto_upto s t u h k = by (cmp t u) refl
    where
      by : (r : Ordering) → cmp t u ≡ r → cmp s u ≢ Greater
      by Less e = not_greater s u (upto_less s t u h e)
      by Equal e = λ g. h (alike_right o.total t u s e ∙ g)
      by Greater e = absurd (k e)

  -- ---- one coefficient

  of_listed-absent : (cs : List (F × T)) (t : List (ℕ × ℕ)) → All (λ c. listed c.1 ≢ t) cs → sum_of cs t ≡ K.zero
  of_listed-absent [] t h = refl
  of_listed-absent (c ∷ cs) t h =
      ap₂ K.plus (single-other K (listed c.1) c.0 t (h 0 c (omega arith))) (of_listed-absent cs t (All-tail (λ c. listed c.1 ≢ t) c cs h)) ∙ N.plus_zero K.zero

  after_first : (c : F × T) (cs : List (F × T)) → AllPairs (λ c d. cmp c.1 d.1 ≡ Less) (c ∷ cs) → All (λ d. cmp c.1 d.1 ≡ Less) cs
  after_first c cs h k d l = h 0 (suc k) d (omega arith) (omega arith)

  later : (c : F × T) (cs : List (F × T)) → AllPairs (λ c d. cmp c.1 d.1 ≡ Less) (c ∷ cs) → AllPairs (λ c d. cmp c.1 d.1 ≡ Less) cs
  later c cs h i j d l m = h (suc i) (suc j) d (omega arith) (omega arith)

  of_listed-at : (cs : List (F × T)) (k : ℕ) (d : F × T) → AllPairs (λ c d. cmp c.1 d.1 ≡ Less) cs → k < length cs → sum_of cs (listed (get_or cs k d).1) ≡ (get_or cs k d).0
  of_listed-at [] k d h l = absurd (omega arith)
  of_listed-at (c ∷ cs) zero d h l =
      ap₂ K.plus (single-same K (listed c.1) c.0)
      (of_listed-absent cs (listed c.1) (λ k d l e. less_other c.1 (get_or cs k d).1 (after_first c cs h k d l) (sym e)))
      ∙ N.plus_zero c.0
  of_listed-at (c ∷ cs) (suc k) d h l =
      let x = get_or cs k d in
      ap₂ K.plus (single-other K (listed c.1) c.0 (listed x.1) (less_other c.1 x.1 (after_first c cs h k d (omega arith)))) (of_listed-at cs k d (later c cs h) (omega arith))
      ∙ zero_plus (itself_is_module K N) x.0

  -- what holds of every term that has a coefficient
  All-from_sum : (P : List (ℕ × ℕ) → Type 0) → ((t : List (ℕ × ℕ)) → P t ⊎ (¬ P t)) → (cs : List (F × T)) → AreRising K cmp cs → ((t : List (ℕ × ℕ)) → ¬ P t → sum_of cs t ≡ K.zero) → All (λ c. P (listed c.1)) cs
  All-from_sum P cases cs h none k d l =
      ⊎_elim (λ p. p) (λ n. absurd (h.not_zero k d l (sym (of_listed-at cs k d h.rising l) ∙ none (listed (get_or cs k d).1) n))) (cases (listed (get_or cs k d).1))

  none_from_All : (P : List (ℕ × ℕ) → Type 0) → (cs : List (F × T)) → All (λ c. P (listed c.1)) cs → (t : List (ℕ × ℕ)) → ¬ P t → sum_of cs t ≡ K.zero
  none_from_All P cs h t n = of_listed-absent cs t (λ k d l e. n (subst P e (h k d l)))

  -- ---- rising lists

  rising-nil : AreRising K cmp []
  rising-nil = record { rising = λ i j d l m. absurd (omega arith); not_zero = λ k d l. absurd (omega arith) }

  rising_tail : (c : F × T) (cs : List (F × T)) → AreRising K cmp (c ∷ cs) → AreRising K cmp cs
  rising_tail c cs h = record { rising = later c cs h.rising; not_zero = All-tail (λ c. c.0 ≢ K.zero) c cs h.not_zero }

  -- below the first of a rising list is below all of it
  below_first : (t : T) (c : F × T) (cs : List (F × T)) → AreRising K cmp (c ∷ cs) → cmp t c.1 ≡ Less → All (λ d. cmp t d.1 ≡ Less) (c ∷ cs)
  below_first t c cs h l = All-cons (λ d. cmp t d.1 ≡ Less) c cs l (λ k d b. o.total.trans t c.1 (get_or cs k d).1 l (after_first c cs h.rising k d b))

  -- ---- the least of two lists

  pub least_left : (p q u : List (F × T)) (s : F) (c : F × T) → AreRising K cmp p → AreRising K cmp q → p ≡ c ∷ u → All (λ d. cmp c.1 d.1 ≡ Less) q → IsLeastTerm K cmp listed p s q c.0 c.1 u q
  least_left p q u s c l r e below =
      let h = subst (AreRising K cmp) e l in
      record {
        left = rising_tail c u h;
        right = r;
        below_left = after_first c u h.rising;
        below_right = below;
        least = λ t f g. subst (All (λ d. cmp t d.1 ≡ Less)) e f 0 c (omega arith);
        sum =
            ap (λ t. added K (sum_of t) (scaled K s (sum_of q))) e
            ∙ (coefficients_are_module K N).plus_assoc (single K (listed c.1) c.0) (sum_of u) (scaled K s (sum_of q));
        fewer = let n : length p ≡ suc (length u) = ap length e in omega arith;
      }

  pub least_right : (p q v : List (F × T)) (s f : F) (c : F × T) → AreRising K cmp p → AreRising K cmp q → q ≡ c ∷ v → All (λ d. cmp c.1 d.1 ≡ Less) p → f ≡ K.times s c.0 → IsLeastTerm K cmp listed p s q f c.1 p v
  least_right p q v s f c l r e below is =
      let h = subst (AreRising K cmp) e r in
      let M = coefficients_are_module {I = List (ℕ × ℕ)} K N in
      let m = single K (listed c.1) in
      record {
        left = l;
        right = rising_tail c v h;
        below_left = below;
        below_right = after_first c v h.rising;
        least = λ t f g. subst (All (λ d. cmp t d.1 ≡ Less)) e g 0 c (omega arith);
        sum =
            ap (λ t. added K (sum_of p) (scaled K s (sum_of t))) e
            ∙ ap (added K (sum_of p)) (M.scale_plus s (m c.0) (sum_of v) ∙ ap (λ t. added K t (scaled K s (sum_of v))) (sym (single-scaled K N (listed c.1) s c.0) ∙ ap m (sym is)))
            ∙ sym (M.plus_assoc (sum_of p) (m f) (scaled K s (sum_of v)))
            ∙ ap (λ t. added K t (scaled K s (sum_of v))) (M.plus_comm (sum_of p) (m f))
            ∙ M.plus_assoc (m f) (sum_of p) (scaled K s (sum_of v));
        fewer = let n : length q ≡ suc (length v) = ap length e in omega arith;
      }

  pub least_both : (p q u v : List (F × T)) (s f : F) (c d : F × T) → AreRising K cmp p → AreRising K cmp q → p ≡ c ∷ u → q ≡ d ∷ v → cmp c.1 d.1 ≡ Equal → f ≡ K.plus c.0 (K.times s d.0) → IsLeastTerm K cmp listed p s q f c.1 u v
  least_both p q u v s f c d l r e g tie is =
      let h = subst (AreRising K cmp) e l in
      let k = subst (AreRising K cmp) g r in
      let M = coefficients_are_module {I = List (ℕ × ℕ)} K N in
      let m = single K (listed c.1) in
      let same : listed d.1 ≡ listed c.1 = sym (o.same c.1 d.1 tie) in
      record {
        left = rising_tail c u h;
        right = rising_tail d v k;
        below_left = after_first c u h.rising;
        below_right = λ i e b. less_from d.1 c.1 (get_or v i e).1 same (after_first d v k.rising i e b);
        least = λ t a b. subst (All (λ d. cmp t d.1 ≡ Less)) e a 0 c (omega arith);
        sum =
            ap₂ (λ x y. added K (sum_of x) (scaled K s (sum_of y))) e g
            ∙ ap (added K (sum_of (c ∷ u))) (M.scale_plus s (single K (listed d.1) d.0) (sum_of v) ∙ ap (λ t. added K t (scaled K s (sum_of v))) (ap (λ t. scaled K s (single K t d.0)) same ∙ sym (single-scaled K N (listed c.1) s d.0)))
            ∙ plus_swap M (m c.0) (sum_of u) (m (K.times s d.0)) (scaled K s (sum_of v))
            ∙ ap (λ t. added K t (added K (sum_of u) (scaled K s (sum_of v)))) (single-added K N (listed c.1) c.0 (K.times s d.0) ∙ ap m (sym is));
        fewer = let n : length p ≡ suc (length u) = ap length e in let w : length q ≡ suc (length v) = ap length g in omega arith;
      }

  -- the three ways of two lists that both have terms
  pub least_less : (p q u v : List (F × T)) (s : F) (c d : F × T) → AreRising K cmp p → AreRising K cmp q → p ≡ c ∷ u → q ≡ d ∷ v → cmp c.1 d.1 ≡ Less → IsLeastTerm K cmp listed p s q c.0 c.1 u q
  least_less p q u v s c d l r e g less =
      least_left p q u s c l r e (subst (All (λ x. cmp c.1 x.1 ≡ Less)) (sym g) (below_first c.1 d v (subst (AreRising K cmp) g r) less))

  pub least_greater : (p q u v : List (F × T)) (s f : F) (c d : F × T) → AreRising K cmp p → AreRising K cmp q → p ≡ c ∷ u → q ≡ d ∷ v → cmp c.1 d.1 ≡ Greater → f ≡ K.times s d.0 → IsLeastTerm K cmp listed p s q f d.1 p v
  least_greater p q u v s f c d l r e g greater is =
      let less : cmp d.1 c.1 ≡ Less = o.total.antisymm d.1 c.1 ∙ ap ordering_reverse greater in
      least_right p q v s f d l r g (subst (All (λ x. cmp d.1 x.1 ≡ Less)) (sym e) (below_first d.1 c u (subst (AreRising K cmp) e l) less)) is

  pub none_below : (t : T) (cs : List (F × T)) → length cs ≡ 0 → All (λ d. cmp t d.1 ≡ Less) cs
  none_below t cs e k d l = absurd (omega (arith, e, l))

  -- ---- one term after the other

  -- the sum a has what is in c, and all of p and s times q, whose terms are above those in c
  pub record IsLeft (a : List (ℕ × ℕ) → F) (s : F) (c p q : List (F × T)) : Type 0 where
    pub done : AreRising K cmp c
    pub left : AreRising K cmp p
    pub right : AreRising K cmp q
    pub below_left : All (λ x. All (λ t. cmp x.1 t.1 ≡ Less) p) c
    pub below_right : All (λ x. All (λ t. cmp x.1 t.1 ≡ Less) q) c
    pub sum : added K (sum_of c) (added K (sum_of p) (scaled K s (sum_of q))) ≡ a

  pub all_left : (s : F) (p q : List (F × T)) → AreRising K cmp p → AreRising K cmp q → IsLeft (added K (sum_of p) (scaled K s (sum_of q))) s [] p q
  all_left s p q l r = record {
    done = rising-nil;
    left = l;
    right = r;
    below_left = λ k d b. absurd (omega arith);
    below_right = λ k d b. absurd (omega arith);
    sum = zero_plus (coefficients_are_module K N) (added K (sum_of p) (scaled K s (sum_of q)));
  }

  pub none_left : (a : List (ℕ × ℕ) → F) (s : F) (c p q : List (F × T)) → IsLeft a s c p q → p ≡ [] → q ≡ [] → sum_of c ≡ a
  none_left a s c p q h e f =
      let M = coefficients_are_module {I = List (ℕ × ℕ)} K N in
      sym (M.plus_zero (sum_of c))
      ∙ ap (added K (sum_of c)) (sym (M.plus_zero (nothing K)) ∙ ap (added K (nothing K)) (sym (scale_zero M s)))
      ∙ ap₂ (λ u v. added K (sum_of c) (added K (sum_of u) (scaled K s (sum_of v)))) (sym e) (sym f)
      ∙ h.sum

  -- t, the next term, has a copy r
  pub done_below : (a : List (ℕ × ℕ) → F) (s f : F) (c p q u v : List (F × T)) (t r : T) → IsLeft a s c p q → IsLeastTerm K cmp listed p s q f t u v → listed r ≡ listed t → All (λ x. cmp x.1 r ≡ Less) c
  done_below a s f c p q u v t r h least e k d b = less_to t r (get_or c k d).1 (sym e) (least.least (get_or c k d).1 (h.below_left k d b) (h.below_right k d b))

  pub next_left : (a : List (ℕ × ℕ) → F) (s f : F) (c b p q u v : List (F × T)) (t r : T) → IsLeft a s c p q → IsLeastTerm K cmp listed p s q f t u v → listed r ≡ listed t → AreRising K cmp b → sum_of b ≡ added K (sum_of c) (single K (listed r) f) → All (λ x. cmp x.1 r ≢ Greater) b → IsLeft a s b u v
  next_left a s f c b p q u v t r h least e rising sum upto =
      let M = coefficients_are_module {I = List (ℕ × ℕ)} K N in
      record {
        done = rising;
        left = least.left;
        right = least.right;
        below_left = λ k d l i x m. upto_less (get_or b k d).1 r (get_or u i x).1 (upto k d l) (less_from t r (get_or u i x).1 (sym e) (least.below_left i x m));
        below_right = λ k d l i x m. upto_less (get_or b k d).1 r (get_or v i x).1 (upto k d l) (less_from t r (get_or v i x).1 (sym e) (least.below_right i x m));
        sum =
            ap (λ t. added K t (added K (sum_of u) (scaled K s (sum_of v)))) (sum ∙ ap (λ n. added K (sum_of c) (single K n f)) e)
            ∙ M.plus_assoc (sum_of c) (single K (listed t) f) (added K (sum_of u) (scaled K s (sum_of v)))
            ∙ ap (added K (sum_of c)) (sym least.sum)
            ∙ h.sum;
      }

  -- what is pushed above the others
  pub pushed_upto : (cs : List (F × T)) (c : F × T) → All (λ d. cmp d.1 c.1 ≡ Less) cs → All (λ d. cmp d.1 c.1 ≢ Greater) (cs ++ c ∷ [])
  pushed_upto cs c h =
      All-push (λ d. cmp d.1 c.1 ≢ Greater) cs c (λ k d l. not_greater (get_or cs k d).1 c.1 (h k d l)) (tied_not_greater c.1 c.1 (o.tied c.1 c.1 refl))

  -- ---- like terms one after the other, from the back of a list that falls

  -- the part of a list before its last item
  front_at : (cs : List (F × T)) (c d : F × T) (k : ℕ) → k < length cs → get_or (cs ++ c ∷ []) k d ≡ get_or cs k d
  front_at cs c d k l = get_or_append_left cs (c ∷ []) d k l

  last_at : (cs : List (F × T)) (c d : F × T) → get_or (cs ++ c ∷ []) (length cs) d ≡ c
  last_at cs c d = get_or_push cs c d (length cs) refl

  abbrev pub IsFalling : List (F × T) → Type 0
  IsFalling = AllPairs (λ c d. cmp d.1 c.1 ≢ Greater)

  -- the sum a has what is in done, none of which is above what is in rest, and all of rest
  pub record IsGathering (a : List (ℕ × ℕ) → F) (done rest : List (F × T)) : Type 0 where
    pub rising : AreRising K cmp done
    pub falling : IsFalling rest
    pub upto : All (λ x. All (λ r. cmp x.1 r.1 ≢ Greater) rest) done
    pub sum : added K (sum_of done) (sum_of rest) ≡ a

  falling_sorted : (cs : List (F × T)) → IsSortedBy (λ x y. is_lt (cmp y.1 x.1)) cs → IsFalling cs
  falling_sorted cs h i j d l m e =
      let far : is_lt (cmp (get_or cs i d).1 (get_or cs j d).1) ≡ false =
      sorted_far (λ x y. is_lt (cmp y.1 x.1)) (IsStrictWeakOrder-flip (λ x y. is_lt (cmp x.1 y.1)) (ranks_by o.total (λ x. x.1))) cs h i j d (omega arith) m in
      let less : cmp (get_or cs i d).1 (get_or cs j d).1 ≡ Less = o.total.antisymm (get_or cs i d).1 (get_or cs j d).1 ∙ ap ordering_reverse e in
      let same : true ≡ false = sym (ap is_lt less) ∙ far in
      cc

  pub gathering_start : (cs : List (F × T)) → IsFalling cs → IsGathering (sum_of cs) [] cs
  gathering_start cs h = record {
    rising = rising-nil;
    falling = h;
    upto = λ k d l. absurd (omega arith);
    sum = zero_plus (coefficients_are_module K N) (sum_of cs);
  }

  pub gathering_end : (a : List (ℕ × ℕ) → F) (done rest : List (F × T)) → IsGathering a done rest → length rest ≡ 0 → sum_of done ≡ a
  gathering_end a done [] h e = sym ((coefficients_are_module {I = List (ℕ × ℕ)} K N).plus_zero (sum_of done)) ∙ h.sum
  gathering_end a done (c ∷ rest) h e = absurd (omega arith)

  -- the next term isn't below what is done
  pub gathering_upto : (a : List (ℕ × ℕ) → F) (done rest left : List (F × T)) (c : F × T) → IsGathering a done rest → rest ≡ left ++ c ∷ [] → All (λ x. cmp x.1 c.1 ≢ Greater) done
  gathering_upto a done rest left c h e k d l =
      let up = subst (λ r. All (λ x. cmp (get_or done k d).1 x.1 ≢ Greater) r) e (h.upto k d l) in
      subst (λ x. cmp (get_or done k d).1 x.1 ≢ Greater) (last_at left c d) (up (length left) d (omega (arith, length_push left c)))

  pub gathering_next : (a : List (ℕ × ℕ) → F) (like f : F) (done without with' rest left : List (F × T)) (c : F × T) → IsGathering a done rest → rest ≡ left ++ c ∷ []
      → sum_of done ≡ added K (sum_of without) (single K (listed c.1) like)
      → AreRising K cmp with' → sum_of with' ≡ added K (sum_of without) (single K (listed c.1) f) → All (λ x. cmp x.1 c.1 ≢ Greater) with' → f ≡ K.plus like c.0
      → IsGathering a with' left
  gathering_next a like f done without with' rest left c h e taken rising pushed upto is =
      let M = coefficients_are_module {I = List (ℕ × ℕ)} K N in
      let m = single K (listed c.1) in
      let falling : IsFalling (left ++ c ∷ []) = subst IsFalling e h.falling in
      let W = sum_of without in
      let L = sum_of left in
      record {
        rising = rising;
        falling = λ i j d l b.
            subst (λ x. cmp x.1 (get_or left i d).1 ≢ Greater) (front_at left c d j b)
            (subst (λ x. cmp (get_or (left ++ c ∷ []) j d).1 x.1 ≢ Greater) (front_at left c d i (omega arith)) (falling i j d l (omega (arith, length_push left c))));
        upto = λ k d l i x b.
            let next : cmp c.1 (get_or left i x).1 ≢ Greater =
            subst (λ y. cmp y.1 (get_or left i x).1 ≢ Greater) (last_at left c x)
            (subst (λ y. cmp (get_or (left ++ c ∷ []) (length left) x).1 y.1 ≢ Greater) (front_at left c x i b) (falling i (length left) x b (omega (arith, length_push left c)))) in
            upto_upto (get_or with' k d).1 c.1 (get_or left i x).1 (upto k d l) next;
        sum =
            ap (λ t. added K t L) (pushed ∙ ap (added K W) (ap m is ∙ sym (single-added K N (listed c.1) like c.0)) ∙ sym (M.plus_assoc W (m like) (m c.0)))
            ∙ M.plus_assoc (added K W (m like)) (m c.0) L
            ∙ ap₂ (added K) (sym taken) (M.plus_comm (m c.0) L ∙ sym (keyed-push K N listed left c) ∙ ap sum_of (sym e))
            ∙ h.sum;
      }

  -- ---- the last term, where it's like the next

  pub last_is : (cs ds : List (F × T)) (c d : F × T) → slice_get cs (length cs - 1) ≡ Some c → cs ≡ ds ++ d ∷ [] → c ≡ d
  last_is cs ds c d e f =
      let n : length cs - 1 ≡ length ds = omega (arith, length_push ds d, ap length f) in
      let found : get_or cs (length cs - 1) d ≡ c = get_or_from_slice_get cs (length cs - 1) c d e in
      sym found ∙ ap₂ (λ a k. get_or a k d) f n ∙ last_at ds d d

  pub like_rising : (cs ds : List (F × T)) (c : F × T) → AreRising K cmp cs → cs ≡ ds ++ c ∷ [] → AreRising K cmp ds
  like_rising cs ds c h e =
      let k = subst (AreRising K cmp) e h in
      record {
        rising = λ i j d l b.
            subst (λ x. cmp (get_or ds i d).1 x.1 ≡ Less) (front_at ds c d j b)
            (subst (λ x. cmp x.1 (get_or (ds ++ c ∷ []) j d).1 ≡ Less) (front_at ds c d i (omega arith)) (k.rising i j d l (omega (arith, length_push ds c))));
        not_zero = λ i d b. subst (λ x. x.0 ≢ K.zero) (front_at ds c d i b) (k.not_zero i d (omega (arith, length_push ds c)));
      }

  pub like_below : (cs ds : List (F × T)) (c : F × T) (t : T) → AreRising K cmp cs → cs ≡ ds ++ c ∷ [] → listed c.1 ≡ listed t → All (λ x. cmp x.1 t ≡ Less) ds
  like_below cs ds c t h e same i d b =
      let k = subst (AreRising K cmp) e h in
      less_to c.1 t (get_or ds i d).1 same
      (subst (λ x. cmp (get_or ds i d).1 x.1 ≡ Less) (last_at ds c d)
      (subst (λ x. cmp x.1 (get_or (ds ++ c ∷ []) (length ds) d).1 ≡ Less) (front_at ds c d i b) (k.rising i (length ds) d b (omega (arith, length_push ds c)))))

  pub like_sum : (cs ds : List (F × T)) (c : F × T) (t : T) → cs ≡ ds ++ c ∷ [] → listed c.1 ≡ listed t → sum_of cs ≡ added K (sum_of ds) (single K (listed t) c.0)
  like_sum cs ds c t e same = ap sum_of e ∙ keyed-push K N listed ds c ∙ ap (λ n. added K (sum_of ds) (single K n c.0)) same

  pub none_last : (cs : List (F × T)) (t : T) → slice_get cs (length cs - 1) ≡ None → All (λ x. cmp x.1 t ≡ Less) cs
  none_last cs t e k d l = ⊎_elim
      (λ found. let same : None ≡ Some found.0 = sym e ∙ found.2 in cc)
      (λ none. let past = none.0 in absurd (omega arith))
      (slice_get_cases cs (length cs - 1)).1

  -- the last isn't like it, so none is
  pub unlike_below : (cs : List (F × T)) (c : F × T) (t : T) → AreRising K cmp cs → All (λ x. cmp x.1 t ≢ Greater) cs → slice_get cs (length cs - 1) ≡ Some c → listed c.1 ≢ listed t → All (λ x. cmp x.1 t ≡ Less) cs
  unlike_below cs c t h upto e ne i d b =
      let found : get_or cs (length cs - 1) d ≡ c = get_or_from_slice_get cs (length cs - 1) c d e in
      let x = get_or cs i d in
      by x (cmp x.1 t) refl (upto i d b)
      (λ (same : listed x.1 ≡ listed t). ⊎_elim
      (λ (l : i < length cs - 1).
      let less : cmp x.1 c.1 ≡ Less = subst (λ y. cmp x.1 y.1 ≡ Less) found (h.rising i (length cs - 1) d l (omega arith)) in
      let up : cmp c.1 t ≢ Greater = subst (λ y. cmp y.1 t ≢ Greater) found (upto (length cs - 1) d (omega arith)) in
      up (o.total.antisymm c.1 t ∙ ap ordering_reverse (less_from x.1 t c.1 same less)))
      (λ (l : length cs - 1 ≤ i).
      let at : i ≡ length cs - 1 = omega arith in
      ne (ap (λ y. listed y.1) (sym found ∙ ap (λ n. get_or cs n d) (sym at)) ∙ same))
      (cases_lt i (length cs - 1)))
    where
      by : (x : F × T) (r : Ordering) → cmp x.1 t ≡ r → cmp x.1 t ≢ Greater → (listed x.1 ≢ listed t) → cmp x.1 t ≡ Less
      by x Less e up other = e
      by x Equal e up other = absurd (other (o.same x.1 t e))
      by x Greater e up other = absurd (up e)

  pub unlike_sum : (cs : List (F × T)) (t : T) (f : F) → f ≡ K.zero → sum_of cs ≡ added K (sum_of cs) (single K (listed t) f)
  unlike_sum cs t f e = sym (ap (added K (sum_of cs)) (ap (single K (listed t)) e ∙ single-zero K N (listed t)) ∙ (coefficients_are_module {I = List (ℕ × ℕ)} K N).plus_zero (sum_of cs))

  -- after a sort by the terms, the greatest first
  pub falling_from_sort_by : {C : Type 0} {g : Mut C (Bor (F × T) × (Bor (F × T) × Unit {0})) Ordering} {f : C} (cs : List (F × T))
      → ((lt : F × T → F × T → Bool) → IsStrictWeakOrder lt → ComparesAs g lt f → IsSortedBy lt cs)
      → ((a : Bor (F × T) × (Bor (F × T) × Unit {0})) (r : Ordering) (f' : C) → Called g f a r f' → (r ≡ cmp a.1.0.now.1 a.0.now.1) × (f' ≡ f)) → IsFalling cs
  falling_from_sort_by {g = g} {f = f} cs up h =
      falling_sorted cs (up (λ x y. is_lt (cmp y.1 x.1)) (IsStrictWeakOrder-flip (λ x y. is_lt (cmp x.1 y.1)) (ranks_by o.total (λ x. x.1)))
      (always_returns_same g (λ a r. is_lt r ≡ is_lt (cmp a.1.0.now.1 a.0.now.1)) f (λ a r f' k. (ap is_lt (h a r f' k).0, (h a r f' k).1))))

  -- ---- lists of which the same is told

  same_length : (cs ds : List (F × T)) → keyed listed ds ≡ keyed listed cs → length ds ≡ length cs
  same_length cs ds e = sym (length-map ds (λ c. (c.0, listed c.1))) ∙ ap length e ∙ length-map cs (λ c. (c.0, listed c.1))

  same_at : (cs ds : List (F × T)) (k : ℕ) (d : F × T) → keyed listed ds ≡ keyed listed cs → k < length ds → ◌≡◌ {A = F × List (ℕ × ℕ)} ((get_or ds k d).0, listed (get_or ds k d).1) ((get_or cs k d).0, listed (get_or cs k d).1)
  same_at cs ds k d e l =
      sym (get_or-map (λ c. (c.0, listed c.1)) ds k d (d.0, listed d.1) l)
      ∙ ap (λ t. get_or t k (d.0, listed d.1)) e
      ∙ get_or-map (λ c. (c.0, listed c.1)) cs k d (d.0, listed d.1) (omega (arith, same_length cs ds e))

  pub All_like : (P : F × List (ℕ × ℕ) → Type 0) (cs ds : List (F × T)) → keyed listed ds ≡ keyed listed cs → All (λ c. P (c.0, listed c.1)) cs → All (λ c. P (c.0, listed c.1)) ds
  All_like P cs ds e h k d l = subst P (sym (same_at cs ds k d e l)) (h k d (omega (arith, same_length cs ds e)))

  pub rising_like : (cs ds : List (F × T)) → keyed listed ds ≡ keyed listed cs → AreRising K cmp cs → AreRising K cmp ds
  rising_like cs ds e h =
      let long = same_length cs ds e in
      record {
        rising = λ i j d l m.
            less_from (get_or cs i d).1 (get_or ds i d).1 (get_or ds j d).1 (sym (ap (λ p. p.1) (same_at cs ds i d e (omega arith))))
            (less_to (get_or cs j d).1 (get_or ds j d).1 (get_or cs i d).1 (sym (ap (λ p. p.1) (same_at cs ds j d e m))) (h.rising i j d l (omega arith)));
        not_zero = All_like (λ p. p.0 ≢ K.zero) cs ds e h.not_zero;
      }

  pub keyed_clones : (R : F × T → F × T → Type 0) → ((c d : F × T) → R c d → (d.0 ≡ c.0) × (listed d.1 ≡ listed c.1)) → (cs ds : List (F × T)) → AllZip R cs ds → keyed listed ds ≡ keyed listed cs
  keyed_clones R is [] [] h = refl
  keyed_clones R is [] (d ∷ ds) h = absurd h
  keyed_clones R is (c ∷ cs) [] h = absurd h
  keyed_clones R is (c ∷ cs) (d ∷ ds) h = ap₂ (λ u us. u ∷ us) (λ i. ((is c d h.0).0 i, (is c d h.0).1 i)) (keyed_clones R is cs ds h.1)

  -- ---- variables

  pub same_sum_All : (P : List (ℕ × ℕ) → Type 0) → ((t : List (ℕ × ℕ)) → P t ⊎ (¬ P t)) → (cs es : List (F × T)) → All (λ c. P (listed c.1)) cs → AreRising K cmp es → sum_of es ≡ sum_of cs → All (λ c. P (listed c.1)) es
  same_sum_All P cases cs es h rising e = All-from_sum P cases es rising (λ t no. ap (λ a. a t) e ∙ none_from_All P cs h t no)

  pub sum_within : (m n k : ℕ) (s : F) (cs ds es : List (F × T)) → m ≤ k → n ≤ k → All (λ c. IsWithin m (listed c.1)) cs → All (λ c. IsWithin n (listed c.1)) ds → AreRising K cmp es
      → sum_of es ≡ added K (sum_of cs) (scaled K s (sum_of ds)) → All (λ c. IsWithin k (listed c.1)) es
  sum_within m n k s cs ds es l r f g rising e =
      All-from_sum (IsWithin k) (cases_within k) es rising (λ t no.
      ap (λ a. a t) e
      ∙ ap₂ (λ x y. K.plus x (K.times s y))
      (none_from_All (IsWithin m) cs f t (λ w. no (IsWithin-more m k t l w)))
      (none_from_All (IsWithin n) ds g t (λ w. no (IsWithin-more n k t r w)))
      ∙ ap (K.plus K.zero) (scale_zero (itself_is_module K N) s)
      ∙ N.plus_zero K.zero)

  -- ---- the degree and the value, term by term

  pub bounded_next : (cs : List (F × T)) (i d e : ℕ) (c : F × T) → i < length cs → c ≡ get_or cs i c → All (λ c. total_degree (listed c.1) ≤ d) (take i cs) → d ≤ e → total_degree (listed c.1) ≤ e → All (λ c. total_degree (listed c.1) ≤ e) (take (i + 1) cs)
  bounded_next cs i d e c l is h up top =
      All-more (λ c. total_degree (listed c.1) ≤ e) cs i c l
      (All-weaker (λ c. total_degree (listed c.1) ≤ d) (λ c. total_degree (listed c.1) ≤ e) (λ c b. omega arith) (take i cs) h)
      (subst (λ x. total_degree (listed x.1) ≤ e) is top)

  pub reached_next : (cs : List (F × T)) (i d e : ℕ) (c : F × T) → i < length cs → c ≡ get_or cs i c → (0 < d → Any (λ c. total_degree (listed c.1) ≡ d) (take i cs)) → (e ≡ d) ⊎ (e ≡ total_degree (listed c.1)) → 0 < e → Any (λ c. total_degree (listed c.1) ≡ e) (take (i + 1) cs)
  reached_next cs i d e c l is h either pos =
      let next : take i cs ++ c ∷ [] ≡ take (i + 1) cs = ap (λ x. take i cs ++ x ∷ []) is ∙ sym (take_more cs i c l) in
      ⊎_elim
      (λ (f : e ≡ d).
      let r = h (omega arith) in
      let b : r.0 < length (take i cs) = r.2 in
      subst (Any (λ c. total_degree (listed c.1) ≡ e)) next
      (r.0, r.1, omega (arith, b, length_push (take i cs) c), get_or_append_left (take i cs) (c ∷ []) r.1 r.0 b ∙ r.3, r.4 ∙ sym f))
      (λ (f : e ≡ total_degree (listed c.1)). subst (Any (λ c. total_degree (listed c.1) ≡ e)) next (Any-push (λ c. total_degree (listed c.1) ≡ e) (take i cs) c (sym f)))
      either

  pub value_next : (cs : List (F × T)) (i : ℕ) (c : F × T) (x : List F) (y z : F) → i < length cs → c ≡ get_or cs i c → y ≡ sum_at K (keyed listed (take i cs)) x → z ≡ K.plus y (K.times c.0 (term_value K (listed c.1) x)) → z ≡ sum_at K (keyed listed (take (i + 1) cs)) x
  value_next cs i c x y z l is e f =
      f
      ∙ ap (λ v. K.plus v (K.times c.0 (term_value K (listed c.1) x))) e
      ∙ sym (sum_at-push K N (keyed listed (take i cs)) (c.0, listed c.1) x)
      ∙ ap (λ ds. sum_at K ds x) (sym (map_push (λ c. (c.0, listed c.1)) (take i cs) c))
      ∙ ap (λ ds. sum_at K (keyed listed ds) x) (ap (λ d. take i cs ++ d ∷ []) is ∙ sym (take_more cs i c l))
