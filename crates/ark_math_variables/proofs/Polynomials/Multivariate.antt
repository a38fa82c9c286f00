-- Polynomials in several variables: what lists of terms denote, their values, and the total degree.
use Rattle.std.proofs.Common.{◌≡◌, ◌≢◌, ℕ, zero, suc, ◌<◌, ◌≤◌, Bool, true, false, cond, if◌then◌else◌, List, [], ◌∷◌, ◌++◌, map, length, get_or, All, AllPairs, Any, IsPermutation, sym, ◌∙◌, ap, ap₂, refl, subst, arith, ⊎_elim}
use mathlib.Core.Path.{fun_ext}
use Rattle.std.proofs.lemmas.Bool.{cases_order, cond-true, cond-false, cond_both}
use Rattle.std.proofs.lemmas.List.Elements.{All-head, All-tail}
use Rattle.ark_math.specs.Field.{FieldOn, IsField}
use Rattle.ark_math_variables.specs.Term.{total_degree, term_value}
use Rattle.ark_math.specs.Forms.{IsPolynomials}
use Rattle.ark_math.specs.Univariate.{nothing, added, opposite, scaled, coefficient_operations}
use Rattle.ark_math_variables.specs.Multivariate.{same_term, single, of_terms, sum_at, IsValueAt, IsTotalDegree}
use Rattle.ark_math.proofs.Algebra.Groups.{itself_is_module, zero_plus, scale_zero}
use Rattle.ark_math_polynomials.proofs.Polynomials.Permuted.{total-permutation}
use Rattle.ark_math.proofs.Algebra.Solve.{nought, negative, ◌⊕◌, ◌⊖◌, ◌⊗◌}
use Rattle.ark_math.proofs.Algebra.Ring.{ring1, ring2, ring2_by, ring3, ring4, ring5}
use Rattle.ark_math_polynomials.proofs.Polynomials.Univariate.{coefficients_are_module}
use Rattle.ark_math_variables.proofs.Polynomials.Terms.{same_term-Decides, same_term-same, same_term-other, cases_term}

-- a list without one term
abbrev pub without : {F : Type 0} → List (ℕ × ℕ) → List (F × List (ℕ × ℕ)) → List (F × List (ℕ × ℕ))
without t [] = []
without t (c ∷ cs) = if same_term c.1 t then without t cs else c ∷ without t cs

-- the same terms with the coefficients that f gives
abbrev pub with_each : {F : Type 0} → (F → F) → List (F × List (ℕ × ℕ)) → List (F × List (ℕ × ℕ))
with_each f cs = map (λ c. (f c.0, c.1)) cs

pub length-without : {F : Type 0} (t : List (ℕ × ℕ)) (cs : List (F × List (ℕ × ℕ))) → length (without t cs) ≤ length cs
length-without t [] = omega arith
length-without t (c ∷ cs) =
    let h = length-without t cs in
    cond_both (same_term c.1 t) (without t cs) (c ∷ without t cs) (λ ds. length ds ≤ suc (length cs)) (λ _. omega arith) (λ _. omega arith)

module _ {F : Type 0} (K : FieldOn F) where
  pub single-same : (t : List (ℕ × ℕ)) (c : F) → single K t c t ≡ c
  single-same t c = cond-true (same_term t t) c K.zero (same_term-same t)

  pub single-other : (t : List (ℕ × ℕ)) (c : F) (u : List (ℕ × ℕ)) → t ≢ u → single K t c u ≡ K.zero
  single-other t c u ne = cond-false (same_term t u) c K.zero (same_term-other t u ne)

  -- ---- the total degree

  nothing_total_degree : IsTotalDegree K (nothing K) 0
  nothing_total_degree = record { within = λ t ne. absurd (ne refl); reached = λ l. absurd (omega arith) }

  one_total_degree : (a : List (ℕ × ℕ) → F) (d e : ℕ) → IsTotalDegree K a d → IsTotalDegree K a e → d ≡ e
  one_total_degree a d e f g =
      ⊎_elim
      (λ (h : d ≡ e). h)
      (λ h. ⊎_elim
      (λ (l : d < e). let r = g.reached (omega arith) in let w = f.within r.0 r.1 in let s = r.2 in absurd (omega arith))
      (λ (l : e < d). let r = f.reached (omega arith) in let w = g.within r.0 r.1 in let s = r.2 in absurd (omega arith)) h)
      (cases_order d e)

module _ {F : Type 0} (K : FieldOn F) (N : IsField K) where
  -- ---- one term

  pub single-zero : (t : List (ℕ × ℕ)) → single K t K.zero ≡ nothing K
  single-zero t = fun_ext (λ u. by (same_term t u))
    where
      by : (b : Bool) → cond b K.zero K.zero ≡ K.zero
      by true = refl
      by false = refl

  pub single-added : (t : List (ℕ × ℕ)) (c e : F) → added K (single K t c) (single K t e) ≡ single K t (K.plus c e)
  single-added t c e = fun_ext (λ u. by (same_term t u))
    where
      by : (b : Bool) → K.plus (cond b c K.zero) (cond b e K.zero) ≡ cond b (K.plus c e) K.zero
      by true = refl
      by false = N.plus_zero K.zero

  single-opposite : (t : List (ℕ × ℕ)) (c : F) → single K t (K.negated c) ≡ opposite K (single K t c)
  single-opposite t c = fun_ext (λ u. by (same_term t u))
    where
      by : (b : Bool) → cond b (K.negated c) K.zero ≡ K.negated (cond b c K.zero)
      by true = refl
      by false = ring1 K N (λ x. (nought, negative nought)) refl K.one

  pub single-scaled : (t : List (ℕ × ℕ)) (s c : F) → single K t (K.times s c) ≡ scaled K s (single K t c)
  single-scaled t s c = fun_ext (λ u. by (same_term t u))
    where
      by : (b : Bool) → cond b (K.times s c) K.zero ≡ K.times s (cond b c K.zero)
      by true = refl
      by false = sym (scale_zero (itself_is_module K N) s)

  -- ---- lists of terms

  of_terms-append : (cs ds : List (F × List (ℕ × ℕ))) → of_terms K (cs ++ ds) ≡ added K (of_terms K cs) (of_terms K ds)
  of_terms-append [] ds = sym (zero_plus (coefficients_are_module K N) (of_terms K ds))
  of_terms-append (c ∷ cs) ds =
      ap (added K (single K c.1 c.0)) (of_terms-append cs ds)
      ∙ sym ((coefficients_are_module K N).plus_assoc (single K c.1 c.0) (of_terms K cs) (of_terms K ds))

  pub of_terms-push : (cs : List (F × List (ℕ × ℕ))) (c : F × List (ℕ × ℕ)) → of_terms K (cs ++ c ∷ []) ≡ added K (of_terms K cs) (single K c.1 c.0)
  of_terms-push cs c = of_terms-append cs (c ∷ []) ∙ ap (added K (of_terms K cs)) ((coefficients_are_module K N).plus_zero (single K c.1 c.0))

  -- in any order terms have one sum
  pub of_terms-permutation : (cs ds : List (F × List (ℕ × ℕ))) → IsPermutation cs ds → of_terms K ds ≡ of_terms K cs
  of_terms-permutation cs ds h = total-permutation N (coefficients_are_module K N) (λ c. single K c.1 c.0) (of_terms K) (λ c cs. refl) cs ds h

  of_terms-opposite : (cs : List (F × List (ℕ × ℕ))) → of_terms K (with_each K.negated cs) ≡ opposite K (of_terms K cs)
  of_terms-opposite [] = fun_ext (λ u. ring1 K N (λ x. (nought, negative nought)) refl K.one)
  of_terms-opposite (c ∷ cs) =
      ap₂ (added K) (single-opposite c.1 c.0) (of_terms-opposite cs)
      ∙ fun_ext (λ u. ring2 K N (λ a b. (negative a ⊕ negative b, negative (a ⊕ b))) refl (single K c.1 c.0 u) (of_terms K cs u))

  of_terms-scaled : (s : F) (cs : List (F × List (ℕ × ℕ))) → of_terms K (with_each (K.times s) cs) ≡ scaled K s (of_terms K cs)
  of_terms-scaled s [] = fun_ext (λ u. sym (scale_zero (itself_is_module K N) s))
  of_terms-scaled s (c ∷ cs) =
      ap₂ (added K) (single-scaled c.1 s c.0) (of_terms-scaled s cs)
      ∙ sym ((coefficients_are_module K N).scale_plus s (single K c.1 c.0) (of_terms K cs))

  pub of_terms-without_same : (t : List (ℕ × ℕ)) (cs : List (F × List (ℕ × ℕ))) → of_terms K (without t cs) t ≡ K.zero
  of_terms-without_same t [] = refl
  of_terms-without_same t (c ∷ cs) =
      let h = of_terms-without_same t cs in
      cond_both (same_term c.1 t) (without t cs) (c ∷ without t cs) (λ ds. of_terms K ds t ≡ K.zero) (λ _. h)
      (λ e. ap₂ K.plus (cond-false (same_term c.1 t) c.0 K.zero e) h ∙ N.plus_zero K.zero)

  pub of_terms-without_other : (t : List (ℕ × ℕ)) (cs : List (F × List (ℕ × ℕ))) (u : List (ℕ × ℕ)) → t ≢ u → of_terms K (without t cs) u ≡ of_terms K cs u
  of_terms-without_other t [] u ne = refl
  of_terms-without_other t (c ∷ cs) u ne =
      let h = of_terms-without_other t cs u ne in
      cond_both (same_term c.1 t) (without t cs) (c ∷ without t cs) (λ ds. of_terms K ds u ≡ of_terms K (c ∷ cs) u)
      (λ e.
      h ∙ sym (ap (λ v. K.plus v (of_terms K cs u)) (single-other K c.1 c.0 u (λ f. ne (sym ((same_term-Decides c.1 t).0 e) ∙ f)))
      ∙ zero_plus (itself_is_module K N) (of_terms K cs u)))
      (λ _. ap (K.plus (single K c.1 c.0 u)) h)

  without_nothing : (t : List (ℕ × ℕ)) (cs : List (F × List (ℕ × ℕ))) → of_terms K cs ≡ nothing K → of_terms K (without t cs) ≡ nothing K
  without_nothing t cs e = fun_ext (λ u. ⊎_elim
      (λ (f : t ≡ u). subst (λ v. of_terms K (without t cs) v ≡ K.zero) f (of_terms-without_same t cs))
      (λ (ne : t ≢ u). of_terms-without_other t cs u ne ∙ ap (λ a. a u) e)
      (cases_term t u))

  -- ---- one coefficient

  pub of_terms-absent : (cs : List (F × List (ℕ × ℕ))) (t : List (ℕ × ℕ)) → All (λ c. c.1 ≢ t) cs → of_terms K cs t ≡ K.zero
  of_terms-absent [] t h = refl
  of_terms-absent (c ∷ cs) t h =
      ap₂ K.plus (single-other K c.1 c.0 t (All-head (λ e. e.1 ≢ t) c cs h)) (of_terms-absent cs t (All-tail (λ e. e.1 ≢ t) c cs h)) ∙ N.plus_zero K.zero

  -- a term with a coefficient stands in the list
  pub of_terms-present : (cs : List (F × List (ℕ × ℕ))) (t : List (ℕ × ℕ)) → of_terms K cs t ≢ K.zero → Any (λ c. c.1 ≡ t) cs
  of_terms-present [] t ne = absurd (ne refl)
  of_terms-present (c ∷ cs) t ne = ⊎_elim
      (λ (e : c.1 ≡ t). (0, c, omega arith, refl, e))
      (λ (o : c.1 ≢ t).
      let r = of_terms-present cs t (λ z. ne (ap₂ K.plus (single-other K c.1 c.0 t o) z ∙ N.plus_zero K.zero)) in
      let l = r.2 in
      (suc r.0, r.1, omega (arith, l), r.3, r.4))
      (cases_term c.1 t)

  -- ---- lists in which no term stands twice

  pub of_terms-first : (c : F × List (ℕ × ℕ)) (cs : List (F × List (ℕ × ℕ))) → All (λ e. c.1 ≢ e.1) cs → of_terms K (c ∷ cs) c.1 ≡ c.0
  of_terms-first c cs h = ap₂ K.plus (single-same K c.1 c.0) (of_terms-absent cs c.1 (λ k d l e. h k d l (sym e))) ∙ N.plus_zero c.0

  of_terms-at : (cs : List (F × List (ℕ × ℕ))) (k : ℕ) (d : F × List (ℕ × ℕ)) → AllPairs (λ c e. c.1 ≢ e.1) cs → k < length cs → of_terms K cs (get_or cs k d).1 ≡ (get_or cs k d).0
  of_terms-at [] k d h l = absurd (omega arith)
  of_terms-at (c ∷ cs) zero d h l = of_terms-first c cs (λ j e b. h 0 (suc j) e (omega arith) (omega arith))
  of_terms-at (c ∷ cs) (suc k) d h l =
      let e = get_or cs k d in
      ap₂ K.plus (single-other K c.1 c.0 e.1 (h 0 (suc k) d (omega arith) (omega arith))) (of_terms-at cs k d (λ i j e b m. h (suc i) (suc j) e (omega arith) (omega arith)) (omega arith))
      ∙ zero_plus (itself_is_module K N) e.0

  -- the greatest degree of a term in it is its own
  pub of_terms_degree : (cs : List (F × List (ℕ × ℕ))) (d : ℕ) → AllPairs (λ c e. c.1 ≢ e.1) cs → All (λ c. c.0 ≢ K.zero) cs → All (λ c. total_degree c.1 ≤ d) cs → (0 < d → Any (λ c. total_degree c.1 ≡ d) cs) → IsTotalDegree K (of_terms K cs) d
  of_terms_degree cs d apart some bounded top = record {
    within = λ t ne.
        let r = of_terms-present cs t ne in
        subst (λ s. total_degree s ≤ d) (ap (λ c. c.1) r.3 ∙ r.4) (bounded r.0 r.1 r.2);
    reached = λ l.
        let r = top l in
        let here : of_terms K cs r.1.1 ≡ (get_or cs r.0 r.1).0 = ap (λ c. of_terms K cs c.1) (sym r.3) ∙ of_terms-at cs r.0 r.1 apart r.2 in
        (r.1.1, (λ e. some r.0 r.1 r.2 (sym here ∙ e)), r.4);
  }

  -- ---- sums at a point

  pub sum_at-append : (cs ds : List (F × List (ℕ × ℕ))) (x : List F) → sum_at K (cs ++ ds) x ≡ K.plus (sum_at K cs x) (sum_at K ds x)
  sum_at-append [] ds x = sym (zero_plus (itself_is_module K N) (sum_at K ds x))
  sum_at-append (c ∷ cs) ds x =
      let v = K.times c.0 (term_value K c.1 x) in
      ap (K.plus v) (sum_at-append cs ds x) ∙ sym (N.plus_assoc v (sum_at K cs x) (sum_at K ds x))

  pub sum_at-push : (cs : List (F × List (ℕ × ℕ))) (c : F × List (ℕ × ℕ)) (x : List F) → sum_at K (cs ++ c ∷ []) x ≡ K.plus (sum_at K cs x) (K.times c.0 (term_value K c.1 x))
  sum_at-push cs c x = sum_at-append cs (c ∷ []) x ∙ ap (K.plus (sum_at K cs x)) (N.plus_zero (K.times c.0 (term_value K c.1 x)))

  sum_at-opposite : (cs : List (F × List (ℕ × ℕ))) (x : List F) → sum_at K (with_each K.negated cs) x ≡ K.negated (sum_at K cs x)
  sum_at-opposite [] x = ring1 K N (λ x. (nought, negative nought)) refl K.one
  sum_at-opposite (c ∷ cs) x =
      ap (K.plus (K.times (K.negated c.0) (term_value K c.1 x))) (sum_at-opposite cs x)
      ∙ ring3 K N (λ c v s. (negative c ⊗ v ⊕ negative s, negative (c ⊗ v ⊕ s))) refl c.0 (term_value K c.1 x) (sum_at K cs x)

  sum_at-scaled : (s : F) (cs : List (F × List (ℕ × ℕ))) (x : List F) → sum_at K (with_each (K.times s) cs) x ≡ K.times s (sum_at K cs x)
  sum_at-scaled s [] x = sym (scale_zero (itself_is_module K N) s)
  sum_at-scaled s (c ∷ cs) x =
      ap (K.plus (K.times (K.times s c.0) (term_value K c.1 x))) (sum_at-scaled s cs x)
      ∙ ring4 K N (λ s c v r. ((s ⊗ c) ⊗ v ⊕ s ⊗ r, s ⊗ (c ⊗ v ⊕ r))) refl s c.0 (term_value K c.1 x) (sum_at K cs x)

  -- all that a list has of one term, and the rest
  pub sum_at-without : (t : List (ℕ × ℕ)) (cs : List (F × List (ℕ × ℕ))) (x : List F) → sum_at K cs x ≡ K.plus (K.times (of_terms K cs t) (term_value K t x)) (sum_at K (without t cs) x)
  sum_at-without t [] x = ring1 K N (λ v. (nought, nought ⊗ v ⊕ nought)) refl (term_value K t x)
  sum_at-without t (c ∷ cs) x = ap (K.plus (K.times c.0 (term_value K c.1 x))) (sum_at-without t cs x) ∙ by (same_term c.1 t) (same_term-Decides c.1 t).0
    where
      by : (b : Bool) → (b ≡ true → c.1 ≡ t)
          → K.plus (K.times c.0 (term_value K c.1 x)) (K.plus (K.times (of_terms K cs t) (term_value K t x)) (sum_at K (without t cs) x))
          ≡ K.plus (K.times (K.plus (cond b c.0 K.zero) (of_terms K cs t)) (term_value K t x)) (sum_at K (cond b (without t cs) (c ∷ without t cs)) x)
      by true e =
          ap (λ s. K.plus (K.times c.0 (term_value K s x)) (K.plus (K.times (of_terms K cs t) (term_value K t x)) (sum_at K (without t cs) x))) (e refl)
          ∙ ring4 K N (λ c v a s. (c ⊗ v ⊕ (a ⊗ v ⊕ s), (c ⊕ a) ⊗ v ⊕ s)) refl c.0 (term_value K t x) (of_terms K cs t) (sum_at K (without t cs) x)
      by false e = ring5 K N (λ c v a w s. (c ⊗ v ⊕ (a ⊗ w ⊕ s), (nought ⊕ a) ⊗ w ⊕ (c ⊗ v ⊕ s))) refl c.0 (term_value K c.1 x) (of_terms K cs t) (term_value K t x) (sum_at K (without t cs) x)

  -- term by term, each of which is taken out
  sum_at_nothing : (n : ℕ) (cs : List (F × List (ℕ × ℕ))) (x : List F) → length cs ≤ n → of_terms K cs ≡ nothing K → sum_at K cs x ≡ K.zero
  sum_at_nothing zero [] x l e = refl
  sum_at_nothing zero (c ∷ cs) x l e = absurd (omega arith)
  sum_at_nothing (suc n) [] x l e = refl
  sum_at_nothing (suc n) (c ∷ cs) x l e =
      let less = length-without c.1 cs in
      let rest : without c.1 (c ∷ cs) ≡ without c.1 cs = cond-true (same_term c.1 c.1) (without c.1 cs) (c ∷ without c.1 cs) (same_term-same c.1) in
      sum_at-without c.1 (c ∷ cs) x
      ∙ ap₂ (λ a s. K.plus (K.times a (term_value K c.1 x)) s) (ap (λ a. a c.1) e)
      (ap (λ ds. sum_at K ds x) rest ∙ sum_at_nothing n (without c.1 cs) x (omega arith) (ap (of_terms K) (sym rest) ∙ without_nothing c.1 (c ∷ cs) e))
      ∙ ring1 K N (λ v. (nought ⊗ v ⊕ nought, nought)) refl (term_value K c.1 x)

  -- lists that denote one polynomial have one value
  same_sum_at : (cs ds : List (F × List (ℕ × ℕ))) (x : List F) → of_terms K cs ≡ of_terms K ds → sum_at K cs x ≡ sum_at K ds x
  same_sum_at cs ds x e =
      let es = with_each K.negated ds in
      let none : of_terms K (cs ++ es) ≡ nothing K =
      of_terms-append cs es ∙ ap₂ (added K) e (of_terms-opposite ds) ∙ (coefficients_are_module K N).plus_negated (of_terms K ds) in
      ring2_by K N (λ y z. (y, z, y ⊖ z, nought)) refl (sum_at K cs x) (sum_at K ds x)
      (ap (K.plus (sum_at K cs x)) (sym (sum_at-opposite ds x)) ∙ sym (sum_at-append cs es x) ∙ sum_at_nothing (length (cs ++ es)) (cs ++ es) x (omega arith) none)

  -- ---- values

  pub IsValueAt-terms : (cs : List (F × List (ℕ × ℕ))) (x : List F) → IsValueAt K (of_terms K cs) x (sum_at K cs x)
  IsValueAt-terms cs x = (cs, refl, refl)

  pub one_value_at : (a : List (ℕ × ℕ) → F) (x : List F) (y z : F) → IsValueAt K a x y → IsValueAt K a x z → y ≡ z
  one_value_at a x y z g h = g.2 ∙ same_sum_at g.0 h.0 x (g.1 ∙ sym h.1) ∙ sym h.2

  pub IsValueAt-added : (a b : List (ℕ × ℕ) → F) (x : List F) (y z : F) → IsValueAt K a x y → IsValueAt K b x z → IsValueAt K (added K a b) x (K.plus y z)
  IsValueAt-added a b x y z g h = (g.0 ++ h.0, of_terms-append g.0 h.0 ∙ ap₂ (added K) g.1 h.1, ap₂ K.plus g.2 h.2 ∙ sym (sum_at-append g.0 h.0 x))

  pub IsValueAt-opposite : (a : List (ℕ × ℕ) → F) (x : List F) (y : F) → IsValueAt K a x y → IsValueAt K (opposite K a) x (K.negated y)
  IsValueAt-opposite a x y h = (with_each K.negated h.0, of_terms-opposite h.0 ∙ ap (opposite K) h.1, ap K.negated h.2 ∙ sym (sum_at-opposite h.0 x))

  IsValueAt-scaled : (c : F) (a : List (ℕ × ℕ) → F) (x : List F) (y : F) → IsValueAt K a x y → IsValueAt K (scaled K c a) x (K.times c y)
  IsValueAt-scaled c a x y h = (with_each (K.times c) h.0, of_terms-scaled c h.0 ∙ ap (scaled K c) h.1, ap (K.times c) h.2 ∙ sym (sum_at-scaled c h.0 x))

-- ---- the laws of polynomials in several variables, at points that show a list

pub multivariate_polynomials : {F X : Type 0} (K : FieldOn F) → IsField K → (items : X → List F) → IsPolynomials K (coefficient_operations K) (λ _ _. Unit {0}) (IsTotalDegree K) (λ a x y. IsValueAt K a (items x) y)
multivariate_polynomials K N items =
    let L = coefficients_are_module K N in
    record {
      addable_zero = λ a. tt;
      addable_comm = λ a b _. tt;
      addable_negated = λ a b _. tt;
      addable_scale = λ s a b _. tt;
      plus_zero = L.plus_zero;
      plus_comm = λ a b _. L.plus_comm a b;
      plus_assoc = λ a b c _ _. L.plus_assoc a b c;
      scale_plus = λ s a b _. L.scale_plus s a b;
      scale_zero = scale_zero L;
      plus_scale = L.plus_scale;
      times_scale = L.times_scale;
      one_scale = L.one_scale;
      degree_zero = nothing_total_degree K;
      one_degree = one_total_degree K;
      one_value = λ a x. one_value_at K N a (items x);
      value_plus = λ a b x y z _. IsValueAt-added K N a b (items x) y z;
      value_negated = λ a x. IsValueAt-opposite K N a (items x);
      value_scale = λ s a x. IsValueAt-scaled K N s a (items x);
    }
