-- Quotient and remainder: that there are some, that they are the only ones, and what a step of a division does.
use Rattle.std.proofs.Common.{◌≡◌, ◌≢◌, ◌↔◌, ℕ, zero, suc, ◌+◌, ◌-◌, ◌<◌, ◌≤◌, List, Bool, Option, None, Some, IfSome, IsNone, Decides, ◌⊎◌, inl, inr, sym, ◌∙◌, ap, ap₂, refl, subst, arith, ⊎_elim, true≢false}
use mathlib.Core.Path.{fun_ext}
use Rattle.std.proofs.lemmas.Bool.{cases_lt, cases_eq, cases_order}
use Rattle.ark_math.specs.Field.{FieldOn, IsField, minus}
use Rattle.ark_math.specs.Univariate.{nothing, added, difference, monomial, product, of_list, IsBelow, IsQuotient, IsDivision, IsTrimmed}
use Rattle.ark_math.proofs.Algebra.Groups.{zero_plus}
use Rattle.ark_math.proofs.Algebra.Powers.{zero_factor, times_zero}
use Rattle.ark_math.proofs.Algebra.Solve.{◌⊖◌, ◌⊗◌, ◌⊞◌, ◌⊟◌, nought, unit}
use Rattle.ark_math.proofs.Algebra.Ring.{ring2_by, ring3_by, module0_3, module0_4_by}
use Rattle.ark_math_polynomials.proofs.Polynomials.Univariate.{coefficients_are_module, IsBelow-more, IsBelow-less, monomial-below, added-below, difference-below, nothing_from_below, nothing-below}
use Rattle.ark_math.proofs.Outcomes.Tests.{decided}
use Rattle.ark_math_polynomials.proofs.Polynomials.Trimmed.{trim_equality}
use Rattle.ark_math_polynomials.proofs.Polynomials.UnivariateLists.{same_trimmed}
use Rattle.ark_math_polynomials.proofs.Polynomials.UnivariateProducts.{product_leading, monomial-product_past, added-product, difference-product, nothing-product}

module _ {F : Type 0} (K : FieldOn F) (N : IsField K) where
  -- a product that is below its factor's degree is zero, since the other factor is
  no_factor : (m k : ℕ) (e d : ℕ → F) → d k ≢ K.zero → IsBelow K (k + 1) d → IsBelow K m e → IsBelow K k (product K e d) → e ≡ nothing K
  no_factor zero k e d ne b f h = nothing_from_below K e f
  no_factor (suc m) k e d ne b f h =
      let n : suc m ≡ m + 1 = omega arith in
      let z : e m ≡ K.zero =
      zero_factor K N (d k) (e m) ne
      (N.times_comm (d k) (e m) ∙ sym (product_leading K N m k e d (subst (λ t. IsBelow K t e) n f) b) ∙ h (m + k) (omega arith)) in
      no_factor m k e d ne b (IsBelow-less K m e z f) h

  same_from_difference : (q p : ℕ → F) → difference K q p ≡ nothing K → q ≡ p
  same_from_difference q p none = fun_ext (λ i. ring2_by K N (λ x y. (x, y, x ⊖ y, nought)) refl (q i) (p i) (ap (λ t. t i) none))

  pub one_leading : (d : ℕ → F) (k j : ℕ) → d k ≢ K.zero → d j ≢ K.zero → IsBelow K (k + 1) d → IsBelow K (j + 1) d → k ≡ j
  one_leading d k j p q f g =
      ⊎_elim
      (λ (h : k ≡ j). h)
      (λ h. ⊎_elim (λ (l : k < j). absurd (q (f j (omega arith)))) (λ (l : j < k). absurd (p (g k (omega arith)))) h)
      (cases_order k j)

  pub one_quotient : (a d q r p s : ℕ → F) → IsQuotient K a d q r → IsQuotient K a d p s → (q ≡ p) × (r ≡ s)
  one_quotient a d q r p s A B =
      let k = A.degree.0 in
      let same : k ≡ B.degree.0 = one_leading d k B.degree.0 A.degree.1 B.degree.1 A.degree.2 B.degree.2 in
      let sb : IsBelow K k s = subst (λ t. IsBelow K t s) (sym same) B.degree.3 in
      let n = A.finite.0 + B.finite.0 in
      let eb : IsBelow K n (difference K q p) =
      difference-below K N n q p (IsBelow-more K A.finite.0 n q (omega arith) A.finite.1) (IsBelow-more K B.finite.0 n p (omega arith) B.finite.1) in
      let pd : product K (difference K q p) d ≡ difference K s r =
      difference-product K N q p d
      ∙ module0_4_by N (coefficients_are_module K N) (λ q p r s. (q ⊟ p, s ⊟ r, q ⊞ r, p ⊞ s)) refl (product K q d) (product K p d) r s (sym A.whole ∙ B.whole) in
      let none : difference K q p ≡ nothing K =
      no_factor n k (difference K q p) d A.degree.1 A.degree.2 eb (subst (IsBelow K k) (sym pd) (difference-below K N k s r sb A.degree.3)) in
      let rest : difference K s r ≡ nothing K = sym pd ∙ ap (λ t. product K t d) none ∙ nothing-product K N d in
      (same_from_difference q p none, sym (same_from_difference s r rest))

  -- of zero
  pub zero_quotient : (a d q r : ℕ → F) → a ≡ nothing K → IsQuotient K a d q r → (q ≡ nothing K) × (r ≡ nothing K)
  zero_quotient a d q r none h =
      let M = coefficients_are_module K N in
      one_quotient a d q r (nothing K) (nothing K) h (record {
        finite = (0, nothing-below K 0);
        whole = none ∙ sym (M.plus_zero (nothing K)) ∙ ap (λ t. added K t (nothing K)) (sym (nothing-product K N d));
        degree = (h.degree.0, h.degree.1, h.degree.2, nothing-below K h.degree.0);
      })

  -- one step: c times the variable to the j is added to the quotient
  pub quotient_step : (a d q r : ℕ → F) (j : ℕ) (c : F) → a ≡ added K (product K q d) r → a ≡ added K (product K (added K q (monomial K j c)) d) (difference K r (product K (monomial K j c) d))
  quotient_step a d q r j c h =
      let m = monomial K j c in
      h
      ∙ module0_3 N (coefficients_are_module K N) (λ q r m. (q ⊞ r, (q ⊞ m) ⊞ (r ⊟ m))) refl (product K q d) r (product K m d)
      ∙ sym (ap (λ t. added K t (difference K r (product K m d))) (added-product K N q m d))

  past_step : (d r : ℕ → F) (j : ℕ) (c : F) (i : ℕ) → j ≤ i → difference K r (product K (monomial K j c) d) i ≡ minus K (r i) (K.times c (d (i - j)))
  past_step d r j c i l = ap (minus K (r i)) (monomial-product_past K N j c d i l)

  -- which takes the leading coefficient away
  pub step-below : (d r : ℕ → F) (k m : ℕ) (c : F) → k ≤ m → IsBelow K (k + 1) d → IsBelow K (m + 1) r → K.times c (d k) ≡ r m → IsBelow K m (difference K r (product K (monomial K (m - k) c) d))
  step-below d r k m c l f g e i b =
      let j = m - k in
      past_step d r j c i (omega arith)
      ∙ ⊎_elim
      (λ (h : m ≡ i).
      let z : i - j ≡ k = omega arith in
      ap₂ (λ x y. minus K x (K.times c y)) (ap r (sym h)) (ap d z) ∙ ap (minus K (r m)) e ∙ N.plus_negated (r m))
      (λ (h : m ≢ i).
      ap₂ (λ x y. minus K x y) (g i (omega arith)) (ap (K.times c) (f (i - j) (omega arith)) ∙ times_zero K N c) ∙ N.plus_negated K.zero)
      (cases_eq m i)

  reduced : (k n m : ℕ) (a d q r : ℕ → F) → d k ≢ K.zero → IsBelow K (k + 1) d → IsBelow K n q → IsBelow K m r → a ≡ added K (product K q d) r → (q : ℕ → F) × (r : ℕ → F) × IsQuotient K a d q r
  reduced k n zero a d q r ne f g h e = (q, r, record { finite = (n, g); whole = e; degree = (k, ne, f, IsBelow-more K 0 k r (omega arith) h) })
  reduced k n (suc m) a d q r ne f g h e =
      ⊎_elim
      (λ (l : m < k). (q, r, record { finite = (n, g); whole = e; degree = (k, ne, f, IsBelow-more K (suc m) k r (omega arith) h) }))
      (λ (l : k ≤ m).
      let y = N.inverts (d k) ne in
      let c = K.times (r m) y.0 in
      let j = m - k in
      let same : K.times c (d k) ≡ r m = ring3_by K N (λ r y d. ((r ⊗ y) ⊗ d, r, r ⊗ (d ⊗ y), r ⊗ unit)) refl (r m) y.0 (d k) (ap (K.times (r m)) y.1) in
      let t : suc m ≡ m + 1 = omega arith in
      reduced k (n + (j + 1)) m a d (added K q (monomial K j c)) (difference K r (product K (monomial K j c) d)) ne f
      (added-below K N (n + (j + 1)) q (monomial K j c) (IsBelow-more K n (n + (j + 1)) q (omega arith) g) (monomial-below K j (n + (j + 1)) c (omega arith)))
      (step-below d r k m c l f (subst (λ u. IsBelow K u r) t h) same)
      (quotient_step a d q r j c e))
      (cases_lt m k)

  pub has_quotient : (k m : ℕ) (a d : ℕ → F) → d k ≢ K.zero → IsBelow K (k + 1) d → IsBelow K m a → (q : ℕ → F) × (r : ℕ → F) × IsQuotient K a d q r
  has_quotient k m a d ne f h = reduced k 0 m a d (nothing K) a ne f (nothing-below K 0) h
      (sym (ap (λ t. added K t a) (nothing-product K N d) ∙ zero_plus (coefficients_are_module K N) a))

  -- what a division gives, from quotient and remainder by a divisor that isn't zero, and zeros for zero
  is_division : (a d q r : ℕ → F) → (d ≢ nothing K → IsQuotient K a d q r) → (a ≡ nothing K → (q ≡ nothing K) × (r ≡ nothing K)) → IsDivision K a d q r
  is_division a d q r quotient zeros = record {
    quotient = quotient;
    only = λ p s is. one_quotient a d p s q r is (quotient (λ none. is.degree.1 (ap (λ t. t is.degree.0) none)));
    zeros = zeros;
  }

  -- from a divisor that isn't zero
  pub division_of : (a d q r : ℕ → F) → IsQuotient K a d q r → IsDivision K a d q r
  division_of a d q r h = is_division a d q r (λ some. h) (λ zero. zero_quotient a d q r zero h)

  -- by zero
  pub zero_division : (a d q r : ℕ → F) → d ≡ nothing K → q ≡ nothing K → r ≡ nothing K → IsDivision K a d q r
  zero_division a d q r none e f = is_division a d q r (λ some. absurd (some none)) (λ zero. (e, f))

  -- there are no others where the divisor or the dividend decides
  one_division : (a d q r p s : ℕ → F) → IsDivision K a d q r → IsDivision K a d p s → ((a ≢ nothing K) × (d ≡ nothing K) → ⊥) → ((q ≡ p) × (r ≡ s) → ⊥) → ⊥
  one_division a d q r p s A B given differ =
      let none : d ≢ nothing K → ⊥ = λ ne. differ (B.only q r (A.quotient ne)) in
      let more : a ≢ nothing K = λ z. differ ((A.zeros z).0 ∙ sym (B.zeros z).0, (A.zeros z).1 ∙ sym (B.zeros z).1) in
      none (λ z. given (more, z))

-- an answer of a division, by lists without zeros at their end: none exactly where zero alone would divide another dividend
pub record AnswersDivision {F : Type 0} (K : FieldOn F) (a d : ℕ → F) (o : Option (List F × List F)) : Type 0 where
  pub pair : IfSome o (λ p. IsDivision K a d (of_list K p.0) (of_list K p.1))
  pub none : IsNone o ↔ (a ≢ nothing K) × (d ≡ nothing K)
  pub trimmed : IfSome o (λ p. IsTrimmed K p.0 × IsTrimmed K p.1)

module _ {F : Type 0} (K : FieldOn F) (N : IsField K) (eq : F → F → Bool) (o : F) (same : (a b : F) → Decides (eq a b) (a ≡ b)) (e : o ≡ K.zero) where
  same_list : (c d : List F) → IsTrimmed K c → IsTrimmed K d → (c ≡ d) ⊎ (of_list K c ≢ of_list K d)
  same_list c d s t = ⊎_elim (λ h. inl (same_trimmed K c d s t h)) inr (decided _ (trim_equality K eq o same e c d))

  -- there is one answer
  pub same_division : (a d : ℕ → F) (x y : Option (List F × List F)) → AnswersDivision K a d x → AnswersDivision K a d y → x ≡ y
  same_division a d None None A B = refl
  same_division a d None (Some p) A B = absurd (true≢false (B.none.1 (A.none.0 refl)))
  same_division a d (Some p) None A B = absurd (true≢false (A.none.1 (B.none.0 refl)))
  same_division a d (Some p) (Some q) A B = by_cases (same_list p.0 q.0 A.trimmed.0 B.trimmed.0) (same_list p.1 q.1 A.trimmed.1 B.trimmed.1)
    where
      differ : ((of_list K p.0 ≡ of_list K q.0) × (of_list K p.1 ≡ of_list K q.1) → ⊥) → ⊥
      differ = one_division K N a d (of_list K p.0) (of_list K p.1) (of_list K q.0) (of_list K q.1) A.pair B.pair (λ z. true≢false (A.none.1 z))

      by_cases : (p.0 ≡ q.0) ⊎ (of_list K p.0 ≢ of_list K q.0) → (p.1 ≡ q.1) ⊎ (of_list K p.1 ≢ of_list K q.1) → Some p ≡ Some q
      by_cases (inl h) (inl k) = ap₂ (λ x y. Some (x, y)) h k
      by_cases (inr h) k = absurd (differ (λ both. h both.0))
      by_cases (inl h) (inr k) = absurd (differ (λ both. k both.1))
