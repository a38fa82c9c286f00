-- The sparse list of a list of pairs: it denotes the same, is sparse, and a test of its pairs decides equality.
use Rattle.std.proofs.Common.{◌≡◌, ◌≢◌, suc, ℕ, ◌<◌, List, [], ◌∷◌, Bool, true, false, Decides, ◌==◌, ◌&&◌, if◌then◌else◌, sym, ◌∙◌, ap, refl, arith}
use Rattle.std.specs.Prelude.{nat_lt}
use Rattle.std.specs.List.{All}
use Rattle.std.specs.Cmp.Lexicographic.{pointwise}
use Rattle.std.proofs.lemmas.Bool.{true≢false, ltb-true, ltb-false, eqb-true, eqb-false}
use Rattle.std.proofs.lemmas.List.Elements.{All-cons}
use Rattle.ark_math.specs.Field.{FieldOn, IsField}
use Rattle.ark_math.specs.Univariate.{added, monomial, of_pairs, IsSparse}
use Rattle.ark_math_polynomials.specs.NormalForms.{pair_onto, pair_into, gather}
use Rattle.ark_math.proofs.Algebra.Groups.{zero_plus}
use Rattle.ark_math.proofs.Algebra.Solve.{◌⊞◌}
use Rattle.ark_math.proofs.Algebra.Ring.{module0_3}
use Rattle.ark_math_polynomials.proofs.Polynomials.Univariate.{coefficients_are_module}
use Rattle.ark_math_polynomials.proofs.Polynomials.UnivariatePairs.{monomial-added, monomial-zero, after_first, tail_sparse, sparse-nil, sparse-cons, same_sparse, sparse_Decides}
use Rattle.ark_math_polynomials.proofs.Polynomials.Trimmed.{zero_test}

module _ {F : Type 0} (K : FieldOn F) (N : IsField K) (z : F → Bool) (decides : (x : F) → Decides (z x) (x ≡ K.zero)) where
  onto-cases : (C : List (ℕ × F) → Type 0) (x : ℕ × F) (p : List (ℕ × F)) → (x.1 ≡ K.zero → C p) → (x.1 ≢ K.zero → C (x ∷ p)) → C (pair_onto z x p)
  onto-cases C x p f g = by (z x.1) refl
    where
      by : (b : Bool) → z x.1 ≡ b → C (if b then p else x ∷ p)
      by true e = f ((decides x.1).0 e)
      by false e = g (λ h. let w : true ≡ false = sym ((decides x.1).1 h) ∙ e in true≢false w)

  into-cases : (C : List (ℕ × F) → Type 0) (x y : ℕ × F) (p : List (ℕ × F)) → (x.0 < y.0 → C (pair_onto z x (y ∷ p))) → (x.0 ≡ y.0 → C (pair_onto z (x.0, K.plus x.1 y.1) p)) → (y.0 < x.0 → C (y ∷ pair_into z K.plus x p)) → C (pair_into z K.plus x (y ∷ p))
  into-cases C x y p f g h = by (nat_lt x.0 y.0) refl (x.0 == y.0) refl
    where
      by : (a : Bool) → nat_lt x.0 y.0 ≡ a → (b : Bool) → (x.0 == y.0) ≡ b → C (if a then pair_onto z x (y ∷ p) else if b then pair_onto z (x.0, K.plus x.1 y.1) p else y ∷ pair_into z K.plus x p)
      by true d b e = f (ltb-true x.0 y.0 d)
      by false d true e = g (eqb-true x.0 y.0 e)
      by false d false e = h (let l = ltb-false x.0 y.0 d in let ne = eqb-false x.0 y.0 e in omega (arith, l, ne))

  -- ---- what it denotes

  pair_onto-same : (x : ℕ × F) (p : List (ℕ × F)) → of_pairs K (pair_onto z x p) ≡ of_pairs K (x ∷ p)
  pair_onto-same x p = onto-cases (λ l. of_pairs K l ≡ of_pairs K (x ∷ p)) x p
      (λ e. sym (zero_plus (coefficients_are_module K N) (of_pairs K p)) ∙ ap (λ t. added K t (of_pairs K p)) (sym (monomial-zero K N x.0) ∙ ap (monomial K x.0) (sym e)))
      (λ ne. refl)

  pair_into-same : (x : ℕ × F) (p : List (ℕ × F)) → of_pairs K (pair_into z K.plus x p) ≡ of_pairs K (x ∷ p)
  pair_into-same x [] = pair_onto-same x []
  pair_into-same x (y ∷ p) =
      let M = coefficients_are_module {I = ℕ} K N in
      into-cases (λ l. of_pairs K l ≡ of_pairs K (x ∷ y ∷ p)) x y p
      (λ l. pair_onto-same x (y ∷ p))
      (λ e. pair_onto-same (x.0, K.plus x.1 y.1) p
      ∙ ap (λ t. added K t (of_pairs K p)) (sym (monomial-added K N x.0 x.1 y.1) ∙ ap (λ n. added K (monomial K x.0 x.1) (monomial K n y.1)) e)
      ∙ M.plus_assoc (monomial K x.0 x.1) (monomial K y.0 y.1) (of_pairs K p))
      (λ l. ap (added K (monomial K y.0 y.1)) (pair_into-same x p)
      ∙ module0_3 N M (λ a b c. (b ⊞ (a ⊞ c), a ⊞ (b ⊞ c))) refl (monomial K x.0 x.1) (monomial K y.0 y.1) (of_pairs K p))

  -- gathering changes no coefficient
  pub gather-same : (p : List (ℕ × F)) → of_pairs K (gather z K.plus p) ≡ of_pairs K p
  gather-same [] = refl
  gather-same (x ∷ p) = pair_into-same x (gather z K.plus p) ∙ ap (added K (monomial K x.0 x.1)) (gather-same p)

  -- ---- sparse

  pair_onto-above : (m : ℕ) (x : ℕ × F) (p : List (ℕ × F)) → m < x.0 → All (λ y. m < y.0) p → All (λ y. m < y.0) (pair_onto z x p)
  pair_onto-above m x p l h = onto-cases (All (λ y. m < y.0)) x p (λ e. h) (λ ne. All-cons (λ y. m < y.0) x p l h)

  pair_into-above : (m : ℕ) (x : ℕ × F) (p : List (ℕ × F)) → m < x.0 → All (λ y. m < y.0) p → All (λ y. m < y.0) (pair_into z K.plus x p)
  pair_into-above m x [] l h = pair_onto-above m x [] l h
  pair_into-above m x (y ∷ p) l h =
      let rest : All (λ y. m < y.0) p = λ k d b. h (suc k) d (omega arith) in
      into-cases (All (λ y. m < y.0)) x y p
      (λ _. pair_onto-above m x (y ∷ p) l h)
      (λ _. pair_onto-above m (x.0, K.plus x.1 y.1) p l rest)
      (λ _. All-cons (λ y. m < y.0) y (pair_into z K.plus x p) (h 0 y (omega arith)) (pair_into-above m x p l rest))

  pair_onto-sparse : (x : ℕ × F) (p : List (ℕ × F)) → All (λ y. x.0 < y.0) p → IsSparse K p → IsSparse K (pair_onto z x p)
  pair_onto-sparse x p l s = onto-cases (IsSparse K) x p (λ e. s) (λ ne. sparse-cons K N x p ne l s)

  pair_into-sparse : (x : ℕ × F) (p : List (ℕ × F)) → IsSparse K p → IsSparse K (pair_into z K.plus x p)
  pair_into-sparse x [] s = pair_onto-sparse x [] (λ k d l. absurd (omega arith)) s
  pair_into-sparse x (y ∷ p) s =
      let above = after_first K N y p s.rising in
      let rest = tail_sparse K N y p s in
      into-cases (IsSparse K) x y p
      (λ l. pair_onto-sparse x (y ∷ p) (All-cons (λ t. x.0 < t.0) y p l (λ k d b. let m = above k d b in omega (arith, l, m))) s)
      (λ e. pair_onto-sparse (x.0, K.plus x.1 y.1) p (λ k d b. let m = above k d b in omega (arith, e, m)) rest)
      (λ l. sparse-cons K N y (pair_into z K.plus x p) (s.some 0 y (omega arith)) (pair_into-above y.0 x p l above) (pair_into-sparse x p rest))

  -- and leaves a sparse list
  gather-sparse : (p : List (ℕ × F)) → IsSparse K (gather z K.plus p)
  gather-sparse [] = sparse-nil K N
  gather-sparse (x ∷ p) = pair_into-sparse x (gather z K.plus p) (gather-sparse p)

  pub gather_of-sparse : (p : List (ℕ × F)) → IsSparse K p → gather z K.plus p ≡ p
  gather_of-sparse p s = same_sparse K N (gather z K.plus p) p (gather-sparse p) s (gather-same p)

  gather_Decides : {eq : F → F → Bool} → ((a b : F) → Decides (eq a b) (a ≡ b)) → (p q : List (ℕ × F)) → Decides (pointwise (λ x y. (x.0 == y.0) && eq x.1 y.1) (gather z K.plus p) (gather z K.plus q)) (of_pairs K p ≡ of_pairs K q)
  gather_Decides same p q =
      let w = sparse_Decides K N same (gather z K.plus p) (gather z K.plus q) (gather-sparse p) (gather-sparse q) in
      (λ h. sym (gather-same p) ∙ w.0 h ∙ gather-same q, λ h. w.1 (gather-same p ∙ h ∙ sym (gather-same q)))

-- the law of `==` at lists of pairs, sparse or not
pub gather_equality : {F : Type 0} (K : FieldOn F) → IsField K → (eq : F → F → Bool) (o : F) → ((a b : F) → Decides (eq a b) (a ≡ b)) → o ≡ K.zero → (p q : List (ℕ × F)) → Decides (pointwise (λ x y. (x.0 == y.0) && eq x.1 y.1) (gather (λ x. eq x o) K.plus p) (gather (λ x. eq x o) K.plus q)) (of_pairs K p ≡ of_pairs K q)
gather_equality K N eq o same e p q = gather_Decides K N (λ x. eq x o) (zero_test K eq o same e) same p q
