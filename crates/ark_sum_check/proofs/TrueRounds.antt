-- The true polynomial of a round: of degree as many as the longest addend has factors at most, with the sums over the other
-- variables as its values.
use Rattle.std.proofs.Common.{◌≡◌, ◌≢◌, ◌++◌, ⊎_elim, ℕ, zero, suc, ◌+◌, ◌-◌, ◌*◌, ◌^◌, ◌<◌, List, [], ◌∷◌, length, refl, sym, ◌∙◌, ap, ap₂, subst, arith}
use mathlib.Core.Path.{fun_ext}
use Rattle.std.proofs.lemmas.Bool.{cases_eq}
use Rattle.std.proofs.lemmas.List.{get_or_append_left, get_or_push, length_push}
use Rattle.ark_math.specs.Field.{FieldOn, IsField, minus, natural}
use Rattle.ark_math_polynomials.specs.Linear.{constant}
use Rattle.ark_math.specs.Module.{itself, sum_below}
use Rattle.ark_math_variables.specs.Multilinear.{extension, fixed}
use Rattle.ark_math.specs.Univariate.{IsBelow, IsValue, added, nothing, of_list, product, scaled}
use Rattle.ark_math.proofs.Algebra.Groups.{itself_is_module, zero_plus}
use Rattle.ark_math.proofs.Algebra.Sums.{sum_below-plus, sum_below-same}
use Rattle.ark_math.proofs.Algebra.Solve.{nought, unit, ◌⊕◌, ◌⊖◌, ◌⊗◌}
use Rattle.ark_math.proofs.Algebra.Ring.{ring1, ring2, ring3}
use Rattle.ark_math_polynomials.proofs.Callers.Remainders.{constant_value}
use Rattle.ark_math_variables.proofs.Polynomials.Cube.{pow_twice, sum_below-pairs}
use Rattle.ark_math_variables.proofs.Polynomials.Multilinear.{extension-cons, extension-nil, fixed-one}
use Rattle.ark_math_polynomials.proofs.Polynomials.Univariate.{IsBelow-more, added-below, nothing-below, scaled-below}
use Rattle.ark_math_polynomials.proofs.Polynomials.UnivariateLists.{of_list-below}
use Rattle.ark_math_polynomials.proofs.Polynomials.UnivariateProducts.{product-below, value-product}
use Rattle.ark_math_polynomials.proofs.Polynomials.UnivariateValues.{value-added, value-nothing, value-of_list, value-scaled}
use Rattle.ark_sum_check.specs.Cube.{Product, SumOfProducts, bound_to, combined, cube_sum, degree_of, longest, picked_product, round_value, sum_at, sum_value}
use Rattle.ark_sum_check.specs.Rounds.{IsTrueRound}

-- a table's value at corner c, by the first variable
abbrev line : {F : Type 0} → FieldOn F → (ℕ → F) → ℕ → List F
line K t c = t (2 * c) ∷ minus K (t (2 * c + 1)) (t (2 * c)) ∷ []

-- the product of those of these tables
abbrev lines : {F : Type 0} → FieldOn F → (ℕ → ℕ → F) → List ℕ → ℕ → ℕ → F
lines K ts [] c = constant K K.one
lines K ts (i ∷ is) c = product K (of_list K (line K (ts i) c)) (lines K ts is c)

-- the sum of the addends
abbrev lines_sum : {F : Type 0} → FieldOn F → (ℕ → ℕ → F) → List (Product F) → ℕ → ℕ → F
lines_sum K ts [] c = nothing K
lines_sum K ts (p ∷ ps) c = added K (scaled K p.coefficient (lines K ts p.factors c)) (lines_sum K ts ps c)

-- the sum over the first n corners
abbrev corners : {F : Type 0} → FieldOn F → SumOfProducts F → ℕ → ℕ → F
corners K s zero = nothing K
corners K s (suc n) = added K (corners K s n) (lines_sum K s.tables s.addends n)

module _ {F : Type 0} (K : FieldOn F) (N : IsField K) where
  pub natural-one : natural K 1 ≡ K.one
  natural-one = zero_plus (itself_is_module K N) K.one

  -- ---- sums

  sum_at-zero : (s : SumOfProducts F) (c : ℕ) → sum_at K (bound_to K K.zero s) c ≡ sum_at K s (2 * c)
  sum_at-zero s c =
      ap (combined K s.addends)
      (fun_ext (λ i. ap (λ f. f c) (fixed-one K N (s.tables i) K.zero) ∙ ring2 K N (λ u v. (u ⊕ nought ⊗ (v ⊖ u), u)) refl (s.tables i (2 * c)) (s.tables i (2 * c + 1))))

  sum_at-one : (s : SumOfProducts F) (c : ℕ) → sum_at K (bound_to K K.one s) c ≡ sum_at K s (2 * c + 1)
  sum_at-one s c =
      ap (combined K s.addends)
      (fun_ext (λ i. ap (λ f. f c) (fixed-one K N (s.tables i) K.one) ∙ ring2 K N (λ u v. (u ⊕ unit ⊗ (v ⊖ u), v)) refl (s.tables i (2 * c)) (s.tables i (2 * c + 1))))

  -- the sums where the first variable is zero, and where it is one
  round_value-zero : (m : ℕ) (s : SumOfProducts F) → round_value K m s K.zero ≡ sum_below (itself K) (2 ^ m) (λ c. sum_at K s (2 * c))
  round_value-zero m s = sum_below-same (itself K) (2 ^ m) (sum_at K (bound_to K K.zero s)) (λ c. sum_at K s (2 * c)) (λ c l. sum_at-zero s c)

  round_value-one : (m : ℕ) (s : SumOfProducts F) → round_value K m s K.one ≡ sum_below (itself K) (2 ^ m) (λ c. sum_at K s (2 * c + 1))
  round_value-one m s = sum_below-same (itself K) (2 ^ m) (sum_at K (bound_to K K.one s)) (λ c. sum_at K s (2 * c + 1)) (λ c l. sum_at-one s c)

  -- as sums over the even or odd indices, for a half of the table
  pub round_value-side_zero : (m h : ℕ) (s : SumOfProducts F) → h ≡ 2 ^ m → sum_below (itself K) h (λ c. sum_at K s (2 * c + 0)) ≡ round_value K m s K.zero
  round_value-side_zero m h s e =
      ap (λ n. sum_below (itself K) n (λ c. sum_at K s (2 * c + 0))) e
      ∙ sum_below-same (itself K) (2 ^ m) (λ c. sum_at K s (2 * c + 0)) (λ c. sum_at K s (2 * c))
      (λ c l. let z : 2 * c + 0 ≡ 2 * c = omega arith in ap (sum_at K s) z)
      ∙ sym (round_value-zero m s)

  pub round_value-side_one : (m h : ℕ) (s : SumOfProducts F) → h ≡ 2 ^ m → sum_below (itself K) h (λ c. sum_at K s (2 * c + 1)) ≡ round_value K m s K.one
  round_value-side_one m h s e = ap (λ n. sum_below (itself K) n (λ c. sum_at K s (2 * c + 1))) e ∙ sym (round_value-one m s)

  pub round_value-bound : (m h : ℕ) (s : SumOfProducts F) (x : F) → h ≡ 2 ^ m → sum_below (itself K) h (sum_at K (bound_to K x s)) ≡ round_value K m s x
  round_value-bound m h s x e = ap (λ n. sum_below (itself K) n (sum_at K (bound_to K x s))) e

  -- make the whole sum
  pub cube_sum-halves : (m : ℕ) (s : SumOfProducts F) → K.plus (round_value K m s K.zero) (round_value K m s K.one) ≡ cube_sum K (suc m) s
  cube_sum-halves m s =
      ap₂ K.plus (round_value-zero m s) (round_value-one m s)
      ∙ sym (sum_below-plus (itself_is_module K N) (2 ^ m) (λ c. sum_at K s (2 * c)) (λ c. sum_at K s (2 * c + 1)))
      ∙ sym (sum_below-pairs (itself_is_module K N) (2 ^ m) (sum_at K s))
      ∙ ap (λ n. sum_below (itself K) n (sum_at K s)) (sym (pow_twice m))

  -- of no variables
  pub sum_value-none : (s : SumOfProducts F) → sum_at K s 0 ≡ sum_value K s []
  sum_value-none s = ap (combined K s.addends) (fun_ext (λ i. sym (extension-nil K N (s.tables i))))

  pub cube_sum-none : (s : SumOfProducts F) → cube_sum K 0 s ≡ sum_value K s []
  cube_sum-none s = ring1 K N (λ v. (nought ⊕ v, v)) refl (sum_at K s 0) ∙ sum_value-none s

  -- the first variable, and the others
  pub sum_value-cons : (s : SumOfProducts F) (x : F) (p : List F) → sum_value K s (x ∷ p) ≡ sum_value K (bound_to K x s) p
  sum_value-cons s x p =
      ap (combined K s.addends)
      (fun_ext (λ i. extension-cons K N (s.tables i) x p ∙ ap (λ f. extension K f p) (sym (fixed-one K N (s.tables i) x))))

  -- ---- the polynomial

  line-value : (t : ℕ → F) (c : ℕ) (x : F) → IsValue K (of_list K (line K t c)) x (fixed K t (x ∷ []) c)
  line-value t c x =
      subst (IsValue K (of_list K (line K t c)) x)
      (ring3 K N (λ u v x. ((nought ⊕ unit ⊗ u) ⊕ (x ⊗ unit) ⊗ (v ⊖ u), u ⊕ x ⊗ (v ⊖ u))) refl (t (2 * c)) (t (2 * c + 1)) x ∙ sym (ap (λ f. f c) (fixed-one K N t x)))
      (value-of_list K N (line K t c) x)

  lines-below : (ts : ℕ → ℕ → F) (is : List ℕ) (c : ℕ) → IsBelow K (length is + 1) (lines K ts is c)
  lines-below ts [] c = of_list-below K (K.one ∷ [])
  lines-below ts (i ∷ is) c =
      let e : 2 + (length is + 1) - 1 ≡ suc (length is) + 1 = omega arith in
      subst (λ n. IsBelow K n (lines K ts (i ∷ is) c)) e
      (product-below K N 2 (length is + 1) (of_list K (line K (ts i) c)) (lines K ts is c) (of_list-below K (line K (ts i) c)) (lines-below ts is c))

  lines-value : (ts : ℕ → ℕ → F) (is : List ℕ) (c : ℕ) (x : F) → IsValue K (lines K ts is c) x (picked_product K is (λ i. fixed K (ts i) (x ∷ []) c))
  lines-value ts [] c x = constant_value K N K.one x
  lines-value ts (i ∷ is) c x =
      value-product K N (of_list K (line K (ts i) c)) (lines K ts is c) x (fixed K (ts i) (x ∷ []) c) (picked_product K is (λ i. fixed K (ts i) (x ∷ []) c)) (line-value (ts i) c x) (lines-value ts is c x)

  lines_sum-below : (ts : ℕ → ℕ → F) (ps : List (Product F)) (c : ℕ) → IsBelow K (longest ps + 1) (lines_sum K ts ps c)
  lines_sum-below ts [] c = nothing-below K 1
  lines_sum-below ts (p ∷ ps) c =
      let n = longest (p ∷ ps) + 1 in
      added-below K N n (scaled K p.coefficient (lines K ts p.factors c)) (lines_sum K ts ps c)
      (scaled-below K N n (lines K ts p.factors c) p.coefficient (IsBelow-more K (length p.factors + 1) n (lines K ts p.factors c) (omega arith) (lines-below ts p.factors c)))
      (IsBelow-more K (longest ps + 1) n (lines_sum K ts ps c) (omega arith) (lines_sum-below ts ps c))

  lines_sum-value : (ts : ℕ → ℕ → F) (ps : List (Product F)) (c : ℕ) (x : F) → IsValue K (lines_sum K ts ps c) x (combined K ps (λ i. fixed K (ts i) (x ∷ []) c))
  lines_sum-value ts [] c x = value-nothing K N x
  lines_sum-value ts (p ∷ ps) c x =
      let v = λ (i : ℕ). fixed K (ts i) (x ∷ []) c in
      value-added K N (scaled K p.coefficient (lines K ts p.factors c)) (lines_sum K ts ps c) x (K.times p.coefficient (picked_product K p.factors v)) (combined K ps v)
      (value-scaled K N p.coefficient (lines K ts p.factors c) x (picked_product K p.factors v) (lines-value ts p.factors c x))
      (lines_sum-value ts ps c x)

  corners-below : (s : SumOfProducts F) (n : ℕ) → IsBelow K (degree_of s + 1) (corners K s n)
  corners-below s zero = nothing-below K (degree_of s + 1)
  corners-below s (suc n) = added-below K N (degree_of s + 1) (corners K s n) (lines_sum K s.tables s.addends n) (corners-below s n) (lines_sum-below s.tables s.addends n)

  corners-value : (s : SumOfProducts F) (n : ℕ) (x : F) → IsValue K (corners K s n) x (sum_below (itself K) n (sum_at K (bound_to K x s)))
  corners-value s zero x = value-nothing K N x
  corners-value s (suc n) x =
      value-added K N (corners K s n) (lines_sum K s.tables s.addends n) x (sum_below (itself K) n (sum_at K (bound_to K x s))) (sum_at K (bound_to K x s) n) (corners-value s n x) (lines_sum-value s.tables s.addends n x)

  -- a round has a true polynomial
  pub true_polynomial : (m : ℕ) (s : SumOfProducts F) → (p : ℕ → F) × IsBelow K (degree_of s + 1) p × ((x : F) → IsValue K p x (round_value K m s x))
  true_polynomial m s = (corners K s (2 ^ m), corners-below s (2 ^ m), λ x. corners-value s (2 ^ m) x)

-- the first n values of a round's true polynomial
pub record AreFirst {F : Type 0} (K : FieldOn F) (m : ℕ) (s : SumOfProducts F) (n : ℕ) (values : List F) : Type 0 where
  pub count : length values ≡ n
  pub sums : (i : ℕ) → i < n → of_list K values i ≡ round_value K m s (natural K i)

module _ {F : Type 0} (K : FieldOn F) (m : ℕ) (s : SumOfProducts F) where
  pub AreFirst-none : AreFirst K m s 0 []
  AreFirst-none = record { count = refl; sums = λ i l. absurd (omega arith) }

  pub AreFirst-push : (n : ℕ) (values : List F) (y : F) → AreFirst K m s n values → y ≡ round_value K m s (natural K n) → AreFirst K m s (n + 1) (values ++ y ∷ [])
  AreFirst-push n values y h e = record {
    count = length_push values y ∙ ap (λ k. k + 1) h.count;
    sums = λ i l. ⊎_elim
        (λ (same : i ≡ n). get_or_push values y K.zero i (h.count ∙ sym same) ∙ e ∙ ap (λ k. round_value K m s (natural K k)) (sym same))
        (λ (ne : i ≢ n). get_or_append_left values (y ∷ []) K.zero i (omega (arith, h.count)) ∙ h.sums i (omega arith))
        (cases_eq i n);
  }

  pub AreFirst-round : (d n : ℕ) (values : List F) → n ≡ d + 1 → AreFirst K m s n values → IsTrueRound K d m s values
  AreFirst-round d n values e h = record { count = h.count ∙ e; sums = λ i l. h.sums i (omega arith) }
