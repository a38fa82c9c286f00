-- Laws of tables: their sums, opposites and multiples, and the values of these; tables that are written pair by pair.
use Rattle.std.proofs.Common.{◌≡◌, ◌≢◌, ℕ, suc, ◌<◌, ◌≤◌, ◌^◌, ◌==◌, ◌&&◌, inl, inr, Bool, Decides, if◌then◌else◌, All, List, [], ◌∷◌, ◌++◌, length, get_or, map, flat_map, sym, ◌∙◌, ap, ap₂, refl, arith, ⊎_elim, ext_get_or}
use Rattle.std.proofs.lemmas.Bool.{cases_eq, cases_lt, cond-true, cond-false, eq-eqb, ne_eqb}
use Rattle.std.proofs.lemmas.Bool.Decides.{Decides-and}
use mathlib.Core.Path.{fun_ext}
use Rattle.ark_math.specs.Field.{FieldOn, IsField}
use Rattle.ark_math.specs.Forms.{IsPolynomials}
use Rattle.ark_math.specs.Univariate.{monomial, IsBelow, of_list, of_pairs, IsSparse}
use Rattle.ark_math_variables.specs.Multilinear.{Table, zero_table, table_sum, table_opposite, table_scaled, table_operations, AreAddable, extension, weight, written, IsConcat}
use Rattle.ark_math.proofs.Algebra.Groups.{itself_is_module, scale_zero}
use Rattle.ark_math.proofs.Algebra.Regrouped.{sum_below-single}
use Rattle.ark_math.proofs.Algebra.Solve.{nought, unit, negative, ◌⊗◌}
use Rattle.ark_math.proofs.Algebra.Ring.{ring1}
use Rattle.ark_math.proofs.Numbers.GreatestPowers.{one_log2}
use Rattle.ark_math_polynomials.proofs.Polynomials.Univariate.{coefficients_are_module, monomial-same, monomial-other}
use Rattle.ark_math_polynomials.proofs.Polynomials.UnivariatePairs.{of_pairs-absent, of_pairs-at}
use Rattle.ark_math_variables.proofs.Polynomials.Multilinear.{extension-added, extension-opposite, extension-scaled}

-- tables are equal by their parts
pub same_table : {F : Type 0} (s t : Table F) → s.variables ≡ t.variables → s.value ≡ t.value → s ≡ t
same_table s t e f = λ i. record { variables = e i; value = f i }

module _ {F : Type 0} (K : FieldOn F) (N : IsField K) where
  -- ---- sums and multiples

  table_opposite-zero : table_opposite K (zero_table K) ≡ zero_table K
  table_opposite-zero = same_table (table_opposite K (zero_table K)) (zero_table K) refl (fun_ext (λ b. ring1 K N (λ x. (negative nought, nought)) refl K.one))

  table_scaled-zero : (c : F) → table_scaled K c (zero_table K) ≡ zero_table K
  table_scaled-zero c = same_table (table_scaled K c (zero_table K)) (zero_table K) refl (fun_ext (λ b. scale_zero (itself_is_module K N) c))

  pub table_opposite-scaled : (a : Table F) → table_scaled K (K.negated K.one) a ≡ table_opposite K a
  table_opposite-scaled a = same_table (table_scaled K (K.negated K.one) a) (table_opposite K a) refl
      (fun_ext (λ b. ring1 K N (λ x. (negative unit ⊗ x, negative x)) refl (a.value b)))

  table_sum-zero : (a : Table F) → table_sum K a (zero_table K) ≡ a
  table_sum-zero a = same_table (table_sum K a (zero_table K)) a (omega arith) ((coefficients_are_module K N).plus_zero a.value)

  table_sum-comm : (a b : Table F) → table_sum K a b ≡ table_sum K b a
  table_sum-comm a b = same_table (table_sum K a b) (table_sum K b a) (omega arith) ((coefficients_are_module K N).plus_comm a.value b.value)

  table_sum-assoc : (a b c : Table F) → table_sum K (table_sum K a b) c ≡ table_sum K a (table_sum K b c)
  table_sum-assoc a b c =
      same_table (table_sum K (table_sum K a b) c) (table_sum K a (table_sum K b c)) (omega arith) ((coefficients_are_module K N).plus_assoc a.value b.value c.value)

  pub table_scaled-one : (a : Table F) → table_scaled K K.one a ≡ a
  table_scaled-one a = same_table (table_scaled K K.one a) a refl ((coefficients_are_module K N).one_scale a.value)

  table_scaled-times : (c d : F) (a : Table F) → table_scaled K (K.times c d) a ≡ table_scaled K c (table_scaled K d a)
  table_scaled-times c d a = same_table (table_scaled K (K.times c d) a) (table_scaled K c (table_scaled K d a)) refl ((coefficients_are_module K N).times_scale c d a.value)

  table_scaled-plus : (c d : F) (a : Table F) → table_scaled K (K.plus c d) a ≡ table_sum K (table_scaled K c a) (table_scaled K d a)
  table_scaled-plus c d a =
      same_table (table_scaled K (K.plus c d) a) (table_sum K (table_scaled K c a) (table_scaled K d a)) (omega arith) ((coefficients_are_module K N).plus_scale c d a.value)

  table_scaled-sum : (c : F) (a b : Table F) → table_scaled K c (table_sum K a b) ≡ table_sum K (table_scaled K c a) (table_scaled K c b)
  table_scaled-sum c a b =
      same_table (table_scaled K c (table_sum K a b)) (table_sum K (table_scaled K c a) (table_scaled K c b)) refl ((coefficients_are_module K N).scale_plus c a.value b.value)

  -- ---- tables that have a sum

  AreAddable-zero : (a : Table F) → AreAddable K a (zero_table K)
  AreAddable-zero a = inr (inr refl)

  AreAddable-comm : (a b : Table F) → AreAddable K a b → AreAddable K b a
  AreAddable-comm a b h =
      ⊎_elim (λ (e : a.variables ≡ b.variables). inl (sym e))
      (λ k. ⊎_elim (λ (e : a ≡ zero_table K). inr (inr e)) (λ (e : b ≡ zero_table K). inr (inl e)) k) h

  AreAddable-opposite : (a b : Table F) → AreAddable K a b → AreAddable K a (table_opposite K b)
  AreAddable-opposite a b h =
      ⊎_elim (λ (e : a.variables ≡ b.variables). inl e)
      (λ k. ⊎_elim (λ (e : a ≡ zero_table K). inr (inl e)) (λ (e : b ≡ zero_table K). inr (inr (ap (table_opposite K) e ∙ table_opposite-zero))) k) h

  pub AreAddable-scaled : (c : F) (a b : Table F) → AreAddable K a b → AreAddable K a (table_scaled K c b)
  AreAddable-scaled c a b h =
      ⊎_elim (λ (e : a.variables ≡ b.variables). inl e)
      (λ k. ⊎_elim (λ (e : a ≡ zero_table K). inr (inl e)) (λ (e : b ≡ zero_table K). inr (inr (ap (table_scaled K c) e ∙ table_scaled-zero c))) k) h

  -- a sum with zero of no variables
  pub left_zero : (a b c : Table F) → a ≡ zero_table K → c ≡ b → c ≡ table_sum K a b
  left_zero a b c z e = e ∙ sym (table_sum-zero b) ∙ table_sum-comm b (zero_table K) ∙ ap (λ t. table_sum K t b) (sym z)

  pub right_zero : (a b : Table F) → AreAddable K a b → a.variables ≢ b.variables → a ≢ zero_table K → a ≡ table_sum K a b
  right_zero a b addable differ some = ⊎_elim
      (λ (e : a.variables ≡ b.variables). absurd (differ e))
      (λ k. ⊎_elim (λ (e : a ≡ zero_table K). absurd (some e)) (λ (e : b ≡ zero_table K). sym (ap (table_sum K a) e ∙ table_sum-zero a)) k)
      addable

  -- ---- values

  value_of-sum : (a b : Table F) (x : List F) (y z : F) → y ≡ extension K a.value x → z ≡ extension K b.value x → K.plus y z ≡ extension K (table_sum K a b).value x
  value_of-sum a b x y z e f = ap₂ K.plus e f ∙ sym (extension-added K N a.value b.value x)

  value_of-opposite : (a : Table F) (x : List F) (y : F) → y ≡ extension K a.value x → K.negated y ≡ extension K (table_opposite K a).value x
  value_of-opposite a x y e = ap K.negated e ∙ sym (extension-opposite K N a.value x)

  value_of-scaled : (c : F) (a : Table F) (x : List F) (y : F) → y ≡ extension K a.value x → K.times c y ≡ extension K (table_scaled K c a).value x
  value_of-scaled c a x y e = ap (K.times c) e ∙ sym (extension-scaled K N c a.value x)

  -- the laws of multilinear extensions, at points that show a list
  pub multilinear_polynomials : {X : Type 0} (items : X → List F) → IsPolynomials K (table_operations K) (AreAddable K) (λ a d. d ≡ a.variables) (λ a x y. y ≡ extension K a.value (items x))
  multilinear_polynomials items = record {
    addable_zero = AreAddable-zero;
    addable_comm = AreAddable-comm;
    addable_negated = AreAddable-opposite;
    addable_scale = AreAddable-scaled;
    plus_zero = table_sum-zero;
    plus_comm = λ a b _. table_sum-comm a b;
    plus_assoc = λ a b c _ _. table_sum-assoc a b c;
    scale_plus = λ s a b _. table_scaled-sum s a b;
    scale_zero = table_scaled-zero;
    plus_scale = table_scaled-plus;
    times_scale = table_scaled-times;
    one_scale = table_scaled-one;
    degree_zero = refl;
    one_degree = λ a d e f g. f ∙ sym g;
    one_value = λ a x y z f g. f ∙ sym g;
    value_plus = λ a b x y z _. value_of-sum a b (items x) y z;
    value_negated = λ a x. value_of-opposite a (items x);
    value_scale = λ s a x. value_of-scaled s a (items x);
  }

-- lists of one length that denote one table are equal
pub same_values : {F : Type 0} (K : FieldOn F) (c d : List F) → length c ≡ length d → of_list K c ≡ of_list K d → c ≡ d
same_values K c d e f = ext_get_or K.zero c d e (λ i l. ap (λ a. a i) f)

-- ---- equality

-- a test of both parts
pub table_Decides : {F : Type 0} {a b : ℕ → F} {m n : ℕ} {s t : Bool} → Decides s (a ≡ b) → Decides t (m ≡ n) → Decides (s && t) (◌≡◌ {A = Table F} (record { variables = m; value = a }) (record { variables = n; value = b }))
table_Decides {a = a} {b = b} {m = m} {n = n} {s = s} {t = t} left right =
    let both = Decides-and s t left right in
    (λ h. let e = both.0 h in same_table (record { variables = m; value = a }) (record { variables = n; value = b }) e.1 e.0, λ e. both.1 (ap (λ t. t.value) e, ap (λ t. t.variables) e))

-- ---- written pair by pair

written-append : {F : Type 0} (d : F) (ps qs : List (ℕ × F)) (b : ℕ) → written d (ps ++ qs) b ≡ written (written d ps b) qs b
written-append d [] qs b = refl
written-append d (p ∷ ps) qs b = written-append (if p.0 == b then p.1 else d) ps qs b

pub written-push : {F : Type 0} (d : F) (ps : List (ℕ × F)) (p : ℕ × F) (b : ℕ) → written d (ps ++ p ∷ []) b ≡ (if p.0 == b then p.1 else written d ps b)
written-push d ps p b = written-append d ps (p ∷ []) b

-- what no pair is for stays
written-absent : {F : Type 0} (d : F) (ps : List (ℕ × F)) (b : ℕ) → All (λ p. p.0 ≢ b) ps → written d ps b ≡ d
written-absent d [] b h = refl
written-absent d (p ∷ ps) b h =
    ap (λ v. written v ps b) (cond-false (p.0 == b) p.1 d (ne_eqb p.0 b (h 0 p (omega arith)))) ∙ written-absent d ps b (λ k e l. h (suc k) e (omega arith))

pub written-below : {F : Type 0} (K : FieldOn F) (n : ℕ) (ps : List (ℕ × F)) → All (λ p. p.0 < n) ps → IsBelow K n (written K.zero ps)
written-below K n ps h i l = written-absent K.zero ps i (λ k d b e. let m = h k d b in omega arith)

-- the value at a point where one pair alone is written
pub extension-entry : {F : Type 0} (K : FieldOn F) (N : IsField K) (i : ℕ) (v : F) (x : List F) → i < 2 ^ length x → extension K (written K.zero ((i, v) ∷ [])) x ≡ K.times v (weight K x i)
extension-entry K N i v x l =
    sum_below-single (itself_is_module K N) (2 ^ length x) i (λ b. K.times (written K.zero ((i, v) ∷ []) b) (weight K x b)) l
    (λ b _ ne. ap (λ u. K.times u (weight K x b)) (cond-false (i == b) v K.zero (ne_eqb i b (λ e. ne (sym e)))) ∙ ring1 K N (λ w. (nought ⊗ w, nought)) refl (weight K x b))
    ∙ ap (λ u. K.times u (weight K x i)) (cond-true (i == i) v K.zero (eq-eqb i i refl))

-- ---- lists one after the other

pub one_concat : {F : Type 0} (K : FieldOn F) (ts : List (List F)) (s t : Table F) → IsConcat K ts s → IsConcat K ts t → s ≡ t
one_concat {F} K ts s t g h = same_table s t (one_log2 (length (flat_map (λ (x : List F). x) ts)) s.variables t.variables g.variables h.variables) (g.values ∙ sym h.values)

-- ---- tables of pairs

pub pairs_below : {F : Type 0} (K : FieldOn F) (N : IsField K) (n : ℕ) (ps : List (ℕ × F)) → All (λ p. p.0 < n) ps → IsBelow K n (of_pairs K ps)
pairs_below K N n ps h i l = of_pairs-absent K N ps i (λ k d b e. let m = h k d b in omega arith)

-- sparse pairs have no other places than those with a value
pub sparse_below : {F : Type 0} (K : FieldOn F) (N : IsField K) (n : ℕ) (ps : List (ℕ × F)) → IsSparse K ps → IsBelow K n (of_pairs K ps) → All (λ p. p.0 < n) ps
sparse_below K N n ps s h k d l = ⊎_elim
    (λ (a : (get_or ps k d).0 < n). a)
    (λ (a : n ≤ (get_or ps k d).0). absurd (s.some k d l (sym (of_pairs-at K N ps k d s.rising l) ∙ h (get_or ps k d).0 a)))
    (cases_lt (get_or ps k d).0 n)

-- places moved by an order that is its own inverse
pub moved_pairs : {F : Type 0} (K : FieldOn F) (s : ℕ → ℕ) → ((n : ℕ) → s (s n) ≡ n) → (ps : List (ℕ × F)) → of_pairs K (map (λ p. (s p.0, p.1)) ps) ≡ (λ b. of_pairs K ps (s b))
moved_pairs K s twice [] = refl
moved_pairs K s twice (p ∷ ps) = fun_ext (λ b.
    ap₂ K.plus
    (⊎_elim
    (λ (e : s p.0 ≡ b).
    ap (monomial K (s p.0) p.1) (sym e)
    ∙ monomial-same K (s p.0) p.1
    ∙ sym (monomial-same K p.0 p.1)
    ∙ ap (monomial K p.0 p.1) (sym (twice p.0) ∙ ap s e))
    (λ (ne : s p.0 ≢ b). monomial-other K (s p.0) p.1 b ne ∙ sym (monomial-other K p.0 p.1 (s b) (λ f. ne (ap s f ∙ twice b))))
    (cases_eq (s p.0) b))
    (ap (λ f. f b) (moved_pairs K s twice ps)))
