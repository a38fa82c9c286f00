-- Tables by the entries that aren't zero.
use Rattle.std.proofs.Common.{◌≡◌, ◌≢◌, ℕ, ◌-◌, ◌<◌, ◌≤◌, ◌^◌, ◌==◌, ◌&&◌, ◌||◌, true, nat_eq, true≢false, eq-eqb, ⊎_elim, max, Bool, Decides, List, [], ◌∷◌, length, get_or, map, refl, subst, sym, ◌∙◌, ap, ap₂, arith, ne_eqb}
use Rattle.std.specs.Cmp.{unsigned_Decides}
use Rattle.std.specs.Cmp.Lexicographic.{pointwise}
use Rattle.std.specs.List.{All, IsDistinct, list_any}
use Rattle.std.specs.Map.{keys_of}
use Rattle.std.proofs.Math.Nat.{le-max_left, le-max_right}
use Rattle.std.proofs.Math.Pow.{pow_mono}
use Rattle.std.proofs.lemmas.Bool.{cases_eq, cases_lt}
use Rattle.std.proofs.lemmas.Cmp.{nat_eq_equiv}
use Rattle.std.proofs.lemmas.List.{get_or-map}
use Rattle.std.proofs.lemmas.Map.Entries.{length-keys_of}
use Rattle.std.proofs.lemmas.Map.Made.{IsDistinct-from_AllPairs, length-le_from_is_member}
use Rattle.ark_math.specs.Field.{FieldOn, IsField}
use Rattle.ark_math_variables.specs.Multilinear.{Table, zero_table, written, fixed}
use Rattle.ark_math.specs.Univariate.{IsBelow, IsSparse, of_pairs, added, scaled}
use Rattle.ark_math.proofs.Algebra.Groups.{itself_is_module, zero_plus}
use Rattle.ark_math.proofs.Algebra.Powers.{times_zero}
use Rattle.ark_math_variables.proofs.Polynomials.Multilinear.{fixed-below}
use Rattle.ark_math_polynomials.proofs.Polynomials.Univariate.{monomial-other}
use Rattle.ark_math_variables.proofs.Polynomials.Tables.{same_table, table_Decides, moved_pairs, pairs_below, sparse_below, written-below}
use Rattle.ark_math_polynomials.proofs.Polynomials.UnivariatePairs.{of_pairs-first, tail_sparse, sparse_Decides, sparse_none_Decides}

-- the table with these entries
abbrev pub stored : {F : Type 0} → FieldOn F → ℕ → List (ℕ × F) → Table F
stored K n es = record { variables = n; value = of_pairs K es }

module _ {F : Type 0} (K : FieldOn F) (N : IsField K) where
  -- a test of entries and numbers of variables is one of tables
  pub equal_entries : (eq : F → F → Bool) → ((a b : F) → Decides (eq a b) (a ≡ b)) → (p q : List (ℕ × F)) (m n : ℕ) → IsSparse K p → IsSparse K q → Decides (pointwise (λ x y. (x.0 == y.0) && eq x.1 y.1) p q && (m == n)) (stored K m p ≡ stored K n q)
  equal_entries eq decides p q m n left right = table_Decides (sparse_Decides K N decides p q left right) (unsigned_Decides m n)

  -- entries that were written
  pub written_within : (es ps : List (ℕ × F)) (n : ℕ) → IsSparse K es → of_pairs K es ≡ written K.zero ps → All (λ e. e.0 < n) ps → All (λ e. e.0 < n) es
  written_within es ps n s e h = sparse_below K N n es s (subst (IsBelow K n) (sym e) (written-below K n ps h))

  -- entries of a sum with a multiple
  pub sum_within : (es p q : List (ℕ × F)) (f : F) (m n : ℕ) → IsSparse K es → of_pairs K es ≡ added K (of_pairs K p) (scaled K f (of_pairs K q)) → All (λ e. e.0 < 2 ^ m) p → All (λ e. e.0 < 2 ^ n) q → All (λ e. e.0 < 2 ^ max m n) es
  sum_within es p q f m n s e left right =
      let a : 2 ^ m ≤ 2 ^ max m n = pow_mono (le-max_left m n) in
      let b : 2 ^ n ≤ 2 ^ max m n = pow_mono (le-max_right m n) in
      sparse_below K N (2 ^ max m n) es s (λ i past.
      ap (λ t. t i) e
      ∙ ap₂ K.plus (pairs_below K N (2 ^ m) p left i (omega arith)) (ap (K.times f) (pairs_below K N (2 ^ n) q right i (omega arith)) ∙ times_zero K N f)
      ∙ N.plus_zero K.zero)

  -- entries of what is left when the first variables are bound
  pub fixed_within : (es ps : List (ℕ × F)) (p : List F) (n : ℕ) → IsSparse K es → of_pairs K es ≡ fixed K (of_pairs K ps) p → length p ≤ n → All (λ e. e.0 < 2 ^ n) ps → All (λ e. e.0 < 2 ^ (n - length p)) es
  fixed_within es ps p n s e few h =
      sparse_below K N (2 ^ (n - length p)) es s (subst (IsBelow K (2 ^ (n - length p))) (sym e) (fixed-below K N (of_pairs K ps) p n few (pairs_below K N (2 ^ n) ps h)))

  -- of no variables, a test for no entries is one for zero
  pub decides_zero : (es : List (ℕ × F)) (n : ℕ) (b : Bool) → IsSparse K es → n ≡ 0 → b ≡ (length es == 0) → Decides b (stored K n es ≡ zero_table K)
  decides_zero es n b s none is =
      let d = sparse_none_Decides K N es b s is in
      (λ h. same_table (stored K n es) (zero_table K) none (d.0 h), λ e. d.1 (ap (λ t. t.value) e))

  -- entries whose indices were moved by an order that is its own inverse
  pub moved_within : (s : ℕ → ℕ) → ((i : ℕ) → s (s i) ≡ i) → (n : ℕ) → ((i : ℕ) → i < n → s i < n) → (es ps : List (ℕ × F)) → IsSparse K es → of_pairs K es ≡ of_pairs K (map (λ p. (s p.0, p.1)) ps) → All (λ e. e.0 < n) ps → All (λ e. e.0 < n) es
  moved_within s twice n inside es ps sparse e h = sparse_below K N n es sparse (λ i past.
      let beyond : n ≤ s i = ⊎_elim
      (λ (l : s i < n). let back = inside (s i) l in let same = twice i in absurd (omega arith))
      (λ (l : n ≤ s i). l)
      (cases_lt (s i) n) in
      ap (λ t. t i) (e ∙ moved_pairs K s twice ps) ∙ pairs_below K N n ps h (s i) beyond)

  -- ---- how many entries there are

  -- an entry's index has a value that isn't zero
  entered : (es : List (ℕ × F)) → IsSparse K es → (q : ℕ) → list_any (nat_eq q) (keys_of es) ≡ true → of_pairs K es q ≢ K.zero
  entered [] s q is none = absurd (true≢false (sym is))
  entered (e ∷ es) s q is none = ⊎_elim
      (λ (same : e.0 ≡ q). s.some 0 e (omega arith) (sym (of_pairs-first K N e es s.rising) ∙ ap (of_pairs K (e ∷ es)) same ∙ none))
      (λ (ne : e.0 ≢ q). entered es (tail_sparse K N e es s) q
      (sym (ap (λ b. b || list_any (nat_eq q) (keys_of es)) (ne_eqb q e.0 (λ f. ne (sym f)))) ∙ is)
      (sym (ap (λ x. K.plus x (of_pairs K es q)) (monomial-other K e.0 e.1 q ne) ∙ zero_plus (itself_is_module K N) (of_pairs K es q)) ∙ none))
      (cases_eq e.0 q)

  -- where the sum of pairs isn't zero is the index of one of them
  paired : (ps : List (ℕ × F)) (q : ℕ) → of_pairs K ps q ≢ K.zero → list_any (nat_eq q) (keys_of ps) ≡ true
  paired [] q some = absurd (some refl)
  paired (p ∷ ps) q some = ⊎_elim
      (λ (same : q ≡ p.0). ap (λ b. b || list_any (nat_eq q) (keys_of ps)) (eq-eqb q p.0 same))
      (λ (ne : q ≢ p.0). ap (λ b. b || list_any (nat_eq q) (keys_of ps)) (ne_eqb q p.0 ne)
      ∙ paired ps q (λ none. some (ap₂ K.plus (monomial-other K p.0 p.1 q (λ f. ne (sym f))) none ∙ N.plus_zero K.zero)))
      (cases_eq q p.0)

  distinct_indices : (es : List (ℕ × F)) → IsSparse K es → IsDistinct nat_eq (keys_of es)
  distinct_indices es s = IsDistinct-from_AllPairs unsigned_Decides (keys_of es) (λ i j d l m same.
      let inside : j < length es = omega (arith, length-keys_of es) in
      let up : (get_or es i (0, K.zero)).0 < (get_or es j (0, K.zero)).0 = s.rising i j (0, K.zero) l inside in
      let first = get_or-map (λ e. e.0) es i (0, K.zero) d (omega arith) in
      let second = get_or-map (λ e. e.0) es j (0, K.zero) d inside in
      omega (arith, first, second, same))

  -- entries are at most as many as any pairs with the same sum
  pub no_more_entries : (es ps : List (ℕ × F)) → IsSparse K es → of_pairs K es ≡ of_pairs K ps → length es ≤ length ps
  no_more_entries es ps s e =
      let l = length-le_from_is_member nat_eq_equiv (keys_of es) (keys_of ps) (distinct_indices es s)
      (λ q is. paired ps q (λ none. entered es s q is (ap (λ t. t q) e ∙ none))) in
      omega (arith, length-keys_of es, length-keys_of ps)
