-- A prover's sum of products, as contracts see it and as the program has it.
use Rattle.std.proofs.Common.{◌≡◌, ◌≢◌, ℕ, ◌+◌, ◌-◌, ◌<◌, ◌≤◌, List, [], ◌∷◌, ◌++◌, Option, None, Some, false, is_some, true≢false, length, get_or, max, refl, sym, ◌∙◌, ap, ap₂, subst, subst₂, arith, ⊎_elim, Vec, Global}
use mathlib.Core.Path.{fun_ext}
use Rattle.std.proofs.lemmas.Bool.{cases_eq, cases_lt}
use Rattle.std.proofs.lemmas.List.{get_or_append_left, get_or_push, length-map}
use Rattle.std.proofs.lemmas.Simd.{map-map}
use Rattle.ark_math.specs.Field.{FieldOn, IsField}
use Rattle.ark_math.specs.Univariate.{nothing, of_list}
use Rattle.ark_math.proofs.Lists.Tabulated.{length-tabulate}
use Rattle.ark_math_polynomials.proofs.Polynomials.UnivariateLists.{of_list-past}
use Rattle.ark_sum_check.specs.Cube.{SumOfProducts, all_of, bound_to, combined, degree_of, longest, product_of, sum_value, sum_with}
use Rattle.ark_sum_check.specs.Lists.{as_sum, as_summed, as_tables}
use Rattle.ark_sum_check.specs.Provers.{Summed, addends_of, sum_of, variables_of}
use Rattle.ark_sum_check.specs.Rounds.{IsTrueRound}
use Rattle.ark_sum_check.specs.declared.addend.Addend.{Addend}
use Rattle.ark_sum_check.proofs.BoundTables.{past_tables}
use Rattle.ark_sum_check.proofs.Products.{table_is}
use Rattle.ark_sum_check.proofs.TrueRounds.{sum_value-none}

-- the sum of products of these tables
abbrev pub summed : {F : Type 0} → FieldOn F → List (Vec F Global) → Option (Vec (Addend F) Global) → SumOfProducts F
summed K vs bs = sum_with K (as_tables K vs) (addends_of K (length vs) (as_sum bs))

module _ {F : Type 0} (K : FieldOn F) (vs : List (Vec F Global)) (bs : Option (Vec (Addend F) Global)) where
  pub sum_of-summed : (m : ℕ) → sum_of K (as_summed vs bs m) ≡ summed K vs bs
  sum_of-summed m =
      ap₂ (λ ts n. sum_with K ts (addends_of K n (as_sum bs))) (map-map (λ t. of_list K t) (λ v. v.items) vs) (length-map vs (λ v. v.items))

  -- of a prover that is made of these
  pub sum_seen : (m : ℕ) (p : Summed F) → as_summed vs bs m ≡ p → summed K vs bs ≡ sum_of K p
  sum_seen m p e = sym (sum_of-summed m) ∙ ap (sum_of K) e

  -- with other tables
  pub summed-bound : (x : F) (us : List (Vec F Global)) → length us ≡ length vs → sum_with K (as_tables K us) [] ≡ bound_to K x (sum_with K (as_tables K vs) []) → summed K us bs ≡ bound_to K x (summed K vs bs)
  summed-bound x us count e =
      ap₂ (λ (ts : ℕ → ℕ → F) n. record { tables = ts; addends = addends_of K n (as_sum bs) }) (ap (λ (s : SumOfProducts F). s.tables) e) count

  -- by the values that the tables have at no variables
  pub last_summed : IsField K → (values : List F) (y : F) → length values ≡ length vs → ((i : ℕ) → i < length vs → of_list K values i ≡ get_or (as_tables K vs) i (nothing K) 0) → y ≡ combined K (addends_of K (length values) (as_sum bs)) (of_list K values) → y ≡ sum_value K (summed K vs bs) []
  last_summed N values y count at is =
      is
      ∙ ap₂ (λ n v. combined K (addends_of K n (as_sum bs)) v) count (fun_ext (λ i. ⊎_elim
      (λ (l : i < length vs). at i l)
      (λ (l : length vs ≤ i). of_list-past K values i (omega (arith, count)) ∙ sym (ap (λ t. t 0) (past_tables K vs i l)))
      (cases_lt i (length vs))))
      ∙ sum_value-none K N (summed K vs bs)

-- the tables' first values, one after the other
pub first_values-push : {F : Type 0} (K : FieldOn F) → IsField K → (vs : List (Vec F Global)) (values : List F) (j : ℕ) (u : Vec F Global) (y : F) → length values ≡ j → j < length vs → u ≡ get_or vs j u → y ≡ of_list K u.items 0 → ((i : ℕ) → i < j → of_list K values i ≡ get_or (as_tables K vs) i (nothing K) 0)
    → (i : ℕ) → i < j + 1 → of_list K (values ++ y ∷ []) i ≡ get_or (as_tables K vs) i (nothing K) 0
first_values-push K N vs values j u y count l e at h i m = ⊎_elim
    (λ (same : i ≡ j).
    get_or_push values y K.zero i (count ∙ sym same) ∙ at ∙ ap (λ t. t 0) (table_is K N vs j u l e) ∙ ap (λ k. get_or (as_tables K vs) k (nothing K) 0) (sym same))
    (λ (ne : i ≢ j). get_or_append_left values (y ∷ []) K.zero i (omega (arith, count)) ∙ h i (omega arith))
    (cases_eq i j)

-- a round of these is one of a prover that is made of them
pub round_seen : {F : Type 0} (K : FieldOn F) (vs : List (Vec F Global)) (bs : Option (Vec (Addend F) Global)) (m : ℕ) (p : Summed F) (d : ℕ) (values : List F) → as_summed vs bs m ≡ p → d ≡ max 1 (degree_of (sum_of K p)) → IsTrueRound K d (m - 1) (summed K vs bs) values
    → IsTrueRound K (max 1 (degree_of (sum_of K p))) (variables_of p - 1) (sum_of K p) values
round_seen K vs bs m p d values e degree h =
    let variables : m ≡ variables_of p = ap (λ q. variables_of q) e in
    subst (λ n. IsTrueRound K (max 1 (degree_of (sum_of K p))) (n - 1) (sum_of K p) values) variables
    (subst₂ (λ k s. IsTrueRound K k (m - 1) s values) degree (sum_seen K vs bs m p e) h)

-- the product of n tables has degree n
pub longest-all : {F : Type 0} (K : FieldOn F) (n : ℕ) → longest (all_of K n) ≡ n
longest-all K n = omega (arith, length-tabulate n (λ i. i))

-- no addends
pub none_seen : {X : Type 0} (o : Option X) → is_some o ≡ false → o ≡ None
none_seen None h = refl
none_seen (Some x) h = absurd (true≢false h)

-- two tables make a product of two
module _ {F : Type 0} (K : FieldOn F) where
  pub summed-two : (vs : List (Vec F Global)) (a b : Vec F Global) → length vs ≡ 2 → a ≡ get_or vs 0 a → b ≡ get_or vs 1 b → summed K vs None ≡ product_of K (of_list K a.items ∷ of_list K b.items ∷ [])
  summed-two [] a b e f g = absurd (omega (arith, e))
  summed-two (v ∷ []) a b e f g = absurd (omega (arith, e))
  summed-two (v ∷ w ∷ []) a b e f g = ap₂ (λ (x y : Vec F Global). product_of K (of_list K x.items ∷ of_list K y.items ∷ [])) (sym f) (sym g)
  summed-two (v ∷ w ∷ u ∷ vs) a b e f g = absurd (omega (arith, e))
