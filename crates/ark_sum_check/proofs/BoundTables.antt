-- Lists of tables whose first variables are bound one table after the other.
use Rattle.std.proofs.Common.{◌≡◌, ℕ, ◌+◌, ◌*◌, ◌<◌, ◌≤◌, List, [], ◌∷◌, length, get_or, map, set, take, sym, ◌∙◌, ap, subst, arith, ⊎_elim, Vec, Global}
use mathlib.Core.Path.{fun_ext}
use Rattle.std.specs.Prelude.{All}
use Rattle.std.proofs.lemmas.Bool.{cases_lt}
use Rattle.std.proofs.lemmas.List.{get_or-take, get_or_past, length-map, length-set, length-take}
use Rattle.std.proofs.lemmas.List.Elements.{All-get_or}
use Rattle.ark_math.specs.Field.{FieldOn, IsField}
use Rattle.ark_math_variables.specs.Multilinear.{fixed}
use Rattle.ark_math.specs.Univariate.{IsBelow, nothing, of_list}
use Rattle.ark_math.proofs.Lists.Lists.{read_as, read_at, written_more, written_rest}
use Rattle.ark_math_variables.proofs.Polynomials.Multilinear.{bound-below, fixed-nothing, fixed-one}
use Rattle.ark_math_polynomials.proofs.Polynomials.Univariate.{same_below}
use Rattle.ark_math_polynomials.proofs.Polynomials.UnivariateLists.{of_list-past}
use Rattle.ark_sum_check.specs.Cube.{bound_to, sum_with}
use Rattle.ark_sum_check.specs.Lists.{as_tables}

-- a table's lower half, once it holds what is left
pub lower_half : {F : Type 0} (K : FieldOn F) → IsField K → (t : List F) (x : F) (u : List F) (h : ℕ) → length t ≡ 2 * h → length u ≡ length t → ((i : ℕ) → i < h → of_list K u i ≡ fixed K (of_list K t) (x ∷ []) i) → of_list K (take h u) ≡ fixed K (of_list K t) (x ∷ [])
lower_half K N t x u h e same inside =
    same_below K h (of_list K (take h u)) (fixed K (of_list K t) (x ∷ []))
    (λ i past. of_list-past K (take h u) i (let e = length-take h u in omega arith))
    (subst (IsBelow K h) (sym (fixed-one K N (of_list K t) x)) (bound-below K N (of_list K t) x h (λ i past. of_list-past K t i (omega arith))))
    (λ i below. get_or-take h u i K.zero below ∙ inside i below)

-- no table past the last one
pub past_tables : {F : Type 0} (K : FieldOn F) (vs : List (Vec F Global)) (k : ℕ) → length vs ≤ k → get_or (as_tables K vs) k (nothing K) ≡ nothing K
past_tables K vs k l = get_or_past (as_tables K vs) k (nothing K) (subst (λ n. n ≤ k) (sym (length-map vs (λ w. of_list K w.items))) l)

-- the first i tables are bound to x
pub record AreBound {F : Type 0} (K : FieldOn F) (x : F) (half : ℕ) (old : List (Vec F Global)) (i : ℕ) (now : List (Vec F Global)) : Type 0 where
  pub count : length now ≡ length old
  pub bound : (k : ℕ) → k < i → get_or (map (λ v. of_list K v.items) now) k (nothing K) ≡ fixed K (get_or (as_tables K old) k (nothing K)) (x ∷ [])
  pub halves : (k : ℕ) → k < i → get_or (map (λ v. length v.items) now) k 0 ≡ half
  pub rest : (k : ℕ) → i ≤ k → get_or (map (λ v. of_list K v.items) now) k (nothing K) ≡ get_or (as_tables K old) k (nothing K)
  pub whole : (k : ℕ) → i ≤ k → get_or (map (λ v. length v.items) now) k 0 ≡ get_or (map (λ v. length v.items) old) k 0

module _ {F : Type 0} (K : FieldOn F) (x : F) (half : ℕ) (old : List (Vec F Global)) where
  pub AreBound-more : (i : ℕ) (now : List (Vec F Global)) (u v : Vec F Global) → i < length now → u ≡ get_or now i u → AreBound K x half old i now → of_list K v.items ≡ fixed K (of_list K u.items) (x ∷ []) → length v.items ≡ half → AreBound K x half old (i + 1) (set now i v)
  AreBound-more i now u v l e h is len = record {
    count = length-set now i v ∙ h.count;
    bound = written_more (λ w. of_list K w.items) (nothing K) (λ k. fixed K (get_or (as_tables K old) k (nothing K)) (x ∷ [])) now i v l h.bound
        (is ∙ ap (λ t. fixed K t (x ∷ [])) (read_as (λ w. of_list K w.items) (nothing K) now i u l e ∙ h.rest i (omega arith)));
    halves = written_more (λ w. length w.items) 0 (λ k. half) now i v l h.halves len;
    rest = written_rest (λ w. of_list K w.items) (nothing K) (λ k. get_or (as_tables K old) k (nothing K)) now i v h.rest;
    whole = written_rest (λ w. length w.items) 0 (λ k. get_or (map (λ w. length w.items) old) k 0) now i v h.whole;
  }

  -- a table that comes next is whole
  pub AreBound-next : (n i : ℕ) (now : List (Vec F Global)) (u : Vec F Global) → i < length now → u ≡ get_or now i u → All (λ t. length t.items ≡ n) old → AreBound K x half old i now → length u.items ≡ n
  AreBound-next n i now u l e all h =
      read_as (λ w. length w.items) 0 now i u l e
      ∙ h.whole i (omega arith)
      ∙ sym (read_at (λ w. length w.items) 0 old i u (omega (arith, h.count)))
      ∙ All-get_or (λ t. length t.items ≡ n) old i u (omega (arith, h.count)) all

  pub AreBound-tables : IsField K → (i : ℕ) (now : List (Vec F Global)) → length now ≤ i → AreBound K x half old i now → sum_with K (as_tables K now) [] ≡ bound_to K x (sum_with K (as_tables K old) [])
  AreBound-tables N i now l h = ap (λ ts. record { tables = ts; addends = [] }) (fun_ext (λ k. ⊎_elim
      (λ (m : k < length now). h.bound k (omega arith))
      (λ (m : length now ≤ k). past_tables K now k m ∙ sym (ap (λ t. fixed K t (x ∷ [])) (past_tables K old k (omega (arith, h.count))) ∙ fixed-nothing K N (x ∷ [])))
      (cases_lt k (length now))))

  pub AreBound-halves : (i : ℕ) (now : List (Vec F Global)) → length now ≤ i → AreBound K x half old i now → All (λ t. length t.items ≡ half) now
  AreBound-halves i now l h = λ k d m. read_at (λ w. length w.items) 0 now k d m ∙ h.halves k (omega arith)
