-- Rows taken back, and then columns, are the whole inverse.
use Rattle.std.proofs.Common.{◌≡◌, ℕ, ◌+◌, ◌*◌, ◌/◌, ◌%◌, ◌<◌, ◌≤◌, List, length, sym, ◌∙◌, ap, refl, subst, arith, ⊎_elim}
use Rattle.std.proofs.Math.Nat.{mod-add-div, mod-lt, div-lt_iff_lt-mul}
use Rattle.std.proofs.lemmas.Bool.{cases_lt}
use Rattle.ark_math.specs.Field.{FieldOn, IsField, power}
use Rattle.ark_math.specs.Module.{ModuleOn, IsModule, item}
use Rattle.ark_math.specs.Domain.{Domain}
use Rattle.ark_math.specs.Transform.{transform, fit, IsInverse}
use Rattle.ark_math.proofs.Lists.Tabulated.{item-tabulate, length-tabulate, is_tabulated, tabulate-same}
use Rattle.ark_math_domains.proofs.Callers.Transforms.{transform-fit}
use Rattle.ark_fft_parts.specs.Parts.{column, across, down, of_columns, of_row, AreColumnsUnmade, AreRowsUnmade, AreInParts}
use Rattle.ark_fft_parts.proofs.Making.{parts_make_the_transform}

-- each place is one of the parts' order
pub in_parts : (r c : ℕ) (P : ℕ → Type 0) → ((i j : ℕ) → i < r → j < c → P (i + r * j)) → (k : ℕ) → k < r * c → P k
in_parts r c P all k l =
    ⊎_elim
    (λ (some : 0 < r).
    let i : k % r < r = mod-lt k some in
    let turned : r * c ≡ c * r = omega arith in
    let j : k / r < c = (div-lt_iff_lt-mul some).1 (omega arith) in
    subst P (mod-add-div k r) (all (k % r) (k / r) i j))
    (λ (none : r ≤ 0).
    let z : r ≡ 0 = omega arith in
    let zero_places : r * c ≡ 0 = ap (λ t. t * c) z ∙ omega arith in
    absurd (omega arith))
    (cases_lt 0 r)

module _ {F M : Type 0} {K : FieldOn F} {V : ModuleOn F M} (N : IsField K) (L : IsModule K V) (d : Domain F) (r c : ℕ) where
  module _ (values xs : List M) (rows before : ℕ → List M) (size : d.size ≡ r * c) (one : power K d.root d.size ≡ K.one) (order : AreInParts V r c values rows) (of_rows : AreRowsUnmade K V d r c rows before) (columns : AreColumnsUnmade K V d r c before xs) where
    made_column : ℕ → List M
    made_column j = transform K V (of_columns K d r c) (column V r c xs j)

    made_row : ℕ → List M
    made_row i = transform K V (of_row K d r c i) (across V c made_column i)

    column_back : (i j : ℕ) → i < r → j < c → item V (made_column j) i ≡ item V (before i) j
    unfolding made_column
    column_back i j a b =
        ap (λ t. item V t i) (columns j b).values
        ∙ (item-tabulate V r (item V (down V r before j)) i a
        ∙ item-tabulate V r (λ k. item V (before k) j) i a)

    row_back : (i : ℕ) → i < r → made_row i ≡ fit V (rows i) c
    unfolding made_row
    row_back i a =
        ap (transform K V (of_row K d r c i)) (tabulate-same c (λ j. item V (made_column j) i) (item V (before i)) (λ j b. column_back i j a b))
        ∙ (transform-fit K V (of_row K d r c i) (before i) ∙ (of_rows i a).values)

    place_back : (i j : ℕ) → i < r → j < c → item V (transform K V d xs) (i + r * j) ≡ item V values (i + r * j)
    unfolding made_column made_row
    place_back i j a b =
        sym (parts_make_the_transform N L d r c xs made_column made_row size one (λ k l. refl) (λ k l. refl) i j a b)
        ∙ (ap (λ t. item V t j) (row_back i a)
        ∙ (item-tabulate V c (item V (rows i)) j b ∙ order i j a b))

    pub parts_make_the_inverse : length xs ≡ d.size → IsInverse K V d values xs
    parts_make_the_inverse len = record {
      size = len;
      values = is_tabulated V.zero (transform K V d xs) d.size (item V values) (length-tabulate d.size _)
          (λ k l. in_parts r c (λ p. item V (transform K V d xs) p ≡ item V values p) place_back k (subst (λ n. k < n) size l));
    }
