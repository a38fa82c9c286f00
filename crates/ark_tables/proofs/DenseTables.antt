-- Tables as lists of all their values.
use Rattle.std.proofs.Common.{◌≡◌, ◌≢◌, ℕ, ◌^◌, ◌==◌, ◌&&◌, ⊎_elim, max, Bool, Decides, List, length, get_or, refl, sym, ◌∙◌, ap, ap₂, arith}
use mathlib.Core.Path.{fun_ext}
use Rattle.std.specs.Cmp.{unsigned_Decides}
use Rattle.std.proofs.lemmas.Bool.{cases_eq}
use Rattle.std.proofs.lemmas.Bool.Decides.{Decides-and}
use Rattle.std.proofs.lemmas.List.{get_or_read}
use Rattle.std.proofs.lemmas.Slice.Eq.{slice_eq-Decides}
use Rattle.std.specs.Cmp.Lexicographic.{pointwise}
use Rattle.ark_math.specs.Field.{FieldOn}
use Rattle.ark_math.specs.Module.{tabulate}
use Rattle.ark_math_variables.specs.Multilinear.{Table, zero_table}
use Rattle.ark_math.specs.Univariate.{IsBelow, of_list}
use Rattle.ark_math.proofs.Lists.Tabulated.{is_tabulated}
use Rattle.ark_math_variables.proofs.Polynomials.Tables.{same_table, same_values}
use Rattle.ark_math_polynomials.proofs.Polynomials.UnivariateLists.{of_list-past}

-- the table with these values
abbrev pub listed : {F : Type 0} → FieldOn F → ℕ → List F → Table F
listed K n v = record { variables = n; value = of_list K v }

pub same_length : {F : Type 0} (m n : ℕ) (x : List F) → length x ≡ m → length x ≡ n → length x ≡ max m n
same_length m n x left right = omega arith

pub list_below : {F : Type 0} (K : FieldOn F) (v : List F) (n : ℕ) → length v ≡ 2 ^ n → IsBelow K (2 ^ n) (of_list K v)
list_below K v n e i past = of_list-past K v i (omega arith)

-- the values at all the corners, in order
pub is_listing : {F : Type 0} (K : FieldOn F) (v : List F) (n : ℕ) → length v ≡ 2 ^ n → v ≡ tabulate (2 ^ n) (of_list K v)
is_listing K v n whole = is_tabulated K.zero v (2 ^ n) (of_list K v) whole (λ i l. refl)

-- a test of values and numbers of variables is one of tables
pub equal_tables : {F : Type 0} (K : FieldOn F) (eq : F → F → Bool) → ((a b : F) → Decides (eq a b) (a ≡ b)) → (c d : List F) (m n : ℕ) → length c ≡ 2 ^ m → length d ≡ 2 ^ n → Decides (pointwise eq c d && (m == n)) (listed K m c ≡ listed K n d)
equal_tables K eq decides c d m n left right =
    let both = Decides-and (pointwise eq c d) (m == n) (slice_eq-Decides decides c d (pointwise eq c d) refl) (unsigned_Decides m n) in (
      λ e. let h = both.0 e in ap₂ (listed K) h.1 h.0,
      λ e.
          let same : m ≡ n = ap (λ t. t.variables) e in
          let lengths : length c ≡ length d = left ∙ ap (λ k. 2 ^ k) same ∙ sym right in
          both.1 (same_values K c d lengths (ap (λ t. t.value) e), same),
    )

-- zero of no variables is one value, zero
is_zero_table : {F : Type 0} (K : FieldOn F) (v : List F) (n : ℕ) (x : F) → length v ≡ 2 ^ n → n ≡ 0 → x ≡ get_or v 0 x → x ≡ K.zero → listed K n v ≡ zero_table K
is_zero_table K v n x whole none is zero =
    let one : length v ≡ 1 = whole ∙ ap (λ k. 2 ^ k) none in
    same_table (listed K n v) (zero_table K) none
    (fun_ext (λ i. ⊎_elim
    (λ (e : i ≡ 0). ap (of_list K v) e ∙ sym (get_or_read v 0 x (omega arith) is K.zero) ∙ zero)
    (λ (ne : i ≢ 0). of_list-past K v i (omega arith))
    (cases_eq i 0)))

pub decides_zero : {F : Type 0} (K : FieldOn F) (v : List F) (n : ℕ) (x : F) (b : Bool) → length v ≡ 2 ^ n → n ≡ 0 → x ≡ get_or v 0 x → Decides b (x ≡ K.zero) → Decides b (listed K n v ≡ zero_table K)
decides_zero {F = F} K v n x b whole none is decides =
    let one : length v ≡ 1 = whole ∙ ap (λ k. 2 ^ k) none in (
      λ e. is_zero_table K v n x whole none is (decides.0 e),
      λ e. decides.1 (get_or_read v 0 x (omega arith) is K.zero ∙ ap (λ (t : Table F). t.value 0) e),
    )
