-- Sums of products that are read of words.
use Rattle.std.proofs.Common.{◌≡◌, ◌*◌, ◌^◌, ◌%◌, ◌<◌, ℕ, List, Vec, Global, length, map, sym, ap, ap₂, subst, ◌∙◌}
use mathlib.Core.Path.{fun_ext}
use Rattle.std.proofs.lemmas.Simd.{map-map}
use Rattle.ark_math.specs.Field.{FieldOn}
use Rattle.ark_sum_check.specs.Cube.{Product, SumOfProducts, degree_of, sum_with}
use Rattle.ark_sum_check.specs.Embedded.{embedded_sum}
use Rattle.ark_sum_check.specs.Lists.{as_products, as_tables}
use Rattle.ark_sum_check.specs.declared.addend.Addend.{Addend}
use Rattle.ark_sum_check.proofs.Embeddings.{as_product, embedded_product, longest_kept}
use Rattle.ark_words.specs.Numbers.{Spelled, numbers}
use Rattle.ark_word_sums.specs.Read.{numbered, table_lists}
use Rattle.ark_word_sums.specs.Sums.{sum_by}
use Rattle.ark_word_sums.proofs.WordTables.{corners, length-tables, tables_kept}

-- what was read by the width, as the spelled field says it
module _ (f : Spelled) (width m count : ℕ) (words : List ℕ) (same : f.width ≡ width) where
  pub spelled_some : 0 < width → 0 < f.width
  spelled_some some = subst (λ w. 0 < w) (sym same) some

  pub spelled_whole : length words ≡ count * (2 ^ m * width) → length words ≡ count * (2 ^ m * f.width)
  spelled_whole whole = whole ∙ ap (λ w. count * (2 ^ m * w)) (sym same)

  pub spelled_tables : (lists : List (List ℕ)) → m < 64 → lists ≡ table_lists (1 * 2 ^ m % 2 ^ 64) count (numbers width words) → lists ≡ table_lists (2 ^ m) count (numbers f.width words)
  spelled_tables lists few read = read ∙ ap₂ (λ n w. table_lists n count (numbers w words)) (corners m few) (sym same)

module _ {F : Type 0} (K : FieldOn F) (number : F → ℕ) (f : Spelled) (zero_kept : number K.zero ≡ 0) (some : 0 < f.width) where
  -- the sum of these products of these tables
  pub sum_read : (m count : ℕ) (words : List ℕ) (vs : List (Vec F Global)) (ps : List (Addend F)) (s : SumOfProducts F) → length words ≡ count * (2 ^ m * f.width)
      → map (λ v. map number v.items) vs ≡ table_lists (2 ^ m) count (numbers f.width words) → s ≡ sum_with K (as_tables K vs) (as_products ps) → embedded_sum number s ≡ sum_by f m words (numbered number ps)
  sum_read m count words vs ps s whole read is =
      ap (embedded_sum number) is
      ∙ ap₂ (λ (ts : ℕ → ℕ → ℕ) (qs : List (Product ℕ)). record { tables = ts; addends = qs })
      (fun_ext (λ i. fun_ext (λ b. tables_kept K number f.known zero_kept (2 ^ m) count (numbers f.width words) vs (length-tables f.width (2 ^ m) words some count whole) read i b)))
      (map-map (embedded_product number) as_product ps)

-- its degree
pub degree_read : {F : Type 0} (number : F → ℕ) (s : SumOfProducts F) (t : SumOfProducts ℕ) → embedded_sum number s ≡ t → degree_of s ≡ degree_of t
degree_read number s t e = sym (longest_kept number s.addends) ∙ ap (λ (u : SumOfProducts ℕ). degree_of u) e
