-- Rows of numbers, written as items at their places.
use Rattle.std.proofs.Common.{◌≡◌, ◌≢◌, ℕ, ◌+◌, ◌*◌, ◌%◌, ◌<◌, ◌≤◌, ◌⊎◌, List, length, get_or, arith, sym, ◌∙◌, below_more, inl, inr}
use Rattle.std.proofs.lemmas.Bool.{cases_lt}
use Rattle.shards_format.specs.Stripes.{item}
use Rattle.shards_format.specs.Files.{AreApart}
use Rattle.shards_format.proofs.BlockLists.{row_end}

-- the first a of these rows are written, as far as their places are below k
pub record RowsPut (k count : ℕ) (places numbers first bytes : List ℕ) (a : ℕ) : Type 0 where
  pub rows : (c s : ℕ) → c < a → s < count → get_or places c 0 < k → item bytes (get_or places c 0 * count + s) ≡ get_or numbers (c * count + s) 0 % 65536
  pub others : (j s : ℕ) → s < count → ((c : ℕ) → c < a → get_or places c 0 ≢ j) → item bytes (j * count + s) ≡ item first (j * count + s)

row_sides : (p j count s : ℕ) → j ≢ p → s < count → (j * count + s < p * count) ⊎ (p * count + count ≤ j * count + s)
row_sides p j count s ne h = elim (cases_lt j p) [
  | inl low ↦ let end = row_end j p count low in inl (omega (arith, end, h))
  | inr high ↦ let end = row_end p j count (omega (arith, high, ne)) in inr (omega (arith, end))
]

module _ (k count : ℕ) (places numbers first bytes : List ℕ) (a : ℕ) (m : RowsPut k count places numbers first bytes a) where
  pub row_put : (new : List ℕ) → AreApart places → a < length places
      → ((s : ℕ) → s < count → item new (get_or places a 0 * count + s) ≡ get_or numbers (a * count + s) 0 % 65536)
      → ((i : ℕ) → i < get_or places a 0 * count → item new i ≡ item bytes i)
      → ((i : ℕ) → get_or places a 0 * count + count ≤ i → item new i ≡ item bytes i)
      → RowsPut k count places numbers first new (a + 1)
  row_put new apart inside here before after =
      let p = get_or places a 0 in
      let kept : (j s : ℕ) → j ≢ p → s < count → item new (j * count + s) ≡ item bytes (j * count + s) = λ j s ne l. elim (row_sides p j count s ne l) [
        | inl low ↦ before (j * count + s) low
        | inr high ↦ after (j * count + s) high
      ] in
      record {
        rows = λ c s h l. below_more (λ c. get_or places c 0 < k → item new (get_or places c 0 * count + s) ≡ get_or numbers (c * count + s) 0 % 65536) a
            (λ c h b. kept (get_or places c 0) s (apart c a h inside) l ∙ m.rows c s h l b) (λ _. here s l) c h;
        others = λ j s l none. kept j s (λ e. none a (omega arith) (sym e)) l ∙ m.others j s l (λ c h. none c (omega (arith, h)));
      }

  pub row_passed : k ≤ get_or places a 0 → RowsPut k count places numbers first bytes (a + 1)
  row_passed high = record {
    rows = λ c s h l. below_more (λ c. get_or places c 0 < k → item bytes (get_or places c 0 * count + s) ≡ get_or numbers (c * count + s) 0 % 65536) a
        (λ c h b. m.rows c s h l b) (λ b. absurd (omega (arith, high, b))) c h;
    others = λ j s l none. m.others j s l (λ c h. none c (omega (arith, h)));
  }
