-- A block's bytes, its items and its numbers.
use Rattle.std.proofs.Common.{◌≡◌, ◌≢◌, ℕ, zero, suc, [], ◌∷◌, ◌++◌, ◌+◌, ◌*◌, ◌-◌, ◌/◌, ◌%◌, ◌^◌, ◌<◌, ◌≤◌, List, length, get_or, take, drop, map, arith, sym, ◌∙◌, ap, subst, inl, inr, mod-lt}
use Rattle.std.proofs.lemmas.List.{ext_get_or, get_or-take, get_or-drop, length-take-le, length-take, length-drop, length-map, map-append, get_or_append_left, get_or_push, get_or-map, get_or-set_other, map-set, get_or_past}
use Rattle.std.proofs.Math.ListN.{set}
use Rattle.std.proofs.lemmas.List.FromFn.{fill_by_all}
use Rattle.std.proofs.Math.Nat.{mul-zero, div-lt_iff_lt-mul}
use Rattle.std.proofs.lemmas.Nat.{div-add-mod'}
use Rattle.std.proofs.lemmas.Bool.{cases_eq, cases_lt}
use Rattle.std.proofs.lemmas.List.FromFn.{get_or-map-range_with_len, length-map-range_with_len}
use Rattle.shards_format.specs.Stripes.{item, stripe, stripes, numbers_at, Numbering}
use Rattle.shards_format.specs.Parts.{IsMarked, IsPart}

-- ---- products

-- place s of row i, of n rows of so many
pub row_place : (i s n count : ℕ) → i < n → s < count → i * count + s < n * count
row_place i s n count h l = grind arith

pub row_end : (i n count : ℕ) → i < n → i * count + count ≤ n * count
row_end i n count h = grind arith

-- what is read in a row that is cut out
pub row_at : (a count s : ℕ) (xs : List ℕ) → s < count → get_or (take (a * count + count - a * count) (drop (a * count) xs)) s 0 ≡ get_or xs (a * count + s) 0
row_at a count s xs h =
    get_or-take (a * count + count - a * count) (drop (a * count) xs) s 0 (omega (arith, h)) ∙ get_or-drop (a * count) xs s 0

pub row_len : (a rows count : ℕ) (xs : List ℕ) → a < rows → length xs ≡ rows * count → length (take (a * count + count - a * count) (drop (a * count) xs)) ≡ count
row_len a rows count xs h len =
    let end : a * count + count ≤ rows * count = row_end a rows count h in
    simp (length-take, length-drop) (omega (arith, end, len))

-- ---- stripes

-- the stripes have room for the bytes
pub stripes_room : (k len : ℕ) → 0 < k → len ≤ 2 * (k * stripes k len)
stripes_room k len h = grind arith

-- ---- bytes and items

same_bytes : (xs ys : List ℕ) (j : ℕ) → ((i : ℕ) → get_or xs i 0 < 256) → ((i : ℕ) → get_or ys i 0 < 256) → item xs j ≡ item ys j → (get_or xs (2 * j) 0 ≡ get_or ys (2 * j) 0) × (get_or xs (2 * j + 1) 0 ≡ get_or ys (2 * j + 1) 0)
same_bytes xs ys j small few e =
    let a : get_or xs (2 * j) 0 < 256 = small (2 * j) in
    let b : get_or ys (2 * j) 0 < 256 = few (2 * j) in
    (omega arith, omega arith)

-- what holds at both places of each pair holds at each place
by_pairs : (P : ℕ → Type 0) (n : ℕ) → ((j : ℕ) → j < n → P (2 * j)) → ((j : ℕ) → j < n → P (2 * j + 1)) → (i : ℕ) → i < 2 * n → P i
by_pairs P n even odd i h = elim (cases_eq (i % 2) 0) [
  | inl e ↦ let is : 2 * (i / 2) ≡ i = omega arith in let lt : i / 2 < n = omega arith in subst P is (even (i / 2) lt)
  | inr ne ↦ let is : 2 * (i / 2) + 1 ≡ i = omega arith in let lt : i / 2 < n = omega arith in subst P is (odd (i / 2) lt)
]

-- bytes whose items are a block's begin with it
pub bytes_by_items : (xs block : List ℕ) (n : ℕ) → ((i : ℕ) → get_or xs i 0 < 256) → ((i : ℕ) → get_or block i 0 < 256)
    → length xs ≡ 2 * n → length block ≤ 2 * n → ((j : ℕ) → j < n → item xs j ≡ item block j) → take (length block) xs ≡ block
bytes_by_items xs block n small few len room same =
    let long : length block ≤ length xs = omega arith in
    ext_get_or 0 _ _ (length-take-le (length block) xs long) (λ i h.
    let below : i < length block = omega (arith, h, length-take-le (length block) xs long) in
    get_or-take (length block) xs i 0 below ∙ by_pairs (λ i. get_or xs i 0 ≡ get_or block i 0) n
    (λ j l. (same_bytes xs block j small few (same j l)).0) (λ j l. (same_bytes xs block j small few (same j l)).1) i (omega (arith, below, room)))

-- what holds at each place of each row holds at each place
by_rows : (P : ℕ → Type 0) (k n : ℕ) → ((s j : ℕ) → s < n → j < k → P (s * k + j)) → (i : ℕ) → i < n * k → P i
by_rows P zero n each i h = let none : i < 0 = subst (λ m. i < m) (mul-zero n) h in absurd (omega arith)
by_rows P (suc k) n each i h =
    let is : i / suc k * suc k + i % suc k ≡ i = div-add-mod' i (suc k) in
    let rest : i % suc k < suc k = mod-lt i (omega arith) in
    let row : i / suc k < n = (div-lt_iff_lt-mul {k = suc k} {x = i} {y = n} (omega arith)).1 h in
    subst P is (each (i / suc k) (i % suc k) row rest)

-- bytes whose rows are a block's begin with it
pub block_by_rows : (k count : ℕ) (bytes block : List ℕ) → 0 < k → ((i : ℕ) → get_or bytes i 0 < 256) → ((i : ℕ) → get_or block i 0 < 256)
    → length bytes ≡ 2 * (k * count) → count ≡ stripes k (length block)
    → ((j s : ℕ) → j < k → s < count → item bytes (j * count + s) ≡ item block (j * count + s))
    → take (length block) bytes ≡ block
block_by_rows k count bytes block some small few len count_is each =
    let room : length block ≤ 2 * (k * count) = subst (λ c. length block ≤ 2 * (k * c)) (sym count_is) (stripes_room k (length block) some) in
    bytes_by_items bytes block (k * count) small few len room (by_rows (λ i. item bytes i ≡ item block i) count k each)

-- numbers that fit below the end fit everywhere
pub all_fit : (n : ℕ) (numbers : List ℕ) → length numbers ≡ n → ((p : ℕ) → p < n → get_or numbers p 0 ≤ 65536) → (p : ℕ) → get_or numbers p 0 ≤ 65536
all_fit n numbers len each p = elim (cases_lt p (length numbers)) [
  | inl h ↦ each p (subst (λ m. p < m) len h)
  | inr h ↦ rw (get_or_past numbers p 0 h) (omega arith)
]

pub rows_fit : (rows count : ℕ) (numbers : List ℕ) → length numbers ≡ rows * count
    → ((i s : ℕ) → i < rows → s < count → get_or numbers (i * count + s) 0 ≤ 65536) → (p : ℕ) → get_or numbers p 0 ≤ 65536
rows_fit rows count numbers len each = all_fit (rows * count) numbers len (by_rows (λ p. get_or numbers p 0 ≤ 65536) count rows each)

-- the items of small bytes
pub item_small : (bytes : List ℕ) (j : ℕ) → ((i : ℕ) → get_or bytes i 0 < 256) → item bytes j < 2 ^ 16
item_small bytes j small =
    let low = small (2 * j) in
    let high = small (2 * j + 1) in
    omega (arith, low, high)

pub small_rest : (x : ℕ) → x < 2 ^ 16 → x % 65536 ≡ x
small_rest x h = omega (arith, h)

-- ---- the parts of a block

module _ (number : Numbering) (k n i : ℕ) (block : List ℕ) where
  abbrev at_place : ℕ → ℕ
  at_place s = number k n (stripe (stripes k (length block)) block s) i

  pub numbers_len : length (numbers_at number k n block i) ≡ stripes k (length block)
  numbers_len = length-map-range_with_len at_place 0 (stripes k (length block))

  pub number_of : (s : ℕ) → s < stripes k (length block) → get_or (numbers_at number k n block i) s 0 ≡ number k n (stripe (stripes k (length block)) block s) i
  number_of s h = get_or-map-range_with_len at_place 0 (stripes k (length block)) s s 0 h (omega arith)

  -- a row of numbers is those at its place
  pub row_of_numbers : (count b rows : ℕ) (numbers : List ℕ) → b < rows → length numbers ≡ rows * count → count ≡ stripes k (length block)
      → ((s : ℕ) → s < count → get_or numbers (b * count + s) 0 ≡ number k n (stripe (stripes k (length block)) block s) i)
      → take count (drop (b * count) numbers) ≡ numbers_at number k n block i
  row_of_numbers count b rows numbers h len count_is each =
      let end : b * count + count ≤ rows * count = row_end b rows count h in
      let size : length (take count (drop (b * count) numbers)) ≡ count = simp (length-take, length-drop) (omega (arith, end, len)) in
      fill_by_all at_place (take count (drop (b * count) numbers)) (stripes k (length block)) 0 (size ∙ count_is) (λ s l.
      let below : s < count = omega (arith, l, count_is) in
      get_or-take count (drop (b * count) numbers) s 0 below ∙ get_or-drop (b * count) numbers s 0 ∙ each s below)

  -- the items of a row are a plain part
  pub plain_row : (count : ℕ) (part : List ℕ) → count ≡ stripes k (length block) → i < k
      → ((s : ℕ) → number k n (stripe (stripes k (length block)) block s) i ≡ stripe (stripes k (length block)) block s i)
      → ((i : ℕ) → get_or part i 0 < 256) → length part ≡ 2 * count → ((s : ℕ) → s < count → item part s ≡ item block (i * count + s)) → IsPart k i (numbers_at number k n block i) part
  plain_row count part count_is below same fits len items = record {
    plain = λ _. record {
      fits = fits;
      len = len ∙ ap (λ m. 2 * m) (count_is ∙ sym numbers_len);
      numbers = λ s h.
          let inside : s < stripes k (length block) = subst (λ m. s < m) numbers_len h in
          items s (subst (λ m. s < m) (sym count_is) inside) ∙ ap (λ c. item block (i * c + s)) count_is ∙ sym (same s) ∙ sym (number_of s inside);
    };
    marked = λ h. absurd (omega (arith, h, below));
  }

  pub marked_row : (part : List ℕ) → k ≤ i → IsMarked (numbers_at number k n block i) part → IsPart k i (numbers_at number k n block i) part
  marked_row part from is = record {
    plain = λ h. absurd (omega (arith, h, from));
    marked = λ _. is;
  }

-- ---- a list that gains an item, by a view

pub pushed_before : {X Y : Type 0} (f : X → Y) (xs : List X) (y : X) (d : Y) (j : ℕ) → j < length xs → get_or (map f (xs ++ y ∷ [])) j d ≡ get_or (map f xs) j d
pushed_before f xs y d j h =
    let lt : j < length (map f xs) = subst (λ n. j < n) (sym (length-map xs f)) h in
    ap (λ l. get_or l j d) (map-append f xs (y ∷ [])) ∙ get_or_append_left (map f xs) (map f (y ∷ [])) d j lt

pub pushed_here : {X Y : Type 0} (f : X → Y) (xs : List X) (y : X) (d : Y) (j : ℕ) → length xs ≡ j → get_or (map f (xs ++ y ∷ [])) j d ≡ f y
pushed_here f xs y d j e = ap (λ l. get_or l j d) (map-append f xs (y ∷ [])) ∙ get_or_push (map f xs) (f y) d j (length-map xs f ∙ e)

-- ---- a list with an item written, by a view

pub view_at : {X Y : Type 0} (f : X → Y) (xs : List X) (i : ℕ) (x : X) (d : Y) → x ≡ get_or xs i x → i < length xs → get_or (map f xs) i d ≡ f x
view_at f xs i x d is h = get_or-map f xs i x d h ∙ ap f (sym is)

pub written_other : {X Y : Type 0} (f : X → Y) (xs : List X) (i j : ℕ) (y : X) (d : Y) → j ≢ i → get_or (map f (set xs i y)) j d ≡ get_or (map f xs) j d
written_other f xs i j y d ne = ap (λ l. get_or l j d) (map-set f xs i y) ∙ get_or-set_other (map f xs) i j (f y) d ne
