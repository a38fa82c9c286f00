-- Tables in words, one after another.
use Rattle.std.proofs.Common.{◌≡◌, ◌+◌, ◌-◌, ◌*◌, ◌^◌, ◌/◌, ◌%◌, ◌<◌, ◌≤◌, ℕ, zero, suc, List, [], ◌∷◌, ◌++◌, Vec, Global, All, length, map, get_or, slice_range, take, drop, refl, sym, ap, ap₂, subst, ◌∙◌, arith, ⊎_elim}
use Rattle.std.proofs.Math.Nat.{mod-eq_of_lt}
use Rattle.std.proofs.Math.Pow.{pow-lt}
use Rattle.std.proofs.lemmas.Bool.{cases_lt}
use Rattle.std.proofs.lemmas.Nat.{div-add-mod'}
use Rattle.std.proofs.lemmas.List.{drop-drop, drop-take, drop_all, get_or-drop, get_or-take, get_or_past, length-drop, length-take, length-take-le, map-append, take-take, take_all}
use Rattle.std.proofs.lemmas.List.Elements.{All-nil, All-push}
use Rattle.ark_math.specs.Field.{FieldOn}
use Rattle.ark_math.specs.Module.{tabulate}
use Rattle.ark_math.specs.Univariate.{nothing, of_list}
use Rattle.ark_math.specs.Words.{number_of_words}
use Rattle.ark_math.proofs.Lists.Tabulated.{get_or-tabulate, is_tabulated, length-tabulate, tabulate-push}
use Rattle.ark_numbers.specs.Fields.{Known, operations}
use Rattle.ark_sum_check.specs.Lists.{as_tables}
use Rattle.ark_words.specs.Numbers.{Spelled, number_at, numbers}
use Rattle.ark_words.proofs.WordLists.{all_below, count_of_words, length-numbers, number_end, number_length}
use Rattle.ark_word_sums.specs.Read.{table_lists}
use Rattle.ark_word_sums.specs.Sums.{AreTables, table_count}

-- how many corners a cube has, as a shift
pub corners : (m : ℕ) → m < 64 → 1 * 2 ^ m % 2 ^ 64 ≡ 2 ^ m
corners m few =
    let one : 1 * 2 ^ m ≡ 2 ^ m = omega arith in
    ap (λ n. n % 2 ^ 64) one ∙ mod-eq_of_lt (pow-lt few)

-- the words of whole tables
pub words_of_tables : (f : Spelled) (m : ℕ) (words : List ℕ) → AreTables f m words → length words ≡ table_count f m words * (2 ^ m * f.width)
words_of_tables f m words whole =
    let size = 2 ^ m in
    let numbers_there : length words ≡ length words / f.width * f.width = omega (arith, div-add-mod' (length words) f.width, whole.0) in
    let tables_there : length words / f.width ≡ length words / f.width / size * size = omega (arith, div-add-mod' (length words / f.width) size, whole.1) in
    numbers_there ∙ ap (λ n. n * f.width) tables_there ∙ omega arith

-- a slice of a slice
part_of_part : {X : Type 0} (xs : List X) (a b p q : ℕ) → a + q ≤ b → p ≤ q → slice_range (slice_range xs a b) p q ≡ slice_range xs (a + p) (a + q)
part_of_part xs a b p q within order =
    let m = b - a - p in
    let size : b - a ≡ p + m = omega arith in
    let length_is : q - p ≡ a + q - (a + p) = omega arith in
    ap (λ n. take (q - p) (drop p (take n (drop a xs)))) size
    ∙ ap (take (q - p)) (drop-take p m (drop a xs))
    ∙ take-take (q - p) m (drop p (drop a xs)) (omega arith)
    ∙ ap₂ take length_is (drop-drop p a xs)

module _ (width len : ℕ) (words : List ℕ) (some : 0 < width) where
  -- table i's words, so many of each number, of so many numbers
  number_of_part : (i j : ℕ) → j < len → number_at width (slice_range words (i * (len * width)) ((i + 1) * (len * width))) j ≡ number_at width words (i * len + j)
  number_of_part i j inside =
      let a = i * (len * width) in
      let end = number_end width len j inside in
      let low : a + j * width ≡ (i * len + j) * width = omega arith in
      let high : a + (j + 1) * width ≡ (i * len + j + 1) * width = omega arith in
      ap number_of_words
      (part_of_part words a ((i + 1) * (len * width)) (j * width) ((j + 1) * width) (omega (arith, end)) (omega arith)
      ∙ ap₂ (slice_range words) low high)

  module _ (count : ℕ) (whole : length words ≡ count * (len * width)) where
    -- how many numbers there are
    pub length-tables : length (numbers width words) ≡ count * len
    length-tables =
        let parts : count * (len * width) ≡ count * len * width = omega arith in
        length-numbers width words ∙ ap (λ n. n / width) (whole ∙ parts) ∙ count_of_words width (count * len) some

    -- how many of them table i has
    pub length_of_part : (i : ℕ) → i < count → length (take len (drop (i * len) (numbers width words))) ≡ len
    length_of_part i inside =
        let places = number_end len count i inside in
        let all = length-tables in
        length-take-le len (drop (i * len) (numbers width words)) (omega (arith, length-drop (i * len) (numbers width words), all, places))

    -- the numbers of table i's words are its part of all numbers
    pub numbers_of_part : (i : ℕ) → i < count → numbers width (slice_range words (i * (len * width)) ((i + 1) * (len * width))) ≡ take len (drop (i * len) (numbers width words))
    numbers_of_part i inside =
        let part = slice_range words (i * (len * width)) ((i + 1) * (len * width)) in
        let end = number_end (len * width) count i inside in
        let places = number_end len count i inside in
        let size : length part ≡ len * width = number_length (len * width) i words (omega (arith, whole, end)) in
        let numbers_there : length part / width ≡ len = ap (λ n. n / width) size ∙ count_of_words width len some in
        let all = length-tables in
        let all_words : length words / width ≡ count * len = sym (length-numbers width words) ∙ all in
        ap (λ n. tabulate n (number_at width part)) numbers_there
        ∙ sym (is_tabulated 0 (take len (drop (i * len) (numbers width words))) len (number_at width part)
        (length_of_part i inside)
        (λ j l.
        get_or-take len (drop (i * len) (numbers width words)) j 0 l
        ∙ get_or-drop (i * len) (numbers width words) j 0
        ∙ get_or-tabulate (length words / width) (number_at width words) (i * len + j) 0 (omega (arith, all_words, places))
        ∙ sym (number_of_part i j l)))

-- one table more is read
pub whole_more : {A : Type 0} (P : A → Type 0) (before after : List A) (t : A) → after ≡ before ++ t ∷ [] → All P before → P t → All P after
whole_more P before after t e all here = subst (All P) (sym e) (All-push P before t all here)

pub tables_more : {A : Type 0} (list : A → List ℕ) (len i : ℕ) (ns : List ℕ) (before after : List A) (t : A) → after ≡ before ++ t ∷ [] → map list before ≡ table_lists len i ns → list t ≡ take len (drop (i * len) ns)
    → map list after ≡ table_lists len (i + 1) ns
tables_more list len i ns before after t e read here =
    ap (map list) e ∙ map-append list before (t ∷ []) ∙ ap₂ (λ ts u. ts ++ u ∷ []) read here
    ∙ sym (tabulate-push i (λ k. take len (drop (k * len) ns)))

-- ---- tables as functions

-- table i of lists, none past the last
pub list_at : (len count i : ℕ) (ns : List ℕ) → length ns ≡ count * len → get_or (table_lists len count ns) i [] ≡ take len (drop (i * len) ns)
list_at len count i ns whole = ⊎_elim
    (λ (inside : i < count). get_or-tabulate count (λ k. take len (drop (k * len) ns)) i [] inside)
    (λ (past : count ≤ i).
    let none : drop (i * len) ns ≡ [] = drop_all (i * len) ns (omega (arith, whole, no_more (count) i len past)) in
    get_or_past (table_lists len count ns) i [] (omega (arith, length-tabulate count (λ k. take len (drop (k * len) ns))))
    ∙ sym (ap (take len) none ∙ take_all len [] (omega arith)))
    (cases_lt i count)
  where
    no_more : (count i len : ℕ) → count ≤ i → count * len ≤ i * len
    no_more count i len l = grind arith

module _ {F : Type 0} (K : FieldOn F) (number : F → ℕ) (known : Known) (zero_kept : number K.zero ≡ 0) where
  -- a list's items, and zero past it
  items_kept : (xs : List F) (b : ℕ) → number (of_list K xs b) ≡ of_list (operations known) (map number xs) b
  items_kept [] b = zero_kept
  items_kept (x ∷ xs) zero = refl
  items_kept (x ∷ xs) (suc b) = items_kept xs b

  table_kept : (vs : List (Vec F Global)) (i b : ℕ) → number (get_or (as_tables K vs) i (nothing K) b) ≡ of_list (operations known) (get_or (map (λ v. map number v.items) vs) i []) b
  table_kept [] i b = zero_kept
  table_kept (v ∷ vs) zero b = items_kept v.items b
  table_kept (v ∷ vs) (suc i) b = table_kept vs i b

  -- tables whose lists were read of numbers
  pub tables_kept : (len count : ℕ) (ns : List ℕ) (vs : List (Vec F Global)) → length ns ≡ count * len → map (λ v. map number v.items) vs ≡ table_lists len count ns → (i b : ℕ)
      → number (get_or (as_tables K vs) i (nothing K) b) ≡ of_list (operations known) (take len (drop (i * len) ns)) b
  tables_kept len count ns vs whole read i b =
      table_kept vs i b
      ∙ ap (λ ts. of_list (operations known) (get_or ts i []) b) read
      ∙ ap (λ t. of_list (operations known) t b) (list_at len count i ns whole)

-- numbers of elements are below the modulus
module _ {F : Type 0} (number : F → ℕ) (p : ℕ) (below : (x : F) → number x < p) where
  list_below : (vs : List (Vec F Global)) (i : ℕ) → All (λ x. x < p) (get_or (map (λ v. map number v.items) vs) i [])
  list_below [] i = All-nil (λ x. x < p)
  list_below (v ∷ vs) zero = all_below number below v.items
  list_below (v ∷ vs) (suc i) = list_below vs i

  pub tables_below : (len count : ℕ) (ns : List ℕ) (vs : List (Vec F Global)) → 0 < len → length ns ≡ count * len → map (λ v. map number v.items) vs ≡ table_lists len count ns → All (λ x. x < p) ns
  tables_below len count ns vs some whole read = λ k d l.
      let i = k / len in
      let j = k % len in
      let place : i * len + j ≡ k = omega arith in
      let list : get_or (map (λ v. map number v.items) vs) i [] ≡ take len (drop (i * len) ns) =
      ap (λ ts. get_or ts i []) read ∙ list_at len count i ns whole in
      let inside : j < length (get_or (map (λ v. map number v.items) vs) i []) =
      omega (arith, ap length list, length-take len (drop (i * len) ns), length-drop (i * len) ns, place, l) in
      let here : get_or (get_or (map (λ v. map number v.items) vs) i []) j d ≡ get_or ns k d =
      ap (λ t. get_or t j d) list
      ∙ get_or-take len (drop (i * len) ns) j d (omega arith)
      ∙ get_or-drop (i * len) ns j d
      ∙ ap (λ n. get_or ns n d) place in
      subst (λ x. x < p) here (list_below vs i j d inside)
