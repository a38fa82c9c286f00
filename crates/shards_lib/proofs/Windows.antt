-- Lists in rows, of which a part is written.
use Rattle.std.proofs.Common.{◌≡◌, ◌⊎◌, ℕ, ◌+◌, ◌-◌, ◌*◌, ◌<◌, ◌≤◌, List, ◌++◌, length, get_or, set, take, drop, get_or-set_same, get_or-set_other, arith, inl, inr, sym, ◌∙◌, ap, below_more}
use borrow.Rule.Slice.PartMut.{put_mid, post_of, drop_put}
use Rattle.std.proofs.lemmas.List.{length-take-le, get_or_append_left, get_or-append-add, get_or-take, get_or-drop, length-take, length-drop}
use Rattle.std.proofs.lemmas.Bool.{cases_lt, cases_order}

-- place s of row i, of n rows of so many
pub row_place : (i s n count : ℕ) → i < n → s < count → i * count + s < n * count
row_place i s n count h l = grind arith

pub row_end : (i n count : ℕ) → i < n → i * count + count ≤ n * count
row_end i n count h = grind arith

pub below_rows : (i n count : ℕ) → i ≤ n → i * count ≤ n * count
below_rows i n count h = grind arith

-- ---- a part that is written

here : (start width : ℕ) (xs ys : List ℕ) (s : ℕ) → start ≤ length xs → s < length ys → get_or (put_mid start width xs ys) (start + s) 0 ≡ get_or ys s 0
here start width xs ys s room h =
    let front = length-take-le start xs room in
    ap (λ m. get_or (put_mid start width xs ys) (m + s) 0) (sym front)
    ∙ get_or-append-add (take start xs) (ys ++ post_of start width xs) s 0 ∙ get_or_append_left ys (post_of start width xs) 0 s h

before : (start width : ℕ) (xs ys : List ℕ) (p : ℕ) → start ≤ length xs → p < start → get_or (put_mid start width xs ys) p 0 ≡ get_or xs p 0
before start width xs ys p room h =
    let front = length-take-le start xs room in
    get_or_append_left (take start xs) (ys ++ post_of start width xs) 0 p (omega (arith, front, h)) ∙ get_or-take start xs p 0 h

after : (start end : ℕ) (xs ys : List ℕ) (p : ℕ) → start ≤ end → end ≤ length xs → length ys ≡ end - start → end ≤ p → get_or (put_mid start (end - start) xs ys) p 0 ≡ get_or xs p 0
after start end xs ys p up room size h =
    let e : end + (p - end) ≡ p = omega (arith, h) in
    ap (λ q. get_or (put_mid start (end - start) xs ys) q 0) (sym e)
    ∙ sym (get_or-drop end (put_mid start (end - start) xs ys) (p - end) 0)
    ∙ ap (λ zs. get_or zs (p - end) 0) (drop_put start end xs ys up room size)
    ∙ get_or-drop end xs (p - end) 0 ∙ ap (λ q. get_or xs q 0) e

-- ---- rows of so many numbers, in which a part is written at the same places of each

module _ (f : ℕ → ℕ → ℕ) (a rows width first count : ℕ) (old xs ys : List ℕ) (less : a < rows) (fits : first + count ≤ width) (len : length xs ≡ rows * width) where
  abbrev pub start : ℕ
  start = a * width + first

  end_within : start + count ≤ length xs
  end_within = let e = row_end a rows width less in omega (arith, e, fits, len)

  -- the part of one row
  pub part_len : length (take (start + count - start) (drop start xs)) ≡ count
  part_len = let e = end_within in simp (length-take, length-drop) (omega (arith, e))

  module _ (size : length ys ≡ start + count - start) where
    abbrev pub now : List ℕ
    now = put_mid start (start + count - start) xs ys

    pub part_written : ((i t : ℕ) → i < a → t < count → get_or xs (i * width + (first + t)) 0 ≡ f i t)
        → ((t : ℕ) → t < count → get_or ys t 0 ≡ f a t)
        → (i t : ℕ) → i < a + 1 → t < count → get_or now (i * width + (first + t)) 0 ≡ f i t
    part_written earlier this i t b l = below_more (λ i. get_or now (i * width + (first + t)) 0 ≡ f i t) a
        (λ i c.
        let e = row_end i a width c in
        let w = end_within in
        before start (start + count - start) xs ys (i * width + (first + t)) (omega (arith, w)) (omega (arith, e, l, fits)) ∙ earlier i t c l)
        (let e : a * width + (first + t) ≡ start + t = omega arith in
        let w = end_within in
        ap (λ p. get_or now p 0) e ∙ here start (start + count - start) xs ys t (omega (arith, w)) (omega (arith, size, l)) ∙ this t l) i b

    pub part_kept : ((i s : ℕ) → i < rows → s < first → get_or xs (i * width + s) 0 ≡ get_or old (i * width + s) 0)
        → (i s : ℕ) → i < rows → s < first → get_or now (i * width + s) 0 ≡ get_or old (i * width + s) 0
    part_kept kept i s b l =
        let w = end_within in
        elim (cases_order i a) [
          | inl same ↦
              let e : i * width ≡ a * width = ap (λ x. x * width) same in
              before start (start + count - start) xs ys (i * width + s) (omega (arith, w)) (omega (arith, e, l)) ∙ kept i s b l
          | inr (inl less) ↦
              let e = row_end i a width less in
              before start (start + count - start) xs ys (i * width + s) (omega (arith, w)) (omega (arith, e, l, fits)) ∙ kept i s b l
          | inr (inr more) ↦
              let e = row_end a i width more in
              after start (start + count) xs ys (i * width + s) (omega arith) w size (omega (arith, e, fits)) ∙ kept i s b l
        ]

-- the part of one row that is read
pub part_read : (a rows width first count : ℕ) (xs : List ℕ) → a < rows → first + count ≤ width → length xs ≡ rows * width
    → (length (take (a * width + first + count - (a * width + first)) (drop (a * width + first) xs)) ≡ count)
    × ((t : ℕ) → t < count → get_or (take (a * width + first + count - (a * width + first)) (drop (a * width + first) xs)) t 0 ≡ get_or xs (a * width + (first + t)) 0)
part_read a rows width first count xs less fits len = (
  part_len (λ i t. 0) a rows width first count xs xs xs less fits len,
  λ t l.
      let e : a * width + first + t ≡ a * width + (first + t) = omega arith in
      let w : a * width + first + count - (a * width + first) ≡ count = omega arith in
      get_or-take (a * width + first + count - (a * width + first)) (drop (a * width + first) xs) t 0 (omega (arith, w, l))
      ∙ get_or-drop (a * width + first) xs t 0 ∙ ap (λ p. get_or xs p 0) e,
)

-- a loop that writes item j
pub item_written : (f : ℕ → ℕ) (xs : List ℕ) (j x : ℕ) → j < length xs → ((i : ℕ) → i < j → get_or xs i 0 ≡ f i) → x ≡ f j
    → (i : ℕ) → i < j + 1 → get_or (set xs j x) i 0 ≡ f i
item_written f xs j x inside earlier this i b = below_more (λ i. get_or (set xs j x) i 0 ≡ f i) j
    (λ i c. get_or-set_other xs j i x 0 (omega (arith, c)) ∙ earlier i c) (get_or-set_same xs j x 0 inside ∙ this) i b

-- a loop that writes row a
pub row_written : (f : ℕ → ℕ → ℕ) (a rows width : ℕ) (xs ys : List ℕ) → a < rows → length xs ≡ rows * width → length ys ≡ a * width + width - a * width
    → ((i t : ℕ) → i < a → t < width → get_or xs (i * width + t) 0 ≡ f i t) → ((t : ℕ) → t < width → get_or ys t 0 ≡ f a t)
    → (i t : ℕ) → i < a + 1 → t < width → get_or (put_mid (a * width) (a * width + width - a * width) xs ys) (i * width + t) 0 ≡ f i t
row_written f a rows width xs ys less len size earlier this i t b l = below_more (λ i. get_or (put_mid (a * width) (a * width + width - a * width) xs ys) (i * width + t) 0 ≡ f i t) a
    (λ i c.
    let e = row_end i a width c in
    let w = row_end a rows width less in
    before (a * width) (a * width + width - a * width) xs ys (i * width + t) (omega (arith, w, len)) (omega (arith, e, l)) ∙ earlier i t c l)
    (let w = row_end a rows width less in
    here (a * width) (a * width + width - a * width) xs ys t (omega (arith, w, len)) (omega (arith, size, l)) ∙ this t l) i b

-- a row that is read
pub row_read : (a rows width : ℕ) (xs : List ℕ) → a < rows → length xs ≡ rows * width
    → (length (take (a * width + width - a * width) (drop (a * width) xs)) ≡ width)
    × ((t : ℕ) → t < width → get_or (take (a * width + width - a * width) (drop (a * width) xs)) t 0 ≡ get_or xs (a * width + t) 0)
row_read a rows width xs less len = (
  (let e = row_end a rows width less in simp (length-take, length-drop) (omega (arith, e, len))),
  λ t l.
      let w : a * width + width - a * width ≡ width = omega arith in
      get_or-take (a * width + width - a * width) (drop (a * width) xs) t 0 (omega (arith, w, l)) ∙ get_or-drop (a * width) xs t 0,
)

-- ---- groups of so many

-- a number below the end of a group is in it or before it
pub in_group : (group size s : ℕ) → s < (group + 1) * size → (s < group * size) ⊎ ((t : ℕ) × (t < size) × (s ≡ group * size + t))
in_group group size s h = elim (cases_lt s (group * size)) [
  | inl l ↦ inl l
  | inr l ↦
      let e : (group + 1) * size ≡ group * size + size = grind arith in
      inr (s - group * size, (let lt : s - group * size < size = omega (arith, l, h, e) in lt), (let is : s ≡ group * size + (s - group * size) = omega (arith, l) in is))
]
