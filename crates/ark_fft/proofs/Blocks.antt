-- A block of a list written anew, and the blocks joined.
use Rattle.std.proofs.Common.{◌≡◌, ◌≢◌, ℕ, zero, suc, ◌+◌, ◌*◌, ◌-◌, ◌/◌, ◌%◌, ◌^◌, [], ◌∷◌, ◌<◌, ◌≤◌, List, length, get_or, take, drop, map, ◌++◌, sym, ◌∙◌, ap, arith, subst, ⊎_elim, length-take-le, length-drop}
use Rattle.std.proofs.lemmas.List.{get_or-map, get_or-take, get_or-drop, get_or_append_left, get_or-append-add, map-append, length-map, drop-map}
use Rattle.std.specs.List.{take-map}
use Rattle.std.proofs.lemmas.Bool.{cases_eq}
use Rattle.std.proofs.lemmas.Nat.{mul-lt, div-add-mod'}
use Rattle.std.proofs.Math.Nat.{div-lt_iff_lt-mul}
use borrow.Rule.Slice.PartMut.{put_mid}
use Rattle.ark_math.specs.Field.{FieldOn, IsField, power}
use Rattle.ark_math.specs.Module.{ModuleOn, IsModule, item}
use Rattle.ark_math_transforms.proofs.Transforms.Places.{dft_at}
use Rattle.ark_fft.specs.Mixed.{joined}
use Rattle.ark_fft.proofs.Levels.{AreTransformed, IsTransformed}
use Rattle.ark_fft.proofs.Parts.{place_below, IsStepTable, joined_is}
use Rattle.ark_math.proofs.Algebra.Sums.{sum_below-same}

pub block_within : (q m r : ℕ) → r < q → r * m + m ≤ q * m
block_within q zero r l = omega arith
block_within q (suc m) r l = let b : m < suc m = omega arith in omega (arith, place_below q (suc m) r m l b)

pub part_length : {X : Type 0} (a k m : ℕ) (xs : List X) → k ≡ m → a + m ≤ length xs → length (take k (drop a xs)) ≡ m
part_length a k m xs e l =
    let d : k ≤ length (drop a xs) = omega (arith, length-drop a xs) in
    length-take-le k (drop a xs) d ∙ e

pub sub_whole : (n s t q m p : ℕ) → n * s ≡ t → n ≡ q * m → p ≡ m → p * (s * q) ≡ t
sub_whole n s t q m p e f g = ap (λ u. u * (s * q)) g ∙ ((let h : m * (s * q) ≡ q * m * s = omega arith in h) ∙ (ap (λ u. u * s) (sym f) ∙ e))

pub table_size : (n s t q m : ℕ) → n * s ≡ t → n ≡ q * m → t ≡ q * (m * s)
table_size n s t q m e f = sym e ∙ (ap (λ u. u * s) f ∙ omega arith)

pub stride_small : (m x t : ℕ) → m * x ≡ t → 0 < m → t < 2 ^ 64 → x < 2 ^ 64
stride_small m x t e pos small =
    let p : m ≡ suc (m - 1) = omega arith in
    let f : m * x ≡ (m - 1) * x + x = ap (λ u. u * x) p ∙ omega arith in
    omega arith

module _ {X : Type 0} (a k : ℕ) (xs ys : List X) (d : X) where
  pub mid_at : (i : ℕ) → a ≤ length xs → i < length ys → get_or (put_mid a k xs ys) (a + i) d ≡ get_or ys i d
  mid_at i l b =
      let n : length (take a xs) ≡ a = length-take-le a xs l in
      ap (λ t. get_or (put_mid a k xs ys) (t + i) d) (sym n)
      ∙ (get_or-append-add (take a xs) _ i d ∙ get_or_append_left ys _ d i b)

  pub mid_below : (p : ℕ) → a ≤ length xs → p < a → get_or (put_mid a k xs ys) p d ≡ get_or xs p d
  mid_below p l b =
      let n : length (take a xs) ≡ a = length-take-le a xs l in
      get_or_append_left (take a xs) _ d p (omega arith) ∙ get_or-take a xs p d b

  pub mid_above : (j : ℕ) → a ≤ length xs → length ys ≡ k → get_or (put_mid a k xs ys) (a + (k + j)) d ≡ get_or xs (a + (k + j)) d
  mid_above j l e =
      let n : length (take a xs) ≡ a = length-take-le a xs l in
      ap (λ t. get_or (put_mid a k xs ys) (t + (k + j)) d) (sym n)
      ∙ (get_or-append-add (take a xs) (ys ++ drop k (drop a xs)) (k + j) d
      ∙ (ap (λ t. get_or (ys ++ drop k (drop a xs)) (t + j) d) (sym e)
      ∙ (get_or-append-add ys (drop k (drop a xs)) j d
      ∙ (get_or-drop k (drop a xs) j d ∙ get_or-drop a xs (k + j) d))))

-- block r0 of the q blocks of n items each of xs, k items long, and the items ys that take its place
pub record IsBlock {X : Type 0} (n q r0 k : ℕ) (xs ys : List X) : Type 0 where
  pub inside : r0 < q
  pub whole : length xs ≡ q * n
  pub width : k ≡ n
  pub len : length ys ≡ n

module _ {X M : Type 0} (m : X → M) (z : M) where
  map_mid : (a k : ℕ) (xs ys : List X) → map m (put_mid a k xs ys) ≡ put_mid a k (map m xs) (map m ys)
  map_mid a k xs ys =
      map-append m (take a xs) (ys ++ drop k (drop a xs))
      ∙ (ap (λ t. t ++ map m (ys ++ drop k (drop a xs))) (sym (take-map m a xs))
      ∙ ap (λ t. take a (map m xs) ++ t)
      (map-append m ys (drop k (drop a xs))
      ∙ ap (λ t. map m ys ++ t) (sym (drop-map m k (drop a xs)) ∙ ap (drop k) (sym (drop-map m a xs)))))

  pub part_item : (a k : ℕ) (xs : List X) (i : ℕ) → i < k → get_or (map m (take k (drop a xs))) i z ≡ get_or (map m xs) (a + i) z
  part_item a k xs i l =
      ap (λ t. get_or t i z) (sym (take-map m k (drop a xs)) ∙ ap (take k) (sym (drop-map m a xs)))
      ∙ (get_or-take k (drop a (map m xs)) i z l ∙ get_or-drop a (map m xs) i z)

  starts_within : (n q r0 k : ℕ) (xs ys : List X) → IsBlock n q r0 k xs ys → r0 * n ≤ length (map m xs)
  starts_within n q r0 k xs ys block = omega (arith, length-map xs m, block_within q n r0 block.inside, block.whole)

  -- block r of m items, after block r0 was written
  pub block_same : (n q r0 k : ℕ) (xs ys : List X) (i : ℕ) → IsBlock n q r0 k xs ys → i < n → get_or (map m (put_mid (r0 * n) k xs ys)) (r0 * n + i) z ≡ get_or (map m ys) i z
  block_same n q r0 k xs ys i block b =
      let in_ys : i < length (map m ys) = omega (arith, length-map ys m, block.len) in
      let within = starts_within n q r0 k xs ys block in
      ap (λ t. get_or t (r0 * n + i) z) (map_mid (r0 * n) k xs ys) ∙ mid_at (r0 * n) k (map m xs) (map m ys) z i within in_ys

  pub block_before : (n q r0 k : ℕ) (xs ys : List X) (r i : ℕ) → IsBlock n q r0 k xs ys → r < r0 → i < n → get_or (map m (put_mid (r0 * n) k xs ys)) (r * n + i) z ≡ get_or (map m xs) (r * n + i) z
  block_before n q r0 k xs ys r i block before b =
      let within = starts_within n q r0 k xs ys block in
      ap (λ t. get_or t (r * n + i) z) (map_mid (r0 * n) k xs ys) ∙ mid_below (r0 * n) k (map m xs) (map m ys) z (r * n + i) within (place_below r0 n r i before b)

  pub block_after : (n q r0 k : ℕ) (xs ys : List X) (r i : ℕ) → IsBlock n q r0 k xs ys → r0 < r → get_or (map m (put_mid (r0 * n) k xs ys)) (r * n + i) z ≡ get_or (map m xs) (r * n + i) z
  block_after n q r0 k xs ys r i block after =
      let e = block.width in
      let within = starts_within n q r0 k xs ys block in
      let whole : length (map m ys) ≡ k = omega (arith, length-map ys m, block.len, e) in
      let le : r0 * n + n ≤ r * n = block_within r n r0 after in
      let p : r * n + i ≡ r0 * n + (k + (r * n + i - (r0 * n + k))) = omega arith in
      ap (λ t. get_or t (r * n + i) z) (map_mid (r0 * n) k xs ys)
      ∙ (ap (λ t. get_or (put_mid (r0 * n) k (map m xs) (map m ys)) t z) p
      ∙ (mid_above (r0 * n) k (map m xs) (map m ys) z (r * n + i - (r0 * n + k)) within whole ∙ ap (λ t. get_or (map m xs) t z) (sym p)))

module _ {F M X : Type 0} {K : FieldOn F} {V : ModuleOn F M} (N : IsField K) (L : IsModule K V) (m : X → M) where
  -- the first blocks of n items each are the transforms at v of c 0, c 1, ..
  abbrev pub AreParts : ℕ → ℕ → F → (ℕ → ℕ → M) → List X → Type 0
  AreParts blocks n v c xs = (r i : ℕ) → r < blocks → i < n → item V (map m xs) (r * n + i) ≡ dft_at K V n v (c r) i

  -- one more block transformed
  pub block_done : (n q r0 k : ℕ) (v : F) (xs ys : List X) (c : ℕ → ℕ → M) → IsBlock n q r0 k xs ys → IsTransformed K V m v (take k (drop (r0 * n) xs)) ys → ((r i : ℕ) → r0 ≤ r → r < q → i < n → item V (map m xs) (r * n + i) ≡ c r i) → AreParts r0 n v c xs → AreParts (r0 + 1) n v c (put_mid (r0 * n) k xs ys)
  block_done n q r0 k v xs ys c written transformed rest done r i rl il =
      let l = written.inside in
      let e = written.width in
      let len_part : length (take k (drop (r0 * n) xs)) ≡ n = part_length (r0 * n) k n xs e (omega (arith, block_within q n r0 l, written.whole)) in
      let here : r0 ≤ r0 = omega arith in
      ⊎_elim
      (λ (eq : r ≡ r0).
      subst (λ t. item V (map m (put_mid (r0 * n) k xs ys)) (t * n + i) ≡ dft_at K V n v (c t) i) (sym eq)
      (block_same m V.zero n q r0 k xs ys i written il
      ∙ (transformed i (omega arith)
      ∙ (ap (λ t. dft_at K V t v (item V (map m (take k (drop (r0 * n) xs)))) i) len_part
      ∙ sum_below-same V n _ _ (λ j jl. ap (V.scale (power K (power K v i) j)) (part_item m V.zero (r0 * n) k xs j (omega arith) ∙ rest r0 j here l jl))))))
      (λ (ne : r ≢ r0). let b : r < r0 = omega arith in block_before m V.zero n q r0 k xs ys r i written b il ∙ done r i b il)
      (cases_eq r r0)

  -- all blocks joined
  pub mixed_joined : (w : F) (table : List F) (q n s size : ℕ) (xs scratch now : List X) → IsStepTable K w table q n s size → AreParts q n (power K w (s * q)) (λ r k. item V (map m xs) (q * k + r)) scratch → (get_or table 0 K.zero ≡ K.one → (j i : ℕ) → j < q → i < n → item V (map m now) (j * n + i) ≡ joined K V table q n s (item V (map m scratch)) j i) → AreTransformed K V size size (power K w s) (item V (map m xs)) (item V (map m now))
  mixed_joined w table q n s size xs scratch now t parts joins i l =
      let is = t.whole in
      let len = t.len in
      let pos = t.some in
      let pos_n : 0 < n = first_positive q n i (let b : i < q * n = omega arith in b) in
      let pos_q : 0 < q = first_positive n q i (let b : i < n * q = omega arith in b) in
      let pos_ns : 0 < n * s = mul-lt 0 0 n s pos_n pos in
      let pos_t : 0 < length table = omega (arith, len, mul-lt 0 0 q (n * s) pos_q pos_ns) in
      let j = i / n in
      let i0 = i % n in
      let jl : j < q = (div-lt_iff_lt-mul {k = n} {x = i} {y = q} pos_n).1 (omega arith) in
      let il : i0 < n = omega arith in
      subst (λ u. item V (map m now) u ≡ dft_at K V size (power K w s) (item V (map m xs)) u) (div-add-mod' i n)
      (joins (t.powers.powers 0 pos_t) j i0 jl il
      ∙ joined_is N L w table q n s size (item V (map m scratch)) (item V (map m xs)) j i0 t jl il (λ r rl. parts r i0 rl il))
    where
      first_positive : (q n i : ℕ) → i < q * n → 0 < n
      first_positive q zero i b = absurd (let z : q * 0 ≡ 0 = omega arith in omega arith)
      first_positive q (suc n) i b = omega arith

-- the items dealt out, by their meanings
pub dealt_items : {X M : Type 0} (m : X → M) (z : M) (q n : ℕ) (whole parts : List X) → length whole ≡ q * n → length parts ≡ q * n → ((r i : ℕ) (d : X) → r < q → i < n → get_or parts (r * n + i) d ≡ get_or whole (q * i + r) d) → (r i : ℕ) → r < q → i < n → get_or (map m parts) (r * n + i) z ≡ get_or (map m whole) (q * i + r) z
dealt_items m z q n [] parts e f h r i rl il = absurd (omega (arith, place_below q n r i rl il))
dealt_items m z q n (x ∷ xs) parts e f h r i rl il =
    let a : r * n + i < length parts = omega (arith, place_below q n r i rl il) in
    let b : q * i + r < length (x ∷ xs) = omega (arith, place_below n q i r il rl) in
    get_or-map m parts (r * n + i) x z a ∙ (ap m (h r i x rl il) ∙ sym (get_or-map m (x ∷ xs) (q * i + r) x z b))
