-- Two windows of variables exchanged: the same by the bits of a corner's index as by the items of a point.
use Rattle.std.proofs.Common.{◌≡◌, ℕ, ◌+◌, ◌-◌, ◌*◌, ◌/◌, ◌%◌, ◌^◌, ◌<◌, ◌≤◌, ◌&&◌, ◌⊎◌, inl, inr, false, if◌then◌else◌, nat_le, nat_lt, List, length, map, sym, ◌∙◌, ap, ap₂, subst, arith, ⊎_elim, shr-shr, pow-add, pow_pos, div-add-mod', le-leb, lt-ltb, le-ltb}
use Rattle.std.proofs.lemmas.Bool.{cases_lt, lt-leb, cond-true, cond-false, and_from, and_left, and_right}
use Rattle.std.proofs.lemmas.Nat.{mod_below}
use Rattle.ark_math.specs.Field.{FieldOn, IsField}
use Rattle.ark_math.specs.Module.{itself, item, tabulate}
use Rattle.ark_math.specs.Univariate.{of_pairs}
use Rattle.ark_math_variables.specs.Multilinear.{bit, corner, extension, exchanged, place, AreWindows}
use Rattle.ark_math.proofs.Lists.Tabulated.{tabulate-same, get_or-tabulate}
use Rattle.ark_math_variables.proofs.Polynomials.Cube.{bit-low, bit-high, bit-past, equal_bits, below_by_bits}
use Rattle.ark_math_variables.proofs.Polynomials.Multilinear.{extension-same, extension-corner}
use Rattle.ark_math_variables.proofs.Polynomials.Tables.{moved_pairs}
use Rattle.ark_math_variables.proofs.Polynomials.OnlyMultilinear.{length-corner, only_affine, extension-affine, reordered-affine}
use Rattle.ark_tables.specs.Exchanged.{part, exchanged_index}

-- ---- places

place-first : (i j k l : ℕ) → i ≤ l → l < i + k → place i j k l ≡ (l - i) + j
place-first i j k l a b = cond-true (nat_le i l && nat_lt l (i + k)) _ _ (and_from (nat_le i l) (nat_lt l (i + k)) (le-leb i l a) (lt-ltb l (i + k) b))

outside : (i k l : ℕ) → (l < i) ⊎ (i + k ≤ l) → (nat_le i l && nat_lt l (i + k)) ≡ false
outside i k l h = ⊎_elim
    (λ (a : l < i). and_left (nat_le i l) (nat_lt l (i + k)) (lt-leb i l a))
    (λ (a : i + k ≤ l). and_right (nat_le i l) (nat_lt l (i + k)) (le-ltb l (i + k) a)) h

place-second : (i j k l : ℕ) → (l < i) ⊎ (i + k ≤ l) → j ≤ l → l < j + k → place i j k l ≡ (l - j) + i
place-second i j k l o a b =
    cond-false (nat_le i l && nat_lt l (i + k)) _ _ (outside i k l o)
    ∙ cond-true (nat_le j l && nat_lt l (j + k)) _ _ (and_from (nat_le j l) (nat_lt l (j + k)) (le-leb j l a) (lt-ltb l (j + k) b))

place-other : (i j k l : ℕ) → (l < i) ⊎ (i + k ≤ l) → (l < j) ⊎ (j + k ≤ l) → place i j k l ≡ l
place-other i j k l o p =
    cond-false (nat_le i l && nat_lt l (i + k)) _ _ (outside i k l o) ∙ cond-false (nat_le j l && nat_lt l (j + k)) _ _ (outside j k l p)

which : (i k l : ℕ) → ((i ≤ l) × (l < i + k)) ⊎ ((l < i) ⊎ (i + k ≤ l))
which i k l = ⊎_elim
    (λ (a : l < i). inr (inl a))
    (λ (a : i ≤ l). ⊎_elim (λ (b : l < i + k). inl (a, b)) (λ (b : i + k ≤ l). inr (inr b)) (cases_lt l (i + k)))
    (cases_lt l i)

place-same : (i k l : ℕ) → place i i k l ≡ l
place-same i k l = ⊎_elim
    (λ h. let a = h.0 in let e : (l - i) + i ≡ l = omega arith in place-first i i k l h.0 h.1 ∙ e)
    (λ h. place-other i i k l h h)
    (which i k l)

place-none : (i j l : ℕ) → place i j 0 l ≡ l
place-none i j l = place-other i j 0 l (beyond i) (beyond j)
  where
    beyond : (i : ℕ) → (l < i) ⊎ (i + 0 ≤ l)
    beyond i = ⊎_elim (λ (a : l < i). inl a) (λ (a : i ≤ l). inr (omega arith)) (cases_lt l i)

place-within : (m i j k l : ℕ) → i + k ≤ m → j + k ≤ m → l < m → place i j k l < m
place-within m i j k l a b c = ⊎_elim
    (λ h. let p = h.0 in let q = h.1 in let e = place-first i j k l h.0 h.1 in omega arith)
    (λ o. ⊎_elim
    (λ h. let p = h.0 in let q = h.1 in let e = place-second i j k l o h.0 h.1 in omega arith)
    (λ h. let e = place-other i j k l o h in omega arith)
    (which j k l))
    (which i k l)

-- windows that end in order, in either order
place-swapped : (i j k l : ℕ) → i + k ≤ j → place i j k l ≡ place j i k l
place-swapped i j k l a = ⊎_elim
    (λ h. let p = h.1 in place-first i j k l h.0 h.1 ∙ sym (place-second j i k l (inl (omega arith)) h.0 h.1))
    (λ o. ⊎_elim
    (λ h. place-second i j k l o h.0 h.1 ∙ sym (place-first j i k l h.0 h.1))
    (λ h. place-other i j k l o h ∙ sym (place-other j i k l h o))
    (which j k l))
    (which i k l)

place_ordered-twice : (i j k l : ℕ) → i + k ≤ j → place i j k (place i j k l) ≡ l
place_ordered-twice i j k l a = ⊎_elim
    (λ h.
    let p = h.0 in let q = h.1 in
    let e : ((l - i) + j - j) + i ≡ l = omega arith in
    ap (place i j k) (place-first i j k l h.0 h.1) ∙ place-second i j k ((l - i) + j) (inr (omega arith)) (omega arith) (omega arith) ∙ e)
    (λ o. ⊎_elim
    (λ h.
    let p = h.0 in let q = h.1 in
    let e : ((l - j) + i - i) + j ≡ l = omega arith in
    ap (place i j k) (place-second i j k l o h.0 h.1) ∙ place-first i j k ((l - j) + i) (omega arith) (omega arith) ∙ e)
    (λ h. ap (place i j k) (place-other i j k l o h) ∙ place-other i j k l o h)
    (which j k l))
    (which i k l)

-- ---- windows that can be exchanged

-- by their four kinds, for what does not tell i from j where the windows are apart
cases_windows : (P : ℕ → ℕ → ℕ → Type 0) (m i j k : ℕ) → AreWindows m i j k → ((i k : ℕ) → P i i k) → ((i j : ℕ) → P i j 0) → ((i j k : ℕ) → i + k ≤ j → j + k ≤ m → P i j k) → ((i j k : ℕ) → i + k ≤ j → j + k ≤ m → P j i k) → P i j k
cases_windows P m i j k w same none up down = ⊎_elim
    (λ (e : i ≡ j). subst (λ j. P i j k) e (same i k))
    (λ w. ⊎_elim
    (λ (e : k ≡ 0). subst (P i j) (sym e) (none i j))
    (λ w. ⊎_elim (λ h. up i j k h.0 h.1) (λ h. down j i k h.0 h.1) w) w) w

place-below : (m i j k : ℕ) → AreWindows m i j k → (l : ℕ) → l < m → place i j k l < m
place-below m i j k w = cases_windows (λ i j k. (l : ℕ) → l < m → place i j k l < m) m i j k w
    (λ i k l b. let e = place-same i k l in omega arith)
    (λ i j l b. let e = place-none i j l in omega arith)
    (λ i j k a c l b. place-within m i j k l (omega arith) c b)
    (λ i j k a c l b. place-within m j i k l c (omega arith) b)

place-twice : (m i j k : ℕ) → AreWindows m i j k → (l : ℕ) → place i j k (place i j k l) ≡ l
place-twice m i j k w = cases_windows (λ i j k. (l : ℕ) → place i j k (place i j k l) ≡ l) m i j k w
    (λ i k l. ap (place i i k) (place-same i k l) ∙ place-same i k l)
    (λ i j l. ap (place i j 0) (place-none i j l) ∙ place-none i j l)
    (λ i j k a c l. place_ordered-twice i j k l a)
    (λ i j k a c l. sym (place-swapped i j k (place j i k l) a) ∙ ap (place i j k) (sym (place-swapped i j k l a)) ∙ place_ordered-twice i j k l a)

-- ---- an index in five parts

-- low below 2 ^ i, then k bits, d bits, k bits, and the rest
abbrev joined : ℕ → ℕ → ℕ → ℕ → ℕ → ℕ → ℕ → ℕ → ℕ
joined i k d top second middle first low = (((top * 2 ^ k + second) * 2 ^ d + middle) * 2 ^ k + first) * 2 ^ i + low

module _ (i k d top second middle first low : ℕ) (lb : low < 2 ^ i) (fb : first < 2 ^ k) (mb : middle < 2 ^ d) (sb : second < 2 ^ k) where
  joined_low : (l : ℕ) → l < i → bit (joined i k d top second middle first low) l ≡ bit low l
  joined_low l b = bit-low i l _ low b

  joined_above : (l : ℕ) → bit (joined i k d top second middle first low) (i + l) ≡ bit (((top * 2 ^ k + second) * 2 ^ d + middle) * 2 ^ k + first) l
  joined_above l = bit-high i l _ low lb

  joined_first : (l : ℕ) → l < k → bit (joined i k d top second middle first low) (i + l) ≡ bit first l
  joined_first l b = joined_above l ∙ bit-low k l _ first b

  joined_past_first : (l : ℕ) → bit (joined i k d top second middle first low) (i + (k + l)) ≡ bit ((top * 2 ^ k + second) * 2 ^ d + middle) l
  joined_past_first l = joined_above (k + l) ∙ bit-high k l _ first fb

  joined_middle : (l : ℕ) → l < d → bit (joined i k d top second middle first low) (i + (k + l)) ≡ bit middle l
  joined_middle l b = joined_past_first l ∙ bit-low d l _ middle b

  joined_past_middle : (l : ℕ) → bit (joined i k d top second middle first low) (i + (k + (d + l))) ≡ bit (top * 2 ^ k + second) l
  joined_past_middle l = joined_past_first (d + l) ∙ bit-high d l _ middle mb

  joined_second : (l : ℕ) → l < k → bit (joined i k d top second middle first low) (i + (k + (d + l))) ≡ bit second l
  joined_second l b = joined_past_middle l ∙ bit-low k l top second b

  joined_top : (l : ℕ) → bit (joined i k d top second middle first low) (i + (k + (d + (k + l)))) ≡ bit top l
  joined_top l = joined_past_middle (k + l) ∙ bit-high k l top second sb

expanded : (t s m f lo P Q R : ℕ) → (((t * Q + s) * R + m) * Q + f) * P + lo ≡ (((t * Q * R + m) * Q * P) + lo) + (s * (P * R * Q) + f * P)
expanded t s m f lo P Q R = grind arith

module _ (i j k : ℕ) (apart : i + k ≤ j) (n : ℕ) where
  low : ℕ
  low = n % 2 ^ i

  middle : ℕ
  middle = (n / 2 ^ i / 2 ^ k) % 2 ^ (j - (i + k))

  top : ℕ
  top = n / 2 ^ i / 2 ^ k / 2 ^ (j - (i + k)) / 2 ^ k

  power_apart : 2 ^ j ≡ 2 ^ i * 2 ^ (j - (i + k)) * 2 ^ k
  power_apart =
      let e : j ≡ i + (j - (i + k)) + k = omega arith in
      ap (λ p. 2 ^ p) e ∙ pow-add 2 (i + (j - (i + k))) k ∙ ap (λ p. p * 2 ^ k) (pow-add 2 i (j - (i + k)))

  quotient_apart : n / 2 ^ j ≡ n / 2 ^ i / 2 ^ k / 2 ^ (j - (i + k))
  quotient_apart =
      let e : j ≡ i + (k + (j - (i + k))) = omega arith in
      ap (λ p. n / 2 ^ p) e ∙ sym (shr-shr n i (k + (j - (i + k)))) ∙ sym (shr-shr (n / 2 ^ i) k (j - (i + k)))

  split : n ≡ joined i k (j - (i + k)) top (part n j k) middle (part n i k) low
  unfolding top middle low
  split =
      let x = n / 2 ^ i in
      let y = x / 2 ^ k in
      let z = y / 2 ^ (j - (i + k)) in
      sym (div-add-mod' n (2 ^ i))
      ∙ ap (λ v. v * 2 ^ i + low) (sym (div-add-mod' x (2 ^ k))
      ∙ ap (λ v. v * 2 ^ k + part n i k) (sym (div-add-mod' y (2 ^ (j - (i + k))))
      ∙ ap (λ v. v * 2 ^ (j - (i + k)) + middle) (sym (div-add-mod' z (2 ^ k)) ∙ ap (λ v. top * 2 ^ k + v % 2 ^ k) (sym quotient_apart))))

  exchanged_split : exchanged_index n i j k ≡ joined i k (j - (i + k)) top (part n i k) middle (part n j k) low
  exchanged_split =
      let base = ((top * 2 ^ k * 2 ^ (j - (i + k)) + middle) * 2 ^ k * 2 ^ i) + low in
      let sum : (s f : ℕ) → joined i k (j - (i + k)) top s middle f low ≡ base + (s * 2 ^ j + f * 2 ^ i) =
      λ s f. expanded top s middle f low (2 ^ i) (2 ^ k) (2 ^ (j - (i + k))) ∙ ap (λ p. base + (s * p + f * 2 ^ i)) (sym power_apart) in
      let old : n ≡ base + (part n j k * 2 ^ j + part n i k * 2 ^ i) = split ∙ sum (part n j k) (part n i k) in
      let new = sum (part n i k) (part n j k) in
      omega arith

  parts_ordered : part n i k * 2 ^ i + part n j k * 2 ^ j ≤ n
  parts_ordered =
      let base = ((top * 2 ^ k * 2 ^ (j - (i + k)) + middle) * 2 ^ k * 2 ^ i) + low in
      let old : n ≡ base + (part n j k * 2 ^ j + part n i k * 2 ^ i) =
      split
      ∙ expanded top (part n j k) middle (part n i k) low (2 ^ i) (2 ^ k) (2 ^ (j - (i + k)))
      ∙ ap (λ p. base + (part n j k * p + part n i k * 2 ^ i)) (sym power_apart) in
      omega arith

  low_below : low < 2 ^ i
  unfolding low
  low_below = mod_below n (2 ^ i) (pow_pos i)

  middle_below : middle < 2 ^ (j - (i + k))
  unfolding middle
  middle_below = mod_below (n / 2 ^ i / 2 ^ k) (2 ^ (j - (i + k))) (pow_pos (j - (i + k)))

  part_below : (p : ℕ) → part n p k < 2 ^ k
  part_below p = mod_below (n / 2 ^ p) (2 ^ k) (pow_pos k)

  -- the bit at l of either, by where l is
  exchanged_bit_ordered : (l : ℕ) → bit (exchanged_index n i j k) l ≡ bit n (place i j k l)
  exchanged_bit_ordered l =
      let d = j - (i + k) in
      let lb = low_below in
      let mb = middle_below in
      let ib = part_below i in
      let jb = part_below j in
      ap (λ b. bit b l) exchanged_split
      ∙ ⊎_elim
      (λ h.
      let p = h.0 in let q = h.1 in
      let e : l ≡ i + (l - i) = omega arith in
      let f : (l - i) + j ≡ i + (k + (d + (l - i))) = omega arith in
      ap (bit (joined i k d top (part n i k) middle (part n j k) low)) e
      ∙ joined_first i k d top (part n i k) middle (part n j k) low lb jb mb ib (l - i) (omega arith)
      ∙ sym (ap₂ bit split (place-first i j k l p q ∙ f) ∙ joined_second i k d top (part n j k) middle (part n i k) low lb ib mb jb (l - i) (omega arith)))
      (λ o. ⊎_elim
      (λ h.
      let p = h.0 in let q = h.1 in
      let e : l ≡ i + (k + (d + (l - j))) = omega arith in
      let f : (l - j) + i ≡ i + (l - j) = omega arith in
      ap (bit (joined i k d top (part n i k) middle (part n j k) low)) e
      ∙ joined_second i k d top (part n i k) middle (part n j k) low lb jb mb ib (l - j) (omega arith)
      ∙ sym (ap₂ bit split (place-second i j k l o p q ∙ f) ∙ joined_first i k d top (part n j k) middle (part n i k) low lb ib mb jb (l - j) (omega arith)))
      (λ h.
      let stays = sym (ap₂ bit split (place-other i j k l o h)) in
      ⊎_elim
      (λ (p : l < i).
      joined_low i k d top (part n i k) middle (part n j k) low lb jb mb ib l p
      ∙ sym (joined_low i k d top (part n j k) middle (part n i k) low lb ib mb jb l p)
      ∙ stays)
      (λ (p : i + k ≤ l). ⊎_elim
      (λ (q : l < j).
      let e : l ≡ i + (k + (l - (i + k))) = omega arith in
      ap (bit (joined i k d top (part n i k) middle (part n j k) low)) e
      ∙ joined_middle i k d top (part n i k) middle (part n j k) low lb jb mb ib (l - (i + k)) (omega arith)
      ∙ sym (ap (bit (joined i k d top (part n j k) middle (part n i k) low)) e
      ∙ joined_middle i k d top (part n j k) middle (part n i k) low lb ib mb jb (l - (i + k)) (omega arith))
      ∙ stays)
      (λ (q : j + k ≤ l).
      let e : l ≡ i + (k + (d + (k + (l - (j + k))))) = omega arith in
      ap (bit (joined i k d top (part n i k) middle (part n j k) low)) e
      ∙ joined_top i k d top (part n i k) middle (part n j k) low lb jb mb ib (l - (j + k))
      ∙ sym (ap (bit (joined i k d top (part n j k) middle (part n i k) low)) e
      ∙ joined_top i k d top (part n j k) middle (part n i k) low lb ib mb jb (l - (j + k)))
      ∙ stays)
      h)
      o)
      (which j k l))
      (which i k l)

-- ---- the index

-- what windows that are apart hold can be taken away
pub parts_fit : (i j k : ℕ) → (i + k ≤ j) ⊎ (j + k ≤ i) → (n : ℕ) → part n i k * 2 ^ i + part n j k * 2 ^ j ≤ n
parts_fit i j k h n = ⊎_elim
    (λ (a : i + k ≤ j). parts_ordered i j k a n)
    (λ (a : j + k ≤ i). let l = parts_ordered j i k a n in omega arith) h

pub exchanged_index-same : (n i k : ℕ) → exchanged_index n i i k ≡ n
exchanged_index-same n i k = omega arith

pub exchanged_index-none : (n i j : ℕ) → exchanged_index n i j 0 ≡ n
exchanged_index-none n i j = let e : (n / 2 ^ i) % 2 ^ 0 ≡ 0 = omega arith in let f : (n / 2 ^ j) % 2 ^ 0 ≡ 0 = omega arith in ap₂ (λ a b. (n + (b * 2 ^ i + a * 2 ^ j)) - (a * 2 ^ i + b * 2 ^ j)) e f ∙ omega arith

exchanged_index-swapped : (n i j k : ℕ) → exchanged_index n i j k ≡ exchanged_index n j i k
exchanged_index-swapped n i j k = omega arith

-- its bit at l is the one that stands there
exchanged_index-bit : (m i j k : ℕ) → AreWindows m i j k → (n l : ℕ) → bit (exchanged_index n i j k) l ≡ bit n (place i j k l)
exchanged_index-bit m i j k w = cases_windows (λ i j k. (n l : ℕ) → bit (exchanged_index n i j k) l ≡ bit n (place i j k l)) m i j k w
    (λ i k n l. ap₂ bit (exchanged_index-same n i k) (sym (place-same i k l)))
    (λ i j n l. ap₂ bit (exchanged_index-none n i j) (sym (place-none i j l)))
    (λ i j k a c n l. exchanged_bit_ordered i j k a n l)
    (λ i j k a c n l. ap (λ b. bit b l) (exchanged_index-swapped n j i k) ∙ exchanged_bit_ordered i j k a n l ∙ ap (bit n) (place-swapped i j k l a))

-- past the variables nothing moves
place-past : (m i j k : ℕ) → AreWindows m i j k → (l : ℕ) → m ≤ l → place i j k l ≡ l
place-past m i j k w = cases_windows (λ i j k. (l : ℕ) → m ≤ l → place i j k l ≡ l) m i j k w
    (λ i k l b. place-same i k l)
    (λ i j l b. place-none i j l)
    (λ i j k a c l b. place-other i j k l (inr (omega arith)) (inr (omega arith)))
    (λ i j k a c l b. place-other j i k l (inr (omega arith)) (inr (omega arith)))

pub exchanged_index-below : (m i j k : ℕ) → AreWindows m i j k → (n : ℕ) → n < 2 ^ m → exchanged_index n i j k < 2 ^ m
exchanged_index-below m i j k w n b =
    below_by_bits m (exchanged_index n i j k) (λ l c. exchanged_index-bit m i j k w n l ∙ ap (bit n) (place-past m i j k w l c) ∙ bit-past m l n b c)

-- twice is not at all
pub exchanged_index-twice : (m i j k : ℕ) → AreWindows m i j k → (n : ℕ) → exchanged_index (exchanged_index n i j k) i j k ≡ n
exchanged_index-twice m i j k w n =
    equal_bits (exchanged_index (exchanged_index n i j k) i j k) n
    (λ l. exchanged_index-bit m i j k w (exchanged_index n i j k) l ∙ exchanged_index-bit m i j k w n (place i j k l) ∙ ap (bit n) (place-twice m i j k w l))

module _ {F : Type 0} (K : FieldOn F) (N : IsField K) where
  -- the items of a corner are exchanged with its index
  exchanged-corner : (m i j k : ℕ) → AreWindows m i j k → (b : ℕ) → exchanged K (corner K m b) i j k ≡ corner K m (exchanged_index b i j k)
  exchanged-corner m i j k w b =
      ap (λ n. tabulate n (λ l. item (itself K) (corner K m b) (place i j k l))) (length-corner K N m b)
      ∙ tabulate-same m (λ l. item (itself K) (corner K m b) (place i j k l)) (λ l. if bit (exchanged_index b i j k) l then K.one else K.zero)
      (λ l c.
      get_or-tabulate m (λ l. if bit b l then K.one else K.zero) (place i j k l) K.zero (place-below m i j k w l c)
      ∙ ap (λ s. if s then K.one else K.zero) (sym (exchanged_index-bit m i j k w b l)))

  -- a table in the new order has at a point the value of the old one at the point with its windows exchanged
  pub extension-exchanged : (m i j k : ℕ) → AreWindows m i j k → (t : ℕ → F) (x : List F) → length x ≡ m → extension K (λ b. t (exchanged_index b i j k)) x ≡ extension K t (exchanged K x i j k)
  extension-exchanged m i j k w t x e =
      let g : List F → F = λ x. extension K t (tabulate m (λ l. item (itself K) x (place i j k l))) in
      let same : (y : List F) → length y ≡ m → extension K t (exchanged K y i j k) ≡ g y =
      λ y f. ap (λ n. extension K t (tabulate n (λ l. item (itself K) y (place i j k l)))) f in
      sym (same x e
      ∙ only_affine K N m g (reordered-affine K N m (place i j k) (place-below m i j k w) (λ l b. place-twice m i j k w l) (extension K t) (extension-affine K N m t)) x e
      ∙ extension-same K N (λ b. g (corner K m b)) (λ b. t (exchanged_index b i j k)) x
      (λ b l.
      let c : b < 2 ^ m = subst (λ n. b < 2 ^ n) e l in
      sym (same (corner K m b) (length-corner K N m b))
      ∙ ap (extension K t) (exchanged-corner m i j k w b)
      ∙ extension-corner K N t m (exchanged_index b i j k) (exchanged_index-below m i j k w b c)))

  pub extension-exchanged_pairs : (m i j k : ℕ) → AreWindows m i j k → (ps : List (ℕ × F)) (x : List F) → length x ≡ m
      → extension K (of_pairs K (map (λ p. (exchanged_index p.0 i j k, p.1)) ps)) x ≡ extension K (of_pairs K ps) (exchanged K x i j k)
  extension-exchanged_pairs m i j k w ps x e =
      ap (λ t. extension K t x) (moved_pairs K (λ b. exchanged_index b i j k) (exchanged_index-twice m i j k w) ps) ∙ extension-exchanged m i j k w (of_pairs K ps) x e
