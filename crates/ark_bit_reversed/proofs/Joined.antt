-- Items of lists that are two halves or blocks, and what holds of each place in them.
use Rattle.std.proofs.Common.{◌≡◌, ◌⊎◌, ℕ, suc, ◌+◌, ◌*◌, ◌-◌, ◌/◌, ◌%◌, ◌^◌, ◌<◌, ◌≤◌, ◌++◌, List, length, get_or, ap, sym, ◌∙◌, subst, arith, ⊎_elim}
use Rattle.std.proofs.lemmas.Bool.{cases_lt}
use Rattle.std.proofs.lemmas.List.{get_or_append_left, get_or-append-add}
use Rattle.std.proofs.lemmas.Nat.{div-add-mod', div_below, mod_below, mul-le, pow_pos}
use Rattle.ark_math.proofs.Numbers.PowersOfTwo.{pow_twice}

-- what holds in both halves holds everywhere
pub by_halves : (P : ℕ → Type 0) (m : ℕ) → ((i : ℕ) → i < m → P i) → ((i : ℕ) → i < m → P (m + i)) → (r : ℕ) → r < m + m → P r
by_halves P m low high r l =
    ⊎_elim (λ (h : r < m). low r h)
    (λ (h : m ≤ r).
    let i = r - m in
    let e : m + i ≡ r = omega (arith, h) in
    subst P e (high i (omega (arith, h, l))))
    (cases_lt r m)

-- what holds at each place of so many blocks holds everywhere
pub by_blocks : (P : ℕ → Type 0) (s c : ℕ) → 0 < s → ((r j : ℕ) → r < c → j < s → P (s * r + j)) → (i : ℕ) → i < s * c → P i
by_blocks P s c some each i l =
    let e : s * c ≡ c * s = omega arith in
    let here : s * (i / s) + i % s ≡ i = omega (arith, div-add-mod' i s) in
    subst P here (each (i / s) (i % s) (div_below i s c some (subst (λ t. i < t) e l)) (mod_below i s some))

module _ {X : Type 0} (z : X) where
  -- the items of a list's front and back
  pub front_item : (xs ys : List X) (m i : ℕ) → length xs ≡ m → i < m → get_or (xs ++ ys) i z ≡ get_or xs i z
  front_item xs ys m i len l = get_or_append_left xs ys z i (omega (arith, len, l))

  pub back_item : (xs ys : List X) (m i : ℕ) → length xs ≡ m → get_or (xs ++ ys) (m + i) z ≡ get_or ys i z
  back_item xs ys m i len = ap (λ t. get_or (xs ++ ys) (t + i) z) (sym len) ∙ get_or-append-add xs ys i z

  -- and those of a part between two others, and of the last one
  module _ (before own after : List X) (p m i : ℕ) (len_before : length before ≡ p) (len_own : length own ≡ m) where
    pub own_item : i < m → get_or (before ++ (own ++ after)) (p + i) z ≡ get_or own i z
    own_item l = back_item before (own ++ after) p i len_before ∙ front_item own after m i len_own l

    pub after_item : get_or (before ++ (own ++ after)) (p + (m + i)) z ≡ get_or after i z
    after_item = back_item before (own ++ after) p (m + i) len_before ∙ back_item own after m i len_own

  -- where another block of as many stands in its place, the other items stay
  pub outside_item : (before own after own1 : List X) (m s : ℕ) → length before ≡ m → length own ≡ s → length own1 ≡ s → (i : ℕ) → (i < m) ⊎ (m + s ≤ i) → get_or (before ++ (own1 ++ after)) i z ≡ get_or (before ++ (own ++ after)) i z
  outside_item before own after own1 m s len_before len_own len_own1 i = ⊎_elim
      (λ (l : i < m). front_item before (own1 ++ after) m i len_before l ∙ sym (front_item before (own ++ after) m i len_before l))
      (λ (l : m + s ≤ i).
      let k = i - (m + s) in
      let place : i ≡ m + (s + k) = omega (arith, l) in
      let item : (block : List X) → length block ≡ s → get_or (before ++ (block ++ after)) i z ≡ get_or after k z =
      λ block len. ap (λ t. get_or (before ++ (block ++ after)) t z) place ∙ back_item before (block ++ after) m (s + k) len_before ∙ back_item block after s k len in
      item own1 len_own1 ∙ sym (item own len_own))

-- a power of two is four times the one two before
pub pow_fourth : (n : ℕ) → 2 ≤ n → 2 ^ n ≡ 4 * 2 ^ (n - 2)
pow_fourth n le =
    let m = n - 2 in
    let e : suc (suc m) ≡ n = omega (arith, le) in
    ap (λ t. 2 ^ t) (sym e) ∙ omega (arith, pow_twice m, pow_twice (suc m))

-- and twice the one before
pub pow_half : (n : ℕ) → 1 ≤ n → 2 ^ n ≡ 2 * 2 ^ (n - 1)
pow_half n le =
    let m = n - 1 in
    let e : suc m ≡ n = omega (arith, le) in
    ap (λ t. 2 ^ t) (sym e) ∙ pow_twice m

-- a block that lies within is named within as many parts as it has items
pub named_within : (b m n : ℕ) (p : ℕ) → 0 < m → suc b * (p * m) ≤ n → suc b * p ≤ n
named_within b m n p some within =
    let q = m - 1 in
    let e : m ≡ suc q = omega (arith, some) in
    let whole : suc b * (p * suc q) ≤ n = subst (λ t. suc b * (p * t) ≤ n) e within in
    omega (arith, whole)

-- the names of a block's halves
pub halves_within : (b n len : ℕ) → 1 ≤ n → suc b * 2 ^ n ≤ len → 2 * b + 1 < len
halves_within b n len le within =
    let m = 2 ^ (n - 1) in
    let whole : suc b * (2 * m) ≤ len = subst (λ t. suc b * t ≤ len) (pow_half n le) within in
    let named : suc b * 2 ≤ len = named_within b m len 2 (pow_pos (n - 1)) whole in
    omega (arith, named)

-- and of so many pairs of parts of it
pub blocks_within : (b n len c h e : ℕ) → h ≡ 2 ^ e → 2 ^ n ≡ c * (2 * h) → suc b * 2 ^ n ≤ len → suc b * (2 * c) ≤ len
blocks_within b n len c h e power is within =
    let some : 0 < h = subst (λ t. 0 < t) (sym power) (pow_pos e) in
    let same : c * (2 * h) ≡ 2 * c * h = omega arith in
    named_within b h len (2 * c) some (subst (λ t. suc b * t ≤ len) (is ∙ same) within)

-- a quarter's share of a list of so many items
pub quarter_len : (n len : ℕ) → 2 ≤ n → len ≡ 2 ^ n → len / 4 ≡ 2 ^ (n - 2)
quarter_len n len le is = omega (arith, is, pow_fourth n le)

-- and a half's
pub half_len : (n len : ℕ) → 1 ≤ n → len ≡ 2 ^ n → len / 2 ≡ 2 ^ (n - 1)
half_len n len le is = omega (arith, is, pow_half n le)

-- the halves of a block lie within
pub half_within : (b n len q : ℕ) → 1 ≤ n → q < 2 → suc b * 2 ^ n ≤ len → suc (2 * b + q) * 2 ^ (n - 1) ≤ len
half_within b n len q le few within =
    let m = 2 ^ (n - 1) in
    let whole : suc b * (2 * m) ≤ len = subst (λ t. suc b * t ≤ len) (pow_half n le) within in
    let more : suc (2 * b + q) * m ≤ (2 * suc b) * m = mul-le (suc (2 * b + q)) m (2 * suc b) m (omega (arith, few)) (omega arith) in
    let same : (2 * suc b) * m ≡ suc b * (2 * m) = omega arith in
    omega (arith, whole, more, same)
