-- The last two levels of the transform by halves, of lists of four items one after the other.
use Rattle.std.proofs.Common.{◌≡◌, ◌≢◌, ◌⊎◌, ℕ, suc, zero, ◌+◌, ◌*◌, ◌-◌, ◌/◌, ◌%◌, ◌<◌, ◌≤◌, ◌^◌, ◌++◌, List, length, get_or, set, drop, map, length-set, subst, sym, ◌∙◌, ap, ap₂, refl, arith, ⊎_elim}
use Rattle.std.proofs.lemmas.List.{drop-drop}
use Rattle.std.proofs.lemmas.Nat.{pow_pos}
use Rattle.ark_math.specs.Field.{FieldOn, IsField, power}
use Rattle.ark_math.specs.Module.{ModuleOn, IsModule, item}
use Rattle.ark_math.specs.Cost.{Counts, GrowsBy, butterfly_counts}
use Rattle.ark_math_transforms.proofs.Transforms.Places.{dft_at}
use Rattle.ark_math.proofs.Algebra.Powers.{power-mul}
use Rattle.ark_math.proofs.Algebra.Sums.{sum_below-same}
use Rattle.ark_math.proofs.Lists.Lists.{read_front, read_back, written_same, written_other}
use Rattle.ark_fft.proofs.Cost.{grows_twice}
use Rattle.ark_math_transforms.specs.BitReversal.{reversed}
use Rattle.ark_fft.specs.Halves.{AreLevels}
use Rattle.ark_fft.proofs.Halving.{one_level_to, four_items}
use Rattle.ark_fft.proofs.Levels.{IsButterfly, AreReversed, IsSplitLevel}
use Rattle.ark_math.proofs.Numbers.PowersOfTwo.{pow_twice}

-- as many items as blocks of four have
pub fours : (n : ℕ) → 2 ≤ n → 2 ^ n ≡ 4 * 2 ^ (n - 2)
fours n le =
    let m = n - 2 in
    let e : suc (suc m) ≡ n = omega (arith, le) in
    ap (λ t. 2 ^ t) (sym e) ∙ omega (arith, pow_twice m, pow_twice (suc m))

-- the levels above, and then two butterflies for two items
pub fours_count : {before between after : Counts} (n len : ℕ) → 2 ≤ n → len ≡ 2 ^ n → GrowsBy (butterfly_counts (2 ^ n / 2 * (n - 2))) before between → GrowsBy (butterfly_counts (4 * (len / 4))) between after → GrowsBy (butterfly_counts (2 ^ n / 2 * n)) before after
fours_count n len le is above last =
    let h = 2 ^ n / 2 in
    let j = n - 2 in
    let e : j + 2 ≡ n = omega (arith, le) in
    let two : 4 * (len / 4) ≡ h * 2 = omega (arith, is, fours n le) in
    let parts : h * (j + 2) ≡ h * j + h * 2 = omega arith in
    let all : h * n ≡ h * j + 4 * (len / 4) = ap (λ t. h * t) (sym e) ∙ (parts ∙ ap (λ t. h * j + t) (sym two)) in
    grows_twice above last all all refl

-- the tables of the last two levels
below_levels : {F : Type 0} (K : FieldOn F) (N : IsField K) (j : ℕ) (w : F) (tables : List F) → AreLevels K w (suc (suc j)) tables → AreLevels K (power K w (2 ^ j)) 2 (drop (2 ^ suc (suc j) - 4) tables)
below_levels K N zero w tables levels = subst (λ x. AreLevels K x 2 tables) (sym (N.times_one w)) levels
below_levels K N (suc j) w tables levels =
    let h = 2 ^ suc (suc j) in
    let twice : 2 * 2 ^ j ≡ 2 ^ suc j = omega (arith, pow_twice j) in
    let root : power K (power K w 2) (2 ^ j) ≡ power K w (2 ^ suc j) = sym (power-mul K N w 2 (2 ^ j)) ∙ ap (power K w) twice in
    let there : h + (h - 4) ≡ 2 ^ suc (suc (suc j)) - 4 = omega (arith, pow_twice (suc (suc j)), pow_twice (suc j), pow_twice j, pow_pos j) in
    subst (λ x. AreLevels K x 2 (drop (2 ^ suc (suc (suc j)) - 4) tables)) root
    (subst (AreLevels K (power K (power K w 2) (2 ^ j)) 2) (drop-drop (h - 4) h tables ∙ ap (λ t. drop t tables) there)
    (below_levels K N j (power K w 2) (drop h tables) levels.1))

pub last_levels : {F : Type 0} (K : FieldOn F) (N : IsField K) (n len : ℕ) (w : F) (tables last : List F) → 2 ≤ n → len ≡ 2 ^ n → last ≡ drop (len - 4) tables → AreLevels K w n tables → AreLevels K (power K w (2 ^ (n - 2))) 2 last
last_levels K N n len w tables last le is is_last levels =
    let e : n ≡ suc (suc (n - 2)) = omega (arith, le) in
    subst (AreLevels K (power K w (2 ^ (n - 2))) 2) (ap (λ k. drop (2 ^ k - 4) tables) (sym e) ∙ ap (λ k. drop (k - 4) tables) (sym is) ∙ sym is_last)
    (below_levels K N (n - 2) w tables (subst (λ k. AreLevels K w k tables) e levels))

module _ {M X : Type 0} (m : X → M) (z : M) (xs : List X) (n : ℕ) (a b c d : X) (inside : n + 3 < length xs) where
  -- four items written one after the other
  abbrev first_written : List X
  first_written = set xs n a

  abbrev second_written : List X
  second_written = set first_written (n + 1) b

  abbrev third_written : List X
  third_written = set second_written (n + 2) c

  abbrev pub four_written : List X
  four_written = set third_written (n + 3) d

  first_len : length first_written ≡ length xs
  first_len = length-set xs n a

  second_len : length second_written ≡ length xs
  second_len = length-set first_written (n + 1) b ∙ first_len

  third_len : length third_written ≡ length xs
  third_len = length-set second_written (n + 2) c ∙ second_len

  pub written_first : get_or (map m four_written) n z ≡ m a
  written_first =
      written_other m z third_written (n + 3) n d (omega arith)
      ∙ written_other m z second_written (n + 2) n c (omega arith)
      ∙ written_other m z first_written (n + 1) n b (omega arith)
      ∙ written_same m z xs n a (omega (arith, inside))

  pub written_second : get_or (map m four_written) (n + 1) z ≡ m b
  written_second =
      written_other m z third_written (n + 3) (n + 1) d (omega arith)
      ∙ written_other m z second_written (n + 2) (n + 1) c (omega arith)
      ∙ written_same m z first_written (n + 1) b (omega (arith, inside, first_len))

  pub written_third : get_or (map m four_written) (n + 2) z ≡ m c
  written_third =
      written_other m z third_written (n + 3) (n + 2) d (omega arith)
      ∙ written_same m z second_written (n + 2) c (omega (arith, inside, second_len))

  pub written_fourth : get_or (map m four_written) (n + 3) z ≡ m d
  written_fourth = written_same m z third_written (n + 3) d (omega (arith, inside, third_len))

  pub written_nowhere_else : (k : ℕ) → (k < n) ⊎ (n + 4 ≤ k) → get_or (map m four_written) k z ≡ get_or (map m xs) k z
  written_nowhere_else k out =
      let ne : (j : ℕ) → j < 4 → k ≢ n + j = λ j l e. ⊎_elim (λ (h : k < n). absurd (omega arith)) (λ (h : n + 4 ≤ k). absurd (omega arith)) out in
      let ne0 : k ≢ n = λ e. ne 0 (omega arith) (omega arith) in
      written_other m z third_written (n + 3) k d (ne 3 (omega arith))
      ∙ written_other m z second_written (n + 2) k c (ne 2 (omega arith))
      ∙ written_other m z first_written (n + 1) k b (ne 1 (omega arith))
      ∙ written_other m z xs n k a ne0

-- the parts of a place: its block of four, and the place in it
in_block : (p : ℕ) → 4 * (p / 4) + p % 4 ≡ p
in_block p = omega arith

module _ {F M X : Type 0} {K : FieldOn F} {V : ModuleOn F M} (N : IsField K) (L : IsModule K V) (m : X → M) where
  -- place q of the transform at v of block r
  abbrev pub of_block : F → List X → ℕ → ℕ → M
  of_block v xs r q = dft_at K V 4 v (λ b. item V (map m xs) (4 * r + b)) (reversed 2 q)

  -- blocks of the same items
  pub same_block : (v : F) (xs ys : List X) (r s q : ℕ) → ((b : ℕ) → b < 4 → item V (map m xs) (4 * r + b) ≡ item V (map m ys) (4 * s + b)) → of_block v xs r q ≡ of_block v ys s q
  same_block v xs ys r s q same = sum_below-same V 4 _ _ (λ b l. ap (V.scale (power K (power K v (reversed 2 q)) b)) (same b l))

  -- the transform at w of 2 ^ n items of f is that of these blocks, each at its own root
  abbrev pub AreReversedBlocks : ℕ → F → (ℕ → M) → List X → Type 0
  AreReversedBlocks n w f xs = AreReversed K V n w f (λ p. of_block (power K w (2 ^ (n - 2))) xs (p / 4) (p % 4))

  -- one level above blocks of four: the levels below make lo2 and hi2 of what its butterflies made
  pub level_of_blocks : (n : ℕ) (w : F) (twiddles : List F) (xs lo hi lo1 hi1 lo2 hi2 : List X) → IsSplitLevel K V m n w twiddles xs lo hi lo1 hi1 → 2 < n → length lo2 ≡ 2 ^ (n - 1) → AreReversedBlocks (n - 1) (power K w 2) (item V (map m lo1)) lo2 → AreReversedBlocks (n - 1) (power K w 2) (item V (map m hi1)) hi2 → AreReversedBlocks n w (item V (map m xs)) (lo2 ++ hi2)
  level_of_blocks n w twiddles xs lo hi lo1 hi1 lo2 hi2 level some len_lo2 of_lo of_hi =
      let j = n - 1 - 2 in
      let next : suc j ≡ n - 2 = omega arith in
      let twice : 2 * 2 ^ j ≡ 2 ^ (n - 2) = omega (arith, pow_twice j) ∙ ap (λ u. 2 ^ u) next in
      let root : power K w (2 ^ (n - 2)) ≡ power K (power K w 2) (2 ^ j) = ap (power K w) (sym twice) ∙ power-mul K N w 2 (2 ^ j) in
      let size : 2 ^ (n - 1) ≡ 4 * 2 ^ j = fours (n - 1) (omega arith) in
      let there : (u : ℕ) → of_block (power K w (2 ^ (n - 2))) (lo2 ++ hi2) (u / 4) (u % 4) ≡ of_block (power K (power K w 2) (2 ^ j)) (lo2 ++ hi2) (u / 4) (u % 4) = λ u.
      ap (λ v. of_block v (lo2 ++ hi2) (u / 4) (u % 4)) root in
      one_level_to N L m n w twiddles xs lo hi lo1 hi1 (λ u. of_block (power K w (2 ^ (n - 2))) (lo2 ++ hi2) (u / 4) (u % 4)) level
      (λ u b. there u ∙ (same_block (power K (power K w 2) (2 ^ j)) (lo2 ++ hi2) lo2 (u / 4) (u / 4) (u % 4) (λ e s. read_front m V.zero lo2 hi2 (4 * (u / 4) + e) (omega (arith, b, s, size, len_lo2))) ∙ of_lo u b))
      (λ u b.
      let block : (2 ^ (n - 1) + u) / 4 ≡ 2 ^ j + u / 4 = omega (arith, size) in
      let place : (2 ^ (n - 1) + u) % 4 ≡ u % 4 = omega (arith, size) in
      let where_from : (e : ℕ) → 4 * (2 ^ j + u / 4) + e ≡ 2 ^ (n - 1) + (4 * (u / 4) + e) = λ e. omega (arith, size) in
      there (2 ^ (n - 1) + u)
      ∙ (ap₂ (of_block (power K (power K w 2) (2 ^ j)) (lo2 ++ hi2)) block place
      ∙ (same_block (power K (power K w 2) (2 ^ j)) (lo2 ++ hi2) hi2 (2 ^ j + u / 4) (u / 4) (u % 4)
      (λ e s. ap (item V (map m (lo2 ++ hi2))) (where_from e) ∙ read_back m V.zero lo2 hi2 (2 ^ (n - 1)) (4 * (u / 4) + e) len_lo2)
      ∙ of_hi u b)))

  -- four items are one block
  pub one_block_of_four : (n : ℕ) (w : F) (xs : List X) → n ≡ 2 → AreReversedBlocks n w (item V (map m xs)) xs
  one_block_of_four n w xs is p l =
      let b : p < 4 = rw is at l in
      let block : p / 4 ≡ 0 = omega (arith, b) in
      let place : p % 4 ≡ p = omega (arith, b) in
      subst (λ k. of_block (power K w (2 ^ (k - 2))) xs (p / 4) (p % 4) ≡ dft_at K V (2 ^ k) w (item V (map m xs)) (reversed k p)) (sym is)
      (ap (λ v. of_block v xs (p / 4) (p % 4)) (N.times_one w) ∙ ap₂ (of_block w xs) block place)

  -- the blocks' own transforms make the whole one
  pub blocks_transformed : (n : ℕ) (w : F) (old mid now : List X) → AreReversedBlocks n w (item V (map m old)) mid → 2 ≤ n → ((r q : ℕ) → r < 2 ^ (n - 2) → q < 4 → item V (map m now) (4 * r + q) ≡ of_block (power K w (2 ^ (n - 2))) mid r q) → AreReversed K V n w (item V (map m old)) (item V (map m now))
  blocks_transformed n w old mid now above le blocks p l =
      ap (item V (map m now)) (sym (in_block p)) ∙ (blocks (p / 4) (p % 4) (omega (arith, l, fours n le)) (omega arith) ∙ above p l)

  -- a block's four items by two levels of butterflies: their places' items before, those between the levels, and those after
  pub record AreFour (tables : List F) (old : ℕ → M) (a b c d e f g h : X) : Type 0 where
    pub evens : IsButterfly V (get_or tables 0 K.zero) (old 0) (old 2) (m a) (m c)
    pub odds : IsButterfly V (get_or tables 1 K.zero) (old 1) (old 3) (m b) (m d)
    pub front : IsButterfly V (get_or tables 2 K.zero) (m a) (m b) (m e) (m f)
    pub back : IsButterfly V (get_or tables 2 K.zero) (m c) (m d) (m g) (m h)

  -- a block's four items, written over what they were
  pub block_written : (w : F) (tables : List F) (xs : List X) (r : ℕ) (a b c d e f g h : X) → AreLevels K w 2 tables → length tables ≡ 4 → (inside : 4 * r + 3 < length xs) → AreFour tables (λ j. item V (map m xs) (4 * r + j)) a b c d e f g h → (q : ℕ) → q < 4 → item V (map m (four_written m V.zero xs (4 * r) e f g h inside)) (4 * r + q) ≡ of_block w xs r q
  block_written w tables xs r a b c d e f g h levels len inside four =
      let here : 4 * r + 0 ≡ 4 * r = omega arith in
      let now = four_written m V.zero xs (4 * r) e f g h inside in
      four_items N L w tables (λ j. item V (map m xs) (4 * r + j)) (λ j. item V (map m now) (4 * r + j)) (m a) (m b) (m c) (m d) levels len
      four.evens four.odds
      (record {
        sum = ap (item V (map m now)) here ∙ written_first m V.zero xs (4 * r) e f g h inside ∙ four.front.sum;
        difference = written_second m V.zero xs (4 * r) e f g h inside ∙ four.front.difference;
      })
      (record {
        sum = written_third m V.zero xs (4 * r) e f g h inside ∙ four.back.sum;
        difference = written_fourth m V.zero xs (4 * r) e f g h inside ∙ four.back.difference;
      })
