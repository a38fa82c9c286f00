-- The transform by halves from the reversed order: the sum at x is that of the even items at x ^ 2, and x times that of the odd ones.
use Rattle.std.proofs.Common.{◌≡◌, ℕ, suc, ◌+◌, ◌*◌, ◌-◌, ◌/◌, ◌%◌, ◌<◌, ◌≤◌, ◌^◌, List, length, get_or, take, drop, map, ◌++◌, zero, length-take-le, length-drop, subst, sym, ◌∙◌, ap, ap₂, refl, arith}
use Rattle.std.proofs.lemmas.List.{get_or_append_left, get_or-take, get_or-drop}
use Rattle.std.proofs.lemmas.Nat.{div-mul-add, pow_pos, pow-add}
use Rattle.std.proofs.Math.Nat.{div-lt_iff_lt-mul}
use Rattle.std.proofs.Math.Pow.{pow_mono}
use Rattle.ark_math.specs.Cost.{Counts, GrowsBy, butterfly_counts}
use Rattle.ark_math.specs.Field.{FieldOn, IsField, power}
use Rattle.ark_math.specs.Module.{ModuleOn, IsModule, sum_below, item}
use Rattle.ark_math_transforms.proofs.Transforms.Places.{dft_at}
use Rattle.ark_math_transforms.specs.BitReversal.{reversed}
use Rattle.ark_fft.specs.Halves.{ArePowers, IsHalfTable, AreLevels}
use Rattle.ark_math.proofs.Algebra.Groups.{zero_plus, scale_zero, one_times}
use Rattle.ark_math.proofs.Lists.Lists.{read_front, read_back, read_order}
use Rattle.ark_math.proofs.Algebra.Powers.{power-add, power-mul, power_comm, negated_one_even}
use Rattle.ark_math.proofs.Algebra.Regrouped.{sum_below-past}
use Rattle.ark_fft.proofs.Halving.{count_levels}
use Rattle.ark_fft.proofs.Levels.{IsJoin, same_join, AreTransformed, IsJoinedLevel}
use Rattle.ark_math_transforms.proofs.Numbers.BitReversal.{Half, low, high, half_of, reversed_low, reversed_high, reversed_below}
use Rattle.ark_math.proofs.Numbers.PowersOfTwo.{pow_pred}
use Rattle.ark_math.proofs.Algebra.Ring.{module1_2}
use Rattle.ark_math.proofs.Algebra.Solve.{◌⊗◌, ◌•◌, ◌⊞◌, ◌⊟◌, unit, negative, origin}
use Rattle.ark_fft.proofs.Split.{split}
use Rattle.ark_fft.proofs.Cost.{none_grown, grows_twice}

-- ---- blocks of 2 ^ b places

block_below : (d b p : ℕ) → p < 2 ^ (d + b) → p / 2 ^ b < 2 ^ d
block_below d b p l = (div-lt_iff_lt-mul {k = 2 ^ b} {x = p} {y = 2 ^ d} (pow_pos b)).1 (rw (pow-add 2 d b) at l)

block_high : (d b p : ℕ) → (2 ^ (d + b) + p) / 2 ^ b ≡ 2 ^ d + p / 2 ^ b
block_high d b p =
    let pos : 0 < 2 ^ b = pow_pos b in
    let less : p % 2 ^ b < 2 ^ b = omega arith in
    let parts : 2 ^ b * (p / 2 ^ b) + p % 2 ^ b ≡ p = omega arith in
    let whole : 2 ^ (d + b) + p ≡ (2 ^ d + p / 2 ^ b) * 2 ^ b + p % 2 ^ b = rw (pow-add 2 d b) (omega arith) in
    ap (λ t. t / 2 ^ b) whole ∙ div-mul-add (2 ^ d + p / 2 ^ b) (2 ^ b) (p % 2 ^ b) less

-- the first items of as many blocks
pub first_items : (n e len : ℕ) → e ≤ n → len ≡ 2 ^ n → len / 2 ^ (n - e) ≡ 2 ^ e
first_items n e len within is =
    let width : e + (n - e) ≡ n = omega arith in
    let whole : len ≡ 2 ^ e * 2 ^ (n - e) + 0 = is ∙ (ap (λ t. 2 ^ t) (sym width) ∙ (pow-add 2 e (n - e) ∙ omega arith)) in
    ap (λ t. t / 2 ^ (n - e)) whole ∙ div-mul-add (2 ^ e) (2 ^ (n - e)) 0 (pow_pos (n - e))

-- the blocks of a level are those of its halves, the even ones first
module _ (n e : ℕ) (some : 0 < e) (within : e ≤ n) where
  widths : (n - e ≡ n - 1 - (e - 1)) × (e ≡ suc (e - 1)) × (e - 1 + (n - e) ≡ n - 1)
  widths = (omega arith, omega arith, omega arith)

  pub blocks_front : (p : ℕ) → p < 2 ^ (n - 1) → reversed e (p / 2 ^ (n - e)) ≡ 2 * reversed (e - 1) (p / 2 ^ (n - 1 - (e - 1))) + 0
  blocks_front p l =
      let b : p < 2 ^ (e - 1 + (n - e)) = rw widths.2 l in
      ap (λ t. reversed t (p / 2 ^ (n - e))) widths.1
      ∙ (reversed_low (e - 1) (p / 2 ^ (n - e)) (block_below (e - 1) (n - e) p b)
      ∙ (ap (λ t. 2 * reversed (e - 1) (p / 2 ^ t)) widths.0 ∙ omega arith))

  pub blocks_back : (p : ℕ) → reversed e ((2 ^ (n - 1) + p) / 2 ^ (n - e)) ≡ 2 * reversed (e - 1) (p / 2 ^ (n - 1 - (e - 1))) + 1
  blocks_back p =
      let q : (2 ^ (n - 1) + p) / 2 ^ (n - e) ≡ 2 ^ (e - 1) + p / 2 ^ (n - e) = ap (λ t. (2 ^ t + p) / 2 ^ (n - e)) (sym widths.2) ∙ block_high (e - 1) (n - e) p in
      ap (λ t. reversed t ((2 ^ (n - 1) + p) / 2 ^ (n - e))) widths.1
      ∙ (reversed_high (e - 1) (p / 2 ^ (n - e)) _ q
      ∙ ap (λ t. 2 * reversed (e - 1) (p / 2 ^ t) + 1) widths.0)

-- the halves of a list of 2 ^ n places, and what joining them costs
module _ (n e : ℕ) (some : 0 < e) (within : e ≤ n) where
  pub some_levels : 0 < n
  some_levels = omega (arith, some, within)

  pub front_half : (all front : ℕ) → all ≡ 2 ^ n → front ≡ all / 2 → front ≡ 2 ^ (n - 1)
  front_half all front is half = omega (arith, is, half, pow_pred n some_levels)

  pub back_half : (all other back : ℕ) → all ≡ 2 ^ n → other ≡ 2 ^ n → back + other / 2 ≡ all → back ≡ 2 ^ (n - 1)
  back_half all other back is size half = omega (arith, is, size, half, pow_pred n some_levels)

  -- both halves, and then the butterflies across them
  pub joined_count : {before first second after : Counts} (joins : ℕ) → GrowsBy (butterfly_counts (2 ^ (n - 1) / 2 * (e - 1))) before first → GrowsBy (butterfly_counts (2 ^ (n - 1) / 2 * (e - 1))) first second → GrowsBy (butterfly_counts joins) second after → joins ≡ 2 ^ (n - 1) →
      GrowsBy (butterfly_counts (2 ^ n / 2 * e)) before after
  joined_count joins a b c is =
      let half = 2 ^ (n - 1) / 2 * (e - 1) in
      let all : 2 ^ n / 2 * e ≡ half + half + joins = omega (arith, is, count_levels n e some within) in
      grows_twice (grows_twice {z = butterfly_counts (half + half)} a b refl refl refl) c all all refl

  -- the butterflies across both halves, and then these
  pub split_count : {before split first after : Counts} (joins : ℕ) → GrowsBy (butterfly_counts joins) before split → joins ≡ 2 ^ (n - 1) → GrowsBy (butterfly_counts (2 ^ (n - 1) / 2 * (e - 1))) split first → GrowsBy (butterfly_counts (2 ^ (n - 1) / 2 * (e - 1))) first after →
      GrowsBy (butterfly_counts (2 ^ n / 2 * e)) before after
  split_count joins a is b c =
      let half = 2 ^ (n - 1) / 2 * (e - 1) in
      let all : 2 ^ n / 2 * e ≡ joins + half + half = omega (arith, is, count_levels n e some within) in
      grows_twice (grows_twice {z = butterfly_counts (joins + half)} a b refl refl refl) c all all refl

-- no level, no cost
pub no_count : (half e : ℕ) (w : Counts) → e ≤ 0 → GrowsBy (butterfly_counts (half * e)) w w
no_count half e w none =
    let zero_levels : e ≡ 0 = omega arith in
    let nothing : half * e ≡ 0 = ap (λ k. half * k) zero_levels ∙ omega arith in
    subst (λ k. GrowsBy (butterfly_counts k) w w) (sym nothing) (none_grown w)

module _ {F M : Type 0} {K : FieldOn F} {V : ModuleOn F M} (N : IsField K) (L : IsModule K V) where
  -- f has zeros from h on
  pub sum_of_few : (h n : ℕ) (w : F) (f : ℕ → M) (i : ℕ) → h ≤ n → ((j : ℕ) → h ≤ j → j < n → f j ≡ V.zero) → dft_at K V n w f i ≡ dft_at K V h w f i
  sum_of_few h n w f i le zeros =
      sum_below-past L h n _ le (λ j a b. ap (V.scale (power K (power K w i) j)) (zeros j a b) ∙ scale_zero L (power K (power K w i) j))

  joined : (m : ℕ) (w : F) (f : ℕ → M) (i : ℕ) → dft_at K V (2 * m) w f i ≡ V.plus (dft_at K V m (power K w 2) (λ j. f (2 * j + 0)) i) (V.scale (power K w i) (dft_at K V m (power K w 2) (λ j. f (2 * j + 1)) i))
  joined m w f i =
      split N L 2 m w f i
      ∙ module1_2 N L (λ x a b. (origin ⊞ unit • a ⊞ (x ⊗ unit) • b, a ⊞ x • b)) refl (power K w i) _ _

  -- h places on, where w ^ h is minus one
  joined_opposite : (m h : ℕ) (w : F) (f : ℕ → M) (i : ℕ) → power K w h ≡ K.negated K.one → dft_at K V (2 * m) w f (h + i) ≡ V.plus (dft_at K V m (power K w 2) (λ j. f (2 * j + 0)) i) (V.negated (V.scale (power K w i) (dft_at K V m (power K w 2) (λ j. f (2 * j + 1)) i)))
  joined_opposite m h w f i half =
      let one : power K (power K w 2) h ≡ K.one = power_comm K N w 2 h ∙ negated_one_even K N (power K w h) 1 half in
      let same : power K (power K w 2) (h + i) ≡ power K (power K w 2) i =
      power-add K N (power K w 2) h i ∙ (ap (λ t. K.times t (power K (power K w 2) i)) one ∙ one_times K N (power K (power K w 2) i)) in
      let there : (g : ℕ → M) → dft_at K V m (power K w 2) g (h + i) ≡ dft_at K V m (power K w 2) g i = λ g.
      ap (λ t. sum_below V m (λ j. V.scale (power K t j) (g j))) same in
      joined m w f (h + i)
      ∙ (ap₂ V.plus (there (λ j. f (2 * j + 0))) (ap₂ V.scale (power-add K N w h i ∙ ap (λ t. K.times t (power K w i)) half) (there (λ j. f (2 * j + 1))))
      ∙ module1_2 N L (λ x a b. (a ⊞ (negative unit ⊗ x) • b, a ⊟ x • b)) refl (power K w i) _ _)

  -- the sums at w from those of the even and the odd items at w ^ 2
  joined_at : (k n : ℕ) (w : F) (c f g r : ℕ → M) → power K w (2 ^ k) ≡ K.negated K.one → AreTransformed K V (2 ^ k) n (power K w 2) (λ j. c (2 * j + 0)) f → AreTransformed K V (2 ^ k) n (power K w 2) (λ j. c (2 * j + 1)) g → ((p : ℕ) → p < 2 ^ k → IsJoin V (power K w p) (f p) (g p) (r p) (r (2 ^ k + p))) → (p : ℕ) → Half k p → r p ≡ dft_at K V (2 * n) w c p
  joined_at k n w c f g r half evens odds joins _ (low p l) =
      (same_join V refl (evens p l) (odds p l) (joins p l)).sum ∙ sym (joined n w c p)
  joined_at k n w c f g r half evens odds joins _ (high p l) =
      (same_join V refl (evens p l) (odds p l) (joins p l)).difference ∙ sym (joined_opposite n (2 ^ k) w c p half)

module _ {F M X : Type 0} {K : FieldOn F} {V : ModuleOn F M} (N : IsField K) (L : IsModule K V) (m : X → M) where
  -- the list has the items c 0, c 1, .. of 2 ^ e in the reversed order, each in a block of its own
  abbrev pub AreBlocks : ℕ → ℕ → List X → (ℕ → M) → Type 0
  AreBlocks n e xs c = (p : ℕ) → p < 2 ^ n → item V (map m xs) p ≡ c (reversed e (p / 2 ^ (n - e)))

  pub blocks_of_front : (n e : ℕ) (xs lo hi : List X) (c : ℕ → M) → 0 < e → e ≤ n → xs ≡ lo ++ hi → length lo ≡ 2 ^ (n - 1) → AreBlocks n e xs c → AreBlocks (n - 1) (e - 1) lo (λ j. c (2 * j + 0))
  blocks_of_front n e xs lo hi c some within joins len_lo blocks p l =
      let pos : 0 < n = omega arith in
      let b : p < 2 ^ n = omega (arith, pow_pred n pos) in
      sym (ap (λ u. item V (map m u) p) joins ∙ read_front m V.zero lo hi p (omega arith))
      ∙ (blocks p b ∙ ap c (blocks_front n e some within p l))

  pub blocks_of_back : (n e : ℕ) (xs lo hi : List X) (c : ℕ → M) → 0 < e → e ≤ n → xs ≡ lo ++ hi → length lo ≡ 2 ^ (n - 1) → AreBlocks n e xs c → AreBlocks (n - 1) (e - 1) hi (λ j. c (2 * j + 1))
  blocks_of_back n e xs lo hi c some within joins len_lo blocks p l =
      let pos : 0 < n = omega arith in
      let b : 2 ^ (n - 1) + p < 2 ^ n = omega (arith, pow_pred n pos) in
      sym (ap (λ u. item V (map m u) (2 ^ (n - 1) + p)) joins ∙ read_back m V.zero lo hi (2 ^ (n - 1)) p len_lo)
      ∙ (blocks (2 ^ (n - 1) + p) b ∙ ap c (blocks_back n e some within p))

  -- one level, on lists: the halves are transformed to lo and hi, and joined to lo1 and hi1
  pub joined_level : (n e : ℕ) (w : F) (twiddles : List F) (c : ℕ → M) (lo hi lo1 hi1 : List X) → IsJoinedLevel K V m n e w twiddles lo hi lo1 hi1 → AreTransformed K V (2 ^ (n - 1)) (2 ^ (e - 1)) (power K w 2) (λ j. c (2 * j + 0)) (item V (map m lo)) → AreTransformed K V (2 ^ (n - 1)) (2 ^ (e - 1)) (power K w 2) (λ j. c (2 * j + 1)) (item V (map m hi)) → AreTransformed K V (2 ^ n) (2 ^ e) w c (item V (map m (lo1 ++ hi1)))
  joined_level n e w twiddles c lo hi lo1 hi1 level evens odds p l =
      let k = n - 1 in
      let some = level.some in
      let within = level.within in
      let enough = level.enough in
      let len_lo = level.len_lo in
      let len_lo1 = level.len_lo1 in
      let suc_k : suc k ≡ n = omega arith in
      let any : 0 < length twiddles = omega (arith, enough, pow_pos k) in
      let half : power K w (2 ^ k) ≡ K.negated K.one = sym (ap (power K w) enough) ∙ level.table.half any in
      let size : 2 * 2 ^ (e - 1) ≡ 2 ^ e = omega (arith, pow_pred e some) in
      let join = λ (q : ℕ) (b : q < 2 ^ k). same_join V (level.table.powers q (omega (arith, b, enough))) refl refl (level.butterflies q (omega (arith, b, len_lo))) in
      joined_at N L k (2 ^ (e - 1)) w c (item V (map m lo)) (item V (map m hi)) (item V (map m (lo1 ++ hi1))) half evens odds
      (λ q b. record {
        sum = read_front m V.zero lo1 hi1 q (omega arith) ∙ (join q b).sum;
        difference = read_back m V.zero lo1 hi1 (2 ^ k) q len_lo1 ∙ (join q b).difference;
      })
      p (half_of k p (rw suc_k l))
      ∙ ap (λ u. dft_at K V u w c p) size

  -- one item, in each place, is its own transform
  pub one_block : (n e : ℕ) (w : F) (xs : List X) (c : ℕ → M) → e ≡ 0 → AreBlocks n e xs c → AreTransformed K V (2 ^ n) (2 ^ e) w c (item V (map m xs))
  one_block n e w xs c none blocks p l =
      blocks p l
      ∙ (ap (λ t. c (reversed t (p / 2 ^ (n - e)))) none
      ∙ (sym (zero_plus L (V.scale K.one (c 0)) ∙ L.one_scale (c 0)) ∙ ap (λ t. dft_at K V (2 ^ t) w c p) (sym none)))

  -- the first items in reversed order, and then spread out
  pub blocks_spread : (n e : ℕ) (old front rest now : List X) → e ≤ n → length old ≡ 2 ^ n → length front ≡ 2 ^ e → length now ≡ 2 ^ n → length (front ++ rest) ≡ 2 ^ n → ((p : ℕ) (d : X) → p < 2 ^ e → get_or front p d ≡ get_or (take (2 ^ e) old) (reversed e p) d) → ((p : ℕ) (d : X) → p < length (front ++ rest) → get_or now p d ≡ get_or (front ++ rest) (p / 2 ^ (n - e)) d) → AreBlocks n e now (item V (map m old))
  blocks_spread n e old front rest now within of_old of_front of_now of_mid order copies p l =
      let width : e + (n - e) ≡ n = omega arith in
      let le : 2 ^ e ≤ 2 ^ n = pow_mono within in
      let below : (q : ℕ) → q < 2 ^ n → q / 2 ^ (n - e) < 2 ^ e = λ q b. let c : q < 2 ^ (e + (n - e)) = rw width b in block_below e (n - e) q c in
      read_order m V.zero (λ q. reversed e (q / 2 ^ (n - e))) old now
      (λ q b. let c : q < 2 ^ n = omega arith in let r = reversed_below e (q / 2 ^ (n - e)) (below q c) in omega arith)
      (λ q d b.
      let c : q < 2 ^ n = omega arith in
      let h = below q c in
      copies q d (omega arith)
      ∙ (get_or_append_left front rest d (q / 2 ^ (n - e)) (omega arith)
      ∙ (order (q / 2 ^ (n - e)) d h ∙ get_or-take (2 ^ e) old (reversed e (q / 2 ^ (n - e))) d (reversed_below e (q / 2 ^ (n - e)) h))))
      p (omega arith)

-- ---- the tables of all levels

-- the first table and those below it
pub next_levels : {F : Type 0} (K : FieldOn F) (n h : ℕ) (w : F) (all front back : List F) → 0 < n → h ≡ 2 ^ (n - 1) → front ≡ take h all → back ≡ drop h all → AreLevels K w n all → IsHalfTable K w front × AreLevels K (power K w 2) (n - 1) back
next_levels K n h w all front back pos half is_front is_back tables =
    let one_more : n ≡ suc (n - 1) = omega arith in
    let parts : AreLevels K w (suc (n - 1)) all = subst (λ k. AreLevels K w k all) one_more tables in (
      subst (IsHalfTable K w) (sym (is_front ∙ ap (λ k. take k all) half)) parts.0,
      subst (AreLevels K (power K w 2) (n - 1)) (sym (is_back ∙ ap (λ k. drop k all) half)) parts.1,
    )

-- powers of a root up to where it is minus one
pub half_table : {F : Type 0} (K : FieldOn F) (w : F) (h : ℕ) (table : List F) → ArePowers K w h table → power K w h ≡ K.negated K.one → IsHalfTable K w table
half_table K w h table t half = record {
  powers = λ i b. t.powers i (subst (λ k. i < k) t.len b);
  half = λ b. ap (power K w) t.len ∙ half;
}

module _ {F : Type 0} (K : FieldOn F) (N : IsField K) where
  -- each table's powers are every second of those before it
  pub levels_from_first : (n : ℕ) (w : F) (tables : List F) → length tables ≡ 2 * 2 ^ n → IsHalfTable K w (take (2 ^ n) tables) → ((k : ℕ) → k < 2 ^ n → get_or tables (2 ^ n + k) K.zero ≡ get_or tables (2 * k) K.zero) → AreLevels K w (suc n) tables
  levels_from_first zero w tables len first seconds = (first, tt)
  levels_from_first (suc n) w tables len first seconds =
      let h = 2 ^ n in
      let two : 2 ^ suc n ≡ 2 * h = omega arith in
      let rest = drop (2 ^ suc n) tables in
      let len_first : length (take (2 ^ suc n) tables) ≡ 2 * h = length-take-le (2 ^ suc n) tables (omega (arith, len)) ∙ two in
      let len_rest : length rest ≡ 2 * h = length-drop (2 ^ suc n) tables ∙ omega (arith, len, two) in
      let len_next : length (take h rest) ≡ h = length-take-le h rest (omega (arith, len_rest)) in
      let at : (i : ℕ) → get_or rest i K.zero ≡ get_or tables (2 ^ suc n + i) K.zero = λ i. get_or-drop (2 ^ suc n) tables i K.zero in
      let next : IsHalfTable K (power K w 2) (take h rest) = record {
        powers = λ i b.
            let c : i < h = omega (arith, b, len_next) in
            get_or-take h rest i K.zero c
            ∙ at i
            ∙ seconds i (omega (arith, c, two))
            ∙ sym (get_or-take (2 ^ suc n) tables (2 * i) K.zero (omega (arith, c, two)))
            ∙ first.powers (2 * i) (omega (arith, c, len_first))
            ∙ power-mul K N w 2 i;
        half = λ b.
            ap (power K (power K w 2)) len_next
            ∙ sym (power-mul K N w 2 h)
            ∙ ap (power K w) (sym len_first)
            ∙ first.half (omega (arith, len_first, pow_pos n));
      } in (
        first,
        levels_from_first n (power K w 2) rest len_rest next
            (λ k b. at (h + k)
            ∙ seconds (h + k) (omega (arith, b, two))
            ∙ ap (λ t. get_or tables t K.zero) (let e : 2 * (h + k) ≡ 2 ^ suc n + 2 * k = omega (arith, two) in e)
            ∙ sym (at (2 * k))),
      )

  -- the same at any size, that of one item too, where there are no twiddles
  pub levels_of_size : (n size : ℕ) (w : F) (tables : List F) → size ≡ 2 ^ n → length tables ≡ size → IsHalfTable K w (take (size / 2) tables) → ((k : ℕ) → k < size / 2 → get_or tables (size / 2 + k) K.zero ≡ get_or tables (2 * k) K.zero) → AreLevels K w n tables
  levels_of_size zero size w tables is len first seconds = tt
  levels_of_size (suc n) size w tables is len first seconds =
      let h : size / 2 ≡ 2 ^ n = omega (arith, is) in
      levels_from_first n w tables (omega (arith, is, len)) (subst (λ t. IsHalfTable K w (take t tables)) h first)
      (subst (λ t. (k : ℕ) → k < t → get_or tables (t + k) K.zero ≡ get_or tables (2 * k) K.zero) h seconds)

  even_power : (n s : ℕ) → s ≡ 2 ^ n → 0 < s / 2 → 2 * (s / 2) ≡ s
  even_power zero s is some = omega (arith, is, some)
  even_power (suc n) s is some = omega (arith, is)

  -- the tables of all levels but the last one
  pub levels_below : (n size : ℕ) (w : F) (tables : List F) → size ≡ 2 ^ n → length tables ≡ size / 2 → (0 < n → power K w (size / 2) ≡ K.negated K.one) → ArePowers K (power K w 2) (size / 2 / 2) (take (size / 2 / 2) tables) → ((k : ℕ) → k < size / 2 / 2 → get_or tables (size / 2 / 2 + k) K.zero ≡ get_or tables (2 * k) K.zero) → AreLevels K (power K w 2) (n - 1) tables
  levels_below zero size w tables is len half first seconds = tt
  levels_below (suc n) size w tables is len half first seconds =
      let h : size / 2 ≡ 2 ^ n = omega (arith, is) in
      let same : n ≡ suc n - 1 = omega arith in
      let pos : 0 < suc n = omega arith in
      let halved : IsHalfTable K (power K w 2) (take (size / 2 / 2) tables) = record {
        powers = λ i b. first.powers i (omega (arith, b, first.len));
        half = λ b.
            let even : 2 * (size / 2 / 2) ≡ size / 2 = even_power n (size / 2) h (omega (arith, b, first.len)) in
            ap (power K (power K w 2)) first.len ∙ sym (power-mul K N w 2 (size / 2 / 2)) ∙ ap (power K w) even ∙ half pos;
      } in
      subst (λ k. AreLevels K (power K w 2) k tables) same (levels_of_size n (size / 2) (power K w 2) tables h len halved seconds)

  -- every second item of a table is put in front of it, and each item after its half is that at twice the place
  pub record ArePacked (table halved tables : List F) : Type 0 where
    pub len : length tables ≡ length table
    pub evens : (k : ℕ) → k < length table / 2 → get_or halved k K.zero ≡ get_or table (2 * k) K.zero
    pub first : (k : ℕ) → k < length table / 2 → get_or tables k K.zero ≡ get_or halved k K.zero
    pub seconds : (k : ℕ) → k < length table / 2 → get_or tables (length table / 2 + k) K.zero ≡ get_or tables (2 * k) K.zero

  -- the tables that take the place of a table of twiddles: every second one of it, and every second one of these, and so on
  pub packed_levels : (n : ℕ) (w : F) (table halved tables : List F) → length table ≡ 2 ^ n → IsHalfTable K w table → ArePacked table halved tables → AreLevels K (power K w 2) n tables
  packed_levels n w table halved tables is t packed =
      let h = length table / 2 in
      let len = packed.len in
      let len_front : length (take h tables) ≡ h = length-take-le h tables (omega (arith, len)) in
      let front : IsHalfTable K (power K w 2) (take h tables) = record {
        powers = λ i b.
            let c : i < h = omega (arith, b, len_front) in
            get_or-take h tables i K.zero c ∙ packed.first i c ∙ packed.evens i c ∙ t.powers (2 * i) (omega (arith, c)) ∙ power-mul K N w 2 i;
        half = λ b.
            ap (power K (power K w 2)) len_front
            ∙ sym (power-mul K N w 2 h)
            ∙ ap (power K w) (even_power n (length table) is (omega (arith, b, len_front)))
            ∙ t.half (omega (arith, b, len_front));
      } in
      levels_of_size n (length table) (power K w 2) tables is len front packed.seconds
