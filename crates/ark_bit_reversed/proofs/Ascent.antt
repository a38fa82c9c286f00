-- A level back of all blocks of a list: what blocks of so many items have, those of twice as many have after it.
use Rattle.std.proofs.Common.{◌≡◌, ℕ, suc, ◌+◌, ◌*◌, ◌-◌, ◌/◌, ◌^◌, ◌<◌, ◌≤◌, List, length, refl, sym, ◌∙◌, ap, subst, arith}
use Rattle.std.proofs.Math.Nat.{mul-div_cancel_left}
use Rattle.std.proofs.lemmas.Nat.{mul-le, pow_pos, pow-add}
use Rattle.ark_math.specs.Field.{FieldOn, IsField, minus, power}
use Rattle.ark_math.specs.Univariate.{of_list, value_below}
use Rattle.ark_math.proofs.Algebra.Groups.{one_times}
use Rattle.ark_math.proofs.Numbers.PowersOfTwo.{pow_twice}
use Rattle.ark_bit_reversed.specs.Blocks.{AreReversed, AreInverseRoots}
use Rattle.ark_bit_reversed.proofs.BlockParts.{pair_back}
use Rattle.ark_bit_reversed.proofs.Elements.{power_of_block}
use Rattle.ark_bit_reversed.proofs.Joined.{by_halves, named_within, pow_half}
use Rattle.ark_bit_reversed.proofs.Callers.Splits.{value_by_strides, value_of_one, value_of_same}
use Rattle.ark_bit_reversed.proofs.Undone.{two}

-- blocks of twice as many items
pub twice_as_many : (level m : ℕ) → m ≡ 2 ^ level → 2 * m ≡ 2 ^ (level + 1)
twice_as_many level m is =
    let e : suc level ≡ level + 1 = omega arith in
    ap (λ t. 2 * t) is ∙ sym (pow_twice level) ∙ ap (λ t. 2 ^ t) e

-- they are the whole list
pub blocks_whole : (n level m : ℕ) → level < n → m ≡ 2 ^ level → 2 ^ n ≡ 2 * m * 2 ^ (n - (level + 1))
blocks_whole n level m more is =
    let k = n - (level + 1) in
    let e : n ≡ (level + 1) + k = omega (arith, more) in
    ap (λ t. 2 ^ t) e ∙ pow-add 2 (level + 1) k ∙ ap (λ t. t * 2 ^ k) (sym (twice_as_many level m is))

-- how many they are
pub blocks_count : (n level m len : ℕ) → level < n → m ≡ 2 ^ level → len ≡ 2 ^ n → len / (2 * m) ≡ 2 ^ (n - (level + 1))
blocks_count n level m len more is all =
    ap (λ t. t / (2 * m)) (all ∙ blocks_whole n level m more is)
    ∙ mul-div_cancel_left (2 ^ (n - (level + 1))) {n = 2 * m} (omega (arith, is, pow_pos level))

-- none has more items than the list
pub block_fits : (n level m : ℕ) → level < n → m ≡ 2 ^ level → 2 * m ≤ 2 ^ n
block_fits n level m more is =
    let k = n - (level + 1) in
    omega (arith, blocks_whole n level m more is, mul-le (2 * m) 1 (2 * m) (2 ^ k) (omega arith) (pow_pos k))

-- and they lie within what the whole list's elements do
pub blocks_within : (n level b m size : ℕ) → level < n → m ≡ 2 ^ level → suc b * 2 ^ n ≤ size → suc b * (2 * 2 ^ (n - (level + 1))) ≤ size
blocks_within n level b m size more is within =
    let h = 2 ^ (n - (level + 1)) in
    let turned : 2 * m * h ≡ 2 * h * m = omega arith in
    named_within b m size (2 * h) (omega (arith, is, pow_pos level)) (subst (λ t. suc b * t ≤ size) (blocks_whole n level m more is ∙ turned) within)

module _ {F : Type 0} (K : FieldOn F) (x : ℕ → F) where
  -- each of h blocks of m items has s times the values, at the element that it is named by, of every m-th coefficient
  abbrev AreBlocks : (h m b : ℕ) (s : F) (a v : ℕ → F) → Type 0
  AreBlocks h m b s a v = (r j : ℕ) → r < h → j < m → v (m * r + j) ≡ K.times s (value_below K h (λ k. a (m * k + j)) (x (b * h + r)))

  -- the levels of a block of 2 ^ n items are done up to some, but for the first two
  abbrev pub AreUpTo : (n level b : ℕ) (a v : ℕ → F) → Type 0
  AreUpTo n level b a v = AreBlocks (2 ^ (n - level)) (2 ^ level) b (power K (two K) (level - 2)) a v

module _ {F : Type 0} (K : FieldOn F) (N : IsField K) where
  -- the values of twice h coefficients at an element of a block of two are those of two values
  value_of_pair : (size : ℕ) (x : ℕ → F) → AreReversed K size x → (h b i : ℕ) (c : ℕ → F) → i < 2 → 2 * b + i < size → value_below K (2 * h) c (x (2 * b + i)) ≡ value_below K 2 (λ p. value_below K h (λ k. c (2 * k + p)) (x b)) (x (2 * b + i))
  value_of_pair size x R h b i c few within =
      let e : 2 * b + i ≡ b * 2 + i = omega arith in
      let z = x (2 * b + i) in
      value_by_strides K N 2 h c z
      ∙ ap (λ y. value_below K 2 (λ p. value_below K h (λ k. c (2 * k + p)) y) z) (ap (λ t. power K (x t) 2) e ∙ power_of_block K N size x R 1 b i few (omega (arith, within)))

module _ {F : Type 0} (K : FieldOn F) (N : IsField K) (x : ℕ → F) (inverses : List F) (known : AreInverseRoots K x inverses) where
  -- the butterflies of a level, over h blocks of twice m items
  module _ (h m b : ℕ) (s : F) (a v w : ℕ → F) (within : suc b * (2 * h) ≤ length inverses + length inverses) (values : AreBlocks K x (2 * h) m b s a v)
      (sums : (r j : ℕ) → r < h → j < m → w (2 * m * r + j) ≡ K.plus (v (2 * m * r + j)) (v (2 * m * r + (m + j))))
      (differences : (r j : ℕ) → r < h → j < m → w (2 * m * r + (m + j)) ≡ K.times (of_list K inverses (b * h + r)) (minus K (v (2 * m * r + j)) (v (2 * m * r + (m + j))))) where
    -- the values of a block's coefficients of even and of odd places
    abbrev row : (r j p : ℕ) → F
    row r j p = value_below K h (λ k. a (m * (2 * k + p) + j)) (x (b * h + r))

    -- an item of one of two neighbours
    neighbour : (r j i t : ℕ) → r < h → j < m → i < 2 → t ≡ m * (2 * r + i) + j → v t ≡ K.times s (value_below K 2 (row r j) (x (2 * (b * h + r) + i)))
    neighbour r j i t lr lj few place =
        let element : b * (2 * h) + (2 * r + i) ≡ 2 * (b * h + r) + i = omega arith in
        let inside : 2 * (b * h + r) + i < length inverses + length inverses = omega (arith, lr, few, within) in
        ap v place
        ∙ values (2 * r + i) j (omega (arith, lr, few)) lj
        ∙ ap (λ u. K.times s (value_below K (2 * h) (λ k. a (m * k + j)) (x u))) element
        ∙ ap (K.times s) (value_of_pair K N (length inverses + length inverses) x known.reversed h (b * h + r) i (λ k. a (m * k + j)) few inside)

    -- what the level makes of them
    back : (r j : ℕ) → r < h → j < m
        → (K.plus (v (2 * m * r + j)) (v (2 * m * r + (m + j))) ≡ K.times (K.times (two K) s) (row r j 0))
        × (K.times (of_list K inverses (b * h + r)) (minus K (v (2 * m * r + j)) (v (2 * m * r + (m + j)))) ≡ K.times (K.times (two K) s) (row r j 1))
    back r j lr lj =
        let c = b * h + r in
        let even : 2 * c + 0 ≡ 2 * c = omega arith in
        pair_back K N x inverses known c s (row r j) _ _ (omega (arith, lr, within))
        (neighbour r j 0 (2 * m * r + j) lr lj (omega arith) (omega arith) ∙ ap (λ t. K.times s (value_below K 2 (row r j) (x t))) even)
        (neighbour r j 1 (2 * m * r + (m + j)) lr lj (omega arith) (omega arith))

    -- blocks of twice as many items have the values of every 2 m-th coefficient
    level_back : AreBlocks K x h (2 * m) b (K.times (two K) s) a w
    level_back r j lr lj =
        let whole : 2 * m ≡ m + m = omega arith in
        let z = x (b * h + r) in
        let twice = K.times (two K) s in
        by_halves (λ j. w (2 * m * r + j) ≡ K.times twice (value_below K h (λ k. a (2 * m * k + j)) z)) m
        (λ i l. sums r i lr l ∙ (back r i lr l).0 ∙ ap (K.times twice) (value_of_same K N h _ _ z (λ k lk. let e : m * (2 * k + 0) + i ≡ 2 * m * k + i = omega arith in ap a e)))
        (λ i l. differences r i lr l ∙ (back r i lr l).1 ∙ ap (K.times twice) (value_of_same K N h _ _ z (λ k lk. let e : m * (2 * k + 1) + i ≡ 2 * m * k + (m + i) = omega arith in ap a e)))
        j (subst (λ t. j < t) whole lj)

  -- the same told by levels
  pub next_level : (n level b m : ℕ) (a v w : ℕ → F) → 2 ≤ level → level < n → m ≡ 2 ^ level → suc b * 2 ^ n ≤ length inverses + length inverses → AreUpTo K x n level b a v
      → ((r j : ℕ) → r < 2 ^ (n - (level + 1)) → j < m → w (2 * m * r + j) ≡ K.plus (v (2 * m * r + j)) (v (2 * m * r + (m + j))))
      → ((r j : ℕ) → r < 2 ^ (n - (level + 1)) → j < m → w (2 * m * r + (m + j)) ≡ K.times (of_list K inverses (b * 2 ^ (n - (level + 1)) + r)) (minus K (v (2 * m * r + j)) (v (2 * m * r + (m + j)))))
      → AreUpTo K x n (level + 1) b a w
  next_level n level b m a v w some more is within values sums differences =
      let h = 2 ^ (n - (level + 1)) in
      let s = power K (two K) (level - 2) in
      let below : n - level - 1 ≡ n - (level + 1) = omega arith in
      let halves : 2 ^ (n - level) ≡ 2 * h = pow_half (n - level) (omega arith) ∙ ap (λ t. 2 * 2 ^ t) below in
      let above : suc (level - 2) ≡ level + 1 - 2 = omega arith in
      subst (λ t. AreBlocks K x h t b (power K (two K) (level + 1 - 2)) a w) (twice_as_many level m is)
      (subst (λ t. AreBlocks K x h (2 * m) b (power K (two K) t) a w) above
      (level_back h m b s a v w (blocks_within n level b m _ more is within)
      (subst (λ t. AreBlocks K x (2 * h) t b s a v) (sym is) (subst (λ t. AreBlocks K x t (2 ^ level) b s a v) halves values))
      sums differences))

  -- one block has the coefficients themselves
  one_block : (m b : ℕ) (s : F) (a v : ℕ → F) → AreBlocks K x 1 m b s a v → (i : ℕ) → i < m → v i ≡ K.times s (a i)
  one_block m b s a v values i l =
      let z = x (b * 1 + 0) in
      let e : i ≡ m * 0 + i = omega arith in
      ap v e ∙ values 0 i (omega arith) l ∙ ap (K.times s) (sym (value_of_one K N 1 (λ k. a (m * k + i)) z 0 refl (omega arith)) ∙ ap a (sym e))

  -- that is what there is when all levels are done
  pub up_to_last : (n level b : ℕ) (a v : ℕ → F) → level ≡ n → AreUpTo K x n level b a v → (i : ℕ) → i < 2 ^ n → v i ≡ K.times (power K (two K) (n - 2)) (a i)
  up_to_last n level b a v e values =
      let none : n - level ≡ 0 = omega arith in
      one_block (2 ^ n) b (power K (two K) (n - 2)) a v
      (subst (λ t. AreBlocks K x (2 ^ (n - level)) (2 ^ t) b (power K (two K) (t - 2)) a v → AreBlocks K x 1 (2 ^ n) b (power K (two K) (n - 2)) a v) (sym e)
      (subst (λ t. AreBlocks K x (2 ^ t) (2 ^ n) b (power K (two K) (n - 2)) a v → AreBlocks K x 1 (2 ^ n) b (power K (two K) (n - 2)) a v) (sym none) (λ known. known))
      values)

  -- and what the first two leave
  pub up_to_fours : (n b : ℕ) (a v : ℕ → F) → ((r j : ℕ) → r < 2 ^ (n - 2) → j < 4 → v (4 * r + j) ≡ value_below K (2 ^ (n - 2)) (λ k. a (4 * k + j)) (x (b * 2 ^ (n - 2) + r))) → AreUpTo K x n 2 b a v
  up_to_fours n b a v fours r j lr lj = fours r j lr lj ∙ sym (one_times K N _)
