-- The halving law of the transform, and its levels.
use Rattle.std.proofs.Common.{◌≡◌, ℕ, zero, suc, ◌+◌, ◌*◌, ◌-◌, ◌/◌, ◌%◌, ◌<◌, ◌≤◌, ◌^◌, List, length, get_or, take, drop, map, length-take-le, length-drop, ◌++◌, mod-eq_of_lt, subst, ⊎_elim, sym, ◌∙◌, ap, ap₂, refl, arith}
use Rattle.std.proofs.lemmas.Bool.{cases_lt}
use Rattle.std.proofs.lemmas.List.{get_or-take, get_or-drop}
use Rattle.std.proofs.lemmas.Nat.{pow_pos}
use Rattle.std.proofs.Math.Nat.{one-mul}
use Rattle.std.proofs.Math.Pow.{pow_mono, pow-lt}
use Rattle.ark_math.specs.Field.{FieldOn, IsField, power}
use Rattle.ark_math.specs.Root.{HasOrder}
use Rattle.ark_math.specs.Module.{ModuleOn, IsModule, sum_below, item}
use Rattle.ark_math_transforms.proofs.Transforms.Places.{dft_at}
use Rattle.ark_math_transforms.specs.BitReversal.{reversed}
use Rattle.ark_fft.specs.Halves.{IsHalfTable, AreLevels}
use Rattle.ark_fft.proofs.Levels.{IsButterfly, same_butterfly, AreReversed, AreTransformed, IsSplitLevel}
use Rattle.ark_math.proofs.Algebra.Groups.{zero_plus}
use Rattle.ark_math.proofs.Lists.Lists.{read_front, read_back, read_order}
use Rattle.ark_math.proofs.Algebra.Powers.{power-add, power-mul, power_comm, negated_one_even, negated_one_odd, half_of_order}
use Rattle.ark_math_transforms.proofs.Numbers.BitReversal.{Half, low, high, half_of, reversed_low, reversed_high, reversed_below, reversed_twice}
use Rattle.ark_math.proofs.Numbers.PowersOfTwo.{pow_twice}
use Rattle.ark_math.proofs.Algebra.Sums.{sum_below-same, sum_below-plus, sum_below-add}
use Rattle.ark_math.proofs.Algebra.Solve.{◌⊗◌, ◌•◌, ◌⊞◌, ◌⊟◌, unit, negative}
use Rattle.ark_math.proofs.Algebra.Ring.{module2_2}

pub few_levels : (n : ℕ) → 2 ^ n < 2 ^ 64 → n < 64
few_levels n l =
    ⊎_elim (λ (a : n < 64). a)
    (λ (b : 64 ≤ n). let m : 2 ^ 64 ≤ 2 ^ n = pow_mono b in absurd (omega arith))
    (cases_lt n 64)

-- a shifted one is a power
pub shifted : (k : ℕ) → k < 64 → 1 * 2 ^ k % 18446744073709551616 ≡ 2 ^ k
shifted k l = mod-eq_of_lt (omega (arith, pow-lt l)) ∙ one-mul (2 ^ k)

-- the butterflies of e levels of 2 ^ n items: those of the topmost, and those of its halves
pub count_levels : (n e : ℕ) → 0 < e → e ≤ n → 2 ^ n / 2 * e ≡ 2 ^ (n - 1) + (2 ^ (n - 1) / 2 * (e - 1) + 2 ^ (n - 1) / 2 * (e - 1))
count_levels zero e some within = absurd (omega arith)
count_levels n zero some within = absurd (omega arith)
count_levels (suc zero) (suc zero) some within = refl
count_levels (suc zero) (suc (suc j)) some within = absurd (omega arith)
count_levels (suc (suc k)) (suc j) some within =
    let twice : 2 ^ suc k ≡ 2 ^ k + 2 ^ k = omega (arith, pow_twice k) in
    let a : 2 ^ suc (suc k) / 2 ≡ 2 ^ k + 2 ^ k = omega (arith, pow_twice (suc k), pow_twice k) in
    let b : 2 ^ suc k / 2 ≡ 2 ^ k = omega (arith, pow_twice k) in
    let e : suc (suc k) - 1 ≡ suc k = omega arith in
    let f : suc j - 1 ≡ j = omega arith in
    let h : (2 ^ k + 2 ^ k) * suc j ≡ 2 ^ k + 2 ^ k + (2 ^ k * j + 2 ^ k * j) = omega arith in
    ap (λ t. t * suc j) a
    ∙ (h
    ∙ sym (ap₂ (λ t u. 2 ^ t + (2 ^ t / 2 * u + 2 ^ t / 2 * u)) e f ∙ (ap (λ t. 2 ^ suc k + (t * j + t * j)) b ∙ ap (λ t. t + (2 ^ k * j + 2 ^ k * j)) twice)))

halved : (levels size half : ℕ) → size ≡ 2 ^ levels → half ≡ size / 2 → 0 < half → size ≡ half * 2
halved zero size half is len pos = absurd (omega arith)
halved (suc k) size half is len pos = omega (arith, pow_twice k)

-- a table of half the powers of a root
pub is_half_table : {F : Type 0} (K : FieldOn F) (N : IsField K) (levels size : ℕ) (w : F) (table : List F) → size ≡ 2 ^ levels → length table ≡ size / 2 → HasOrder K w size → ((i : ℕ) → i < length table → get_or table i K.zero ≡ power K w i) → IsHalfTable K w table
is_half_table K N levels size w table is len order powers = record {
  powers = powers;
  half = λ pos. half_of_order K N w (length table) pos (subst (HasOrder K w) (halved levels size (length table) is len pos) order);
}

-- the first of two, at 0, and the second one, elsewhere
abbrev first_or : {M : Type 0} → M → M → ℕ → M
first_or a b zero = a
first_or a b (suc i) = b

of_two : (P : ℕ → Type 0) → P 0 → P 1 → (j : ℕ) → j < 2 → P j
of_two P first second zero s = first
of_two P first second (suc zero) s = second
of_two P first second (suc (suc j)) s = absurd (omega arith)

module _ {F M : Type 0} {K : FieldOn F} {V : ModuleOn F M} (N : IsField K) (L : IsModule K V) where
  -- the two halves of a sum, joined term by term
  joined : (m : ℕ) (x y : F) (f g : ℕ → M) → ((j : ℕ) → j < m → V.plus (V.scale (power K x j) (f j)) (V.scale (power K x (m + j)) (f (m + j))) ≡ V.scale (power K y j) (g j)) → sum_below V (m + m) (λ j. V.scale (power K x j) (f j)) ≡ sum_below V m (λ j. V.scale (power K y j) (g j))
  joined m x y f g same =
      sum_below-add L m m (λ j. V.scale (power K x j) (f j))
      ∙ (sym (sum_below-plus L m (λ j. V.scale (power K x j) (f j)) (λ j. V.scale (power K x (m + j)) (f (m + j))))
      ∙ sum_below-same V m _ _ same)

  -- at an even place: the transform at w ^ 2 of the sums
  pub at_even : (m : ℕ) (w : F) (f g : ℕ → M) (i : ℕ) → power K w m ≡ K.negated K.one → ((j : ℕ) → j < m → g j ≡ V.plus (f j) (f (m + j))) → dft_at K V (m + m) w f (2 * i) ≡ dft_at K V m (power K w 2) g i
  at_even m w f g i half e =
      let x = power K w (2 * i) in
      let y = power K (power K w 2) i in
      let one : power K x m ≡ K.one = power_comm K N w (2 * i) m ∙ negated_one_even K N (power K w m) i half in
      let near : (j : ℕ) → power K x j ≡ power K y j = λ j. ap (λ t. power K t j) (power-mul K N w 2 i) in
      let far : (j : ℕ) → power K x (m + j) ≡ power K y j = λ j.
      power-add K N x m j ∙ (ap₂ K.times one (near j) ∙ (N.times_comm K.one (power K y j) ∙ N.times_one (power K y j))) in
      joined m x y f g
      (λ j l.
      ap₂ (λ s t. V.plus (V.scale s (f j)) (V.scale t (f (m + j)))) (near j) (far j)
      ∙ (sym (L.scale_plus (power K y j) (f j) (f (m + j))) ∙ ap (V.scale (power K y j)) (sym (e j l))))

  -- at an odd place: that of the differences, each times its power of w
  pub at_odd : (m : ℕ) (w : F) (f g : ℕ → M) (i : ℕ) → power K w m ≡ K.negated K.one → ((j : ℕ) → j < m → g j ≡ V.scale (power K w j) (V.plus (f j) (V.negated (f (m + j))))) → dft_at K V (m + m) w f (2 * i + 1) ≡ dft_at K V m (power K w 2) g i
  at_odd m w f g i half e =
      let x = power K w (2 * i + 1) in
      let y = power K (power K w 2) i in
      let minus : power K x m ≡ K.negated K.one = power_comm K N w (2 * i + 1) m ∙ negated_one_odd K N (power K w m) i half in
      let near : (j : ℕ) → power K x j ≡ K.times (power K y j) (power K w j) = λ j.
      let n : (2 * i + 1) * j ≡ 2 * i * j + j = omega arith in
      sym (power-mul K N w (2 * i + 1) j)
      ∙ (ap (power K w) n
      ∙ (power-add K N w (2 * i * j) j
      ∙ ap (λ t. K.times t (power K w j)) (power-mul K N w (2 * i) j ∙ ap (λ t. power K t j) (power-mul K N w 2 i)))) in
      let far : (j : ℕ) → power K x (m + j) ≡ K.times (K.negated K.one) (K.times (power K y j) (power K w j)) = λ j.
      power-add K N x m j ∙ ap₂ K.times minus (near j) in
      joined m x y f g
      (λ j l.
      ap₂ (λ s t. V.plus (V.scale s (f j)) (V.scale t (f (m + j)))) (near j) (far j)
      ∙ (module2_2 N L (λ p r a b. ((p ⊗ r) • a ⊞ (negative unit ⊗ (p ⊗ r)) • b, p • (r • (a ⊟ b)))) refl (power K y j) (power K w j) (f j) (f (m + j))
      ∙ ap (V.scale (power K y j)) (sym (e j l))))

  -- the transform at w, in reversed order, from those of the sums and of the differences at w ^ 2
  pub level_at : (k : ℕ) (w : F) (f g h r : ℕ → M) → power K w (2 ^ k) ≡ K.negated K.one → ((j : ℕ) → j < 2 ^ k → IsButterfly V (power K w j) (f j) (f (2 ^ k + j)) (g j) (h j)) → AreReversed K V k (power K w 2) g r → AreReversed K V k (power K w 2) h (λ p. r (2 ^ k + p)) → (p : ℕ) → Half k p → r p ≡ dft_at K V (2 ^ suc k) w f (reversed (suc k) p)
  level_at k w f g h r half butterflies of_lo of_hi _ (low p l) =
      let halves : 2 ^ k + 2 ^ k ≡ 2 ^ suc k = omega (arith, pow_twice k) in
      of_lo p l
      ∙ (sym (at_even (2 ^ k) w f g (reversed k p) half (λ j b. (butterflies j b).sum))
      ∙ ap₂ (λ n i. dft_at K V n w f i) halves (sym (reversed_low k p l)))
  level_at k w f g h r half butterflies of_lo of_hi _ (high p l) =
      let halves : 2 ^ k + 2 ^ k ≡ 2 ^ suc k = omega (arith, pow_twice k) in
      of_hi p l
      ∙ (sym (at_odd (2 ^ k) w f h (reversed k p) half (λ j b. (butterflies j b).difference))
      ∙ ap₂ (λ n i. dft_at K V n w f i) halves (sym (reversed_high k p (2 ^ k + p) refl)))

  -- one item is its own transform
  pub no_level : (n : ℕ) (w : F) (f : ℕ → M) → n ≡ 0 → AreReversed K V n w f f
  no_level n w f e p l =
      let b : p < 2 ^ 0 = rw e at l in
      let z : p ≡ 0 = omega arith in
      subst (λ t. f p ≡ dft_at K V (2 ^ t) w f (reversed t p)) (sym e)
      (ap f z ∙ sym (zero_plus L (V.scale K.one (f 0)) ∙ L.one_scale (f 0)))

  -- two items: their sum, and their difference, which the table's first power, one, multiplies
  pub one_pair : (n : ℕ) (w : F) (tables : List F) (f r : ℕ → M) → AreLevels K w n tables → n ≡ 1 → length tables ≡ 2 ^ n → IsButterfly V (get_or tables 0 K.zero) (f 0) (f 1) (r 0) (r 1) → AreReversed K V n w f r
  one_pair n w tables f r levels one len butterfly =
      let t : IsHalfTable K w (take 1 tables) = (subst (λ k. AreLevels K w k tables) one levels).0 in
      let len1 : length tables ≡ 2 ^ 1 = subst (λ k. length tables ≡ 2 ^ k) one len in
      let len_first : length (take 1 tables) ≡ 1 = length-take-le 1 tables (omega (arith, len1)) in
      let half : power K w 1 ≡ K.negated K.one = sym (ap (power K w) len_first) ∙ t.half (omega (arith, len_first)) in
      let g : ℕ → M = λ j. V.plus (f j) (f (1 + j)) in
      let h : ℕ → M = λ j. V.scale (power K w j) (V.plus (f j) (V.negated (f (1 + j)))) in
      let first : get_or tables 0 K.zero ≡ K.one = sym (get_or-take 1 tables 0 K.zero (omega arith)) ∙ t.powers 0 (omega (arith, len_first)) in
      let pair = same_butterfly V first refl refl butterfly in
      let at_lo : (p : ℕ) → p < 1 → r p ≡ g p = λ p l. let z : p ≡ 0 = omega arith in subst (λ k. r k ≡ g k) (sym z) pair.sum in
      let at_hi : (p : ℕ) → p < 1 → r (1 + p) ≡ h p = λ p l. let z : p ≡ 0 = omega arith in subst (λ k. r (1 + k) ≡ h k) (sym z) pair.difference in
      subst (λ k. AreReversed K V k w f r) (sym one)
      (λ p l.
      level_at 0 w f g h r half (λ j b. record { sum = refl; difference = refl })
      (λ q b. at_lo q b ∙ no_level 0 (power K w 2) g refl q b) (λ q b. at_hi q b ∙ no_level 0 (power K w 2) h refl q b) p (half_of 0 p l))

  -- four items: the butterflies across their halves, and then those of two pairs
  pub four_items : (w : F) (tables : List F) (f r : ℕ → M) (a b c d : M) → AreLevels K w 2 tables → length tables ≡ 4 → IsButterfly V (get_or tables 0 K.zero) (f 0) (f 2) a c → IsButterfly V (get_or tables 1 K.zero) (f 1) (f 3) b d → IsButterfly V (get_or tables 2 K.zero) a b (r 0) (r 1) → IsButterfly V (get_or tables 2 K.zero) c d (r 2) (r 3) → AreReversed K V 2 w f r
  four_items w tables f r a b c d levels len first second front back p l =
      let t : IsHalfTable K w (take 2 tables) = levels.0 in
      let rest = drop 2 tables in
      let len_first : length (take 2 tables) ≡ 2 = length-take-le 2 tables (omega (arith, len)) in
      let len_rest : length rest ≡ 2 = length-drop 2 tables ∙ omega (arith, len) in
      let half : power K w 2 ≡ K.negated K.one = sym (ap (power K w) len_first) ∙ t.half (omega (arith, len_first)) in
      let entry : (i : ℕ) → i < 2 → get_or tables i K.zero ≡ power K w i = λ i b. sym (get_or-take 2 tables i K.zero b) ∙ t.powers i (omega (arith, b, len_first)) in
      let next : get_or tables 2 K.zero ≡ get_or rest 0 K.zero = sym (get_or-drop 2 tables 0 K.zero) in
      let g : ℕ → M = first_or a b in
      let h : ℕ → M = first_or c d in
      level_at 1 w f g h r half
      (λ j s. of_two (λ i. IsButterfly V (power K w i) (f i) (f (2 + i)) (g i) (h i)) (same_butterfly V (entry 0 (omega arith)) refl refl first) (same_butterfly V (entry 1 (omega arith)) refl refl second) j s)
      (one_pair 1 (power K w 2) rest g r levels.1 refl len_rest (same_butterfly V next refl refl front))
      (one_pair 1 (power K w 2) rest h (λ i. r (2 + i)) levels.1 refl len_rest (same_butterfly V next refl refl back))
      p (half_of 1 p l)

module _ {F M X : Type 0} {K : FieldOn F} {V : ModuleOn F M} (N : IsField K) (L : IsModule K V) (m : X → M) where
  -- one level, on lists, where the transforms of what the butterflies made are known
  pub one_level_to : (n : ℕ) (w : F) (twiddles : List F) (xs lo hi lo1 hi1 : List X) (r : ℕ → M) → IsSplitLevel K V m n w twiddles xs lo hi lo1 hi1 → AreReversed K V (n - 1) (power K w 2) (item V (map m lo1)) r → AreReversed K V (n - 1) (power K w 2) (item V (map m hi1)) (λ p. r (2 ^ (n - 1) + p)) → AreReversed K V n w (item V (map m xs)) r
  one_level_to n w twiddles xs lo hi lo1 hi1 r level of_lo of_hi p l =
      let k = n - 1 in
      let pos = level.some in
      let len = level.enough in
      let len_lo = level.len_lo in
      let suc_k : suc k ≡ n = omega arith in
      let any : 0 < length twiddles = omega (arith, len, pow_pos k) in
      let half : power K w (2 ^ k) ≡ K.negated K.one = sym (ap (power K w) len) ∙ level.table.half any in
      let old = item V (map m xs) in
      let front : (i : ℕ) → i < 2 ^ k → item V (map m lo) i ≡ old i = λ i b. sym (ap (λ u. item V (map m u) i) level.halves ∙ read_front m V.zero lo hi i (omega arith)) in
      let back : (i : ℕ) → item V (map m hi) i ≡ old (2 ^ k + i) = λ i. sym (ap (λ u. item V (map m u) (2 ^ k + i)) level.halves ∙ read_back m V.zero lo hi (2 ^ k) i len_lo) in
      subst (λ u. r p ≡ dft_at K V (2 ^ u) w old (reversed u p)) suc_k
      (level_at N L k w old (item V (map m lo1)) (item V (map m hi1)) r half
      (λ i b. same_butterfly V (level.table.powers i (omega (arith, b, len))) (front i b) (back i) (level.butterflies i (omega arith)))
      of_lo of_hi p (half_of k p (rw suc_k l)))

  -- and the levels below make them lo2 and hi2
  pub one_level : (n : ℕ) (w : F) (twiddles : List F) (xs lo hi lo1 hi1 lo2 hi2 : List X) → IsSplitLevel K V m n w twiddles xs lo hi lo1 hi1 → length lo2 ≡ 2 ^ (n - 1) → AreReversed K V (n - 1) (power K w 2) (item V (map m lo1)) (item V (map m lo2)) → AreReversed K V (n - 1) (power K w 2) (item V (map m hi1)) (item V (map m hi2)) → AreReversed K V n w (item V (map m xs)) (item V (map m (lo2 ++ hi2)))
  one_level n w twiddles xs lo hi lo1 hi1 lo2 hi2 level len_lo2 of_lo of_hi =
      one_level_to n w twiddles xs lo hi lo1 hi1 (item V (map m (lo2 ++ hi2))) level
      (λ q b. read_front m V.zero lo2 hi2 q (omega arith) ∙ of_lo q b)
      (λ q b. read_back m V.zero lo2 hi2 (2 ^ (n - 1)) q len_lo2 ∙ of_hi q b)

  -- all levels, their order restored
  pub all_levels : (n : ℕ) (w : F) (old mid now : List X) → length mid ≡ 2 ^ n → length now ≡ 2 ^ n → AreReversed K V n w (item V (map m old)) (item V (map m mid)) → ((p : ℕ) (d : X) → p < 2 ^ n → get_or now p d ≡ get_or mid (reversed n p) d) → AreTransformed K V (2 ^ n) (2 ^ n) w (item V (map m old)) (item V (map m now))
  all_levels n w old mid now of_mid of_now halves order i l =
      read_order m V.zero (reversed n) mid now
      (λ q c. let d : q < 2 ^ n = omega arith in let e = reversed_below n q d in omega arith)
      (λ q d c. order q d (omega arith)) i (omega arith)
      ∙ (halves (reversed n i) (reversed_below n i l)
      ∙ ap (dft_at K V (2 ^ n) w (item V (map m old))) (reversed_twice n i l))
