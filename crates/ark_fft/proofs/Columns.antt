-- Two levels of butterflies at once, of items at equal places of the quarters of a list.
use Rattle.std.proofs.Common.{◌≡◌, ℕ, zero, suc, ◌+◌, ◌-◌, ◌*◌, ◌/◌, ◌%◌, ◌<◌, ◌≤◌, ◌^◌, List, [], ◌∷◌, length, get_or, set, take, drop, map, length-set, length-take-le, length-drop, subst, sym, ◌∙◌, ap, ap₂, refl, arith}
use Rattle.std.proofs.lemmas.List.{get_or-take, get_or-drop}
use Rattle.std.proofs.lemmas.Nat.{pow_pos}
use Rattle.ark_math.specs.Field.{FieldOn, IsField, power}
use Rattle.ark_math.specs.Module.{ModuleOn, IsModule, item}
use Rattle.ark_math_transforms.specs.BitReversal.{reversed}
use Rattle.ark_math.proofs.Algebra.Powers.{power-mul}
use Rattle.ark_math.proofs.Algebra.Sums.{sum_below-same}
use Rattle.ark_math.proofs.Lists.Lists.{written_same, written_other}
use Rattle.ark_math_transforms.proofs.Numbers.BitReversal.{half_of}
use Rattle.ark_math.proofs.Numbers.PowersOfTwo.{pow_twice}
use Rattle.ark_fft.specs.Columns.{IsColumn, AreColumns}
use Rattle.ark_fft.specs.Halves.{IsHalfTable, AreLevels}
use Rattle.ark_fft.proofs.Fours.{of_block, AreReversedBlocks}
use Rattle.ark_fft.proofs.Halving.{level_at}
use Rattle.ark_fft.proofs.Levels.{IsButterfly, AreReversed}

module _ {F M : Type 0} (V : ModuleOn F M) {u l b : F} {x0 x1 x2 x3 y0 y1 y2 y3 : M} where
  -- two butterflies across the halves, and two across the quarters
  pub column_of : {p q r s : M} → IsButterfly V u x0 x2 p q → IsButterfly V l x1 x3 r s → IsButterfly V b p r y0 y1 → IsButterfly V b q s y2 y3 → IsColumn V u l b x0 x1 x2 x3 y0 y1 y2 y3
  column_of evens odds front back = record {
    first = front.sum ∙ ap₂ V.plus evens.sum odds.sum;
    second = front.difference ∙ ap₂ (λ v w. V.scale b (V.plus v (V.negated w))) evens.sum odds.sum;
    third = back.sum ∙ ap₂ V.plus evens.difference odds.difference;
    fourth = back.difference ∙ ap₂ (λ v w. V.scale b (V.plus v (V.negated w))) evens.difference odds.difference;
  }

  -- the same new items
  pub same_column : {z0 z1 z2 z3 : M} → z0 ≡ y0 → z1 ≡ y1 → z2 ≡ y2 → z3 ≡ y3 → IsColumn V u l b x0 x1 x2 x3 y0 y1 y2 y3 → IsColumn V u l b x0 x1 x2 x3 z0 z1 z2 z3
  same_column e0 e1 e2 e3 column = record {
    first = e0 ∙ column.first;
    second = e1 ∙ column.second;
    third = e2 ∙ column.third;
    fourth = e3 ∙ column.fourth;
  }

-- what holds of four places
pub of_four : (P : ℕ → Type 0) → P 0 → P 1 → P 2 → P 3 → (j : ℕ) → j < 4 → P j
of_four P first second third fourth zero s = first
of_four P first second third fourth (suc zero) s = second
of_four P first second third fourth (suc (suc zero)) s = third
of_four P first second third fourth (suc (suc (suc zero))) s = fourth
of_four P first second third fourth (suc (suc (suc (suc j)))) s = absurd (omega arith)

-- items written one after the other, from place j on
abbrev pub written_from : {X : Type 0} → ℕ → List X → List X → List X
written_from j [] xs = xs
written_from j (v ∷ vs) xs = written_from (suc j) vs (set xs j v)

module _ {X M : Type 0} (m : X → M) (z : M) where
  written_before : (j : ℕ) (vs xs : List X) (k : ℕ) → k < j → get_or (map m (written_from j vs xs)) k z ≡ get_or (map m xs) k z
  written_before j [] xs k l = refl
  written_before j (v ∷ vs) xs k l = written_before (suc j) vs (set xs j v) k (omega arith) ∙ written_other m z xs j k v (λ e. absurd (omega arith))

  pub written_at : (j : ℕ) (vs xs : List X) (i : ℕ) → j + length vs ≤ length xs → i < length vs → get_or (map m (written_from j vs xs)) (j + i) z ≡ get_or (map m vs) i z
  written_at j [] xs i fits l = absurd (omega arith)
  written_at j (v ∷ vs) xs zero fits l =
      let here : j + 0 ≡ j = omega arith in
      ap (λ t. get_or (map m (written_from (suc j) vs (set xs j v))) t z) here
      ∙ (written_before (suc j) vs (set xs j v) j (omega arith) ∙ written_same m z xs j v (omega (arith, fits)))
  written_at j (v ∷ vs) xs (suc i) fits l =
      let next : j + suc i ≡ suc j + i = omega arith in
      ap (λ t. get_or (map m (written_from (suc j) vs (set xs j v))) t z) next
      ∙ written_at (suc j) vs (set xs j v) i (omega (arith, fits, length-set xs j v)) (omega (arith, l))

-- the tables of two levels of lists of four times n items: the twiddle factors of their columns
pub record AreColumnTables {F : Type 0} (K : FieldOn F) (n : ℕ) (w : F) (tables : List F) : Type 0 where
  pub half : power K w (n + n) ≡ K.negated K.one
  pub half_below : power K (power K w 2) n ≡ K.negated K.one
  pub upper : (i : ℕ) → i < n → get_or tables i K.zero ≡ power K w i
  pub lower : (i : ℕ) → i < n → get_or tables (n + i) K.zero ≡ power K w (n + i)
  pub below : (i : ℕ) → i < n → get_or tables (n + n + i) K.zero ≡ power K (power K w 2) i

pub column_tables : {F : Type 0} (K : FieldOn F) (k n : ℕ) (w : F) (tables : List F) → n ≡ 2 ^ k → n + n + n ≤ length tables → AreLevels K w (suc (suc k)) tables → AreColumnTables K n w tables
column_tables K k n w tables is enough levels =
    let twice : 2 ^ suc k ≡ n + n = omega (arith, pow_twice k) in
    let pos : 0 < n = omega (arith, pow_pos k) in
    let back = drop (n + n) tables in
    let h : IsHalfTable K w (take (n + n) tables) = subst (λ s. IsHalfTable K w (take s tables)) twice levels.0 in
    let next : AreLevels K (power K w 2) (suc k) back = subst (λ s. AreLevels K (power K w 2) (suc k) (drop s tables)) twice levels.1 in
    let t : IsHalfTable K (power K w 2) (take n back) = subst (λ s. IsHalfTable K (power K w 2) (take s back)) (sym is) next.0 in
    let len_h : length (take (n + n) tables) ≡ n + n = length-take-le (n + n) tables (omega (arith, enough)) in
    let len_back : n ≤ length back = omega (arith, length-drop (n + n) tables, enough) in
    let len_t : length (take n back) ≡ n = length-take-le n back len_back in
    let front : (i : ℕ) → i < n + n → get_or tables i K.zero ≡ power K w i = λ i s. sym (get_or-take (n + n) tables i K.zero s) ∙ h.powers i (omega (arith, len_h, s)) in
    record {
      half = sym (ap (power K w) len_h) ∙ h.half (omega (arith, len_h, pos));
      half_below = sym (ap (power K (power K w 2)) len_t) ∙ t.half (omega (arith, len_t, pos));
      upper = λ i s. front i (omega arith);
      lower = λ i s. front (n + i) (omega arith);
      below = λ i s. sym (get_or-drop (n + n) tables i K.zero) ∙ (sym (get_or-take n back i K.zero s) ∙ t.powers i (omega (arith, len_t, s)));
    }

module _ {F M : Type 0} {K : FieldOn F} {V : ModuleOn F M} (N : IsField K) (L : IsModule K V) where
  -- two levels: the transform at w of four times 2 ^ k items, in reversed order, from those at w ^ 4 of what the columns leave in the quarters
  pub two_levels : (k n : ℕ) (w : F) (tables : List F) (f g r : ℕ → M) → n ≡ 2 ^ k → AreColumnTables K n w tables → AreColumns K V tables n f g →
      AreReversed K V k (power K (power K w 2) 2) g r → AreReversed K V k (power K (power K w 2) 2) (λ i. g (n + i)) (λ p. r (n + p)) → AreReversed K V k (power K (power K w 2) 2) (λ i. g (n + n + i)) (λ p. r (n + n + p)) → AreReversed K V k (power K (power K w 2) 2) (λ i. g (n + n + n + i)) (λ p. r (n + n + n + p)) → AreReversed K V (suc (suc k)) w f r
  two_levels k n w tables f g r is t columns of0 of1 of2 of3 =
      let g1 : ℕ → M = λ i. g (n + i) in
      let g2 : ℕ → M = λ i. g (n + n + i) in
      let g3 : ℕ → M = λ i. g (n + n + n + i) in
      let twice : n + n ≡ 2 ^ suc k = omega (arith, pow_twice k) in
      let v = power K w 2 in
      let half : power K v (2 ^ k) ≡ K.negated K.one = subst (λ u. power K v u ≡ K.negated K.one) is t.half_below in
      let last : (j : ℕ) → n + n + n + j ≡ n + n + (n + j) = λ j. omega arith in
      let sums : ℕ → M = λ j. V.plus (f j) (f (n + n + j)) in
      let minus : ℕ → ℕ → M = λ i j. V.plus (f i) (V.negated (f j)) in
      let differences : ℕ → M = λ j. V.scale (power K w j) (minus j (n + n + j)) in
      let front : AreReversed K V (suc k) v sums r = λ p s.
      level_at N L k v sums g g1 r half
      (λ j b.
      let c : j < n = omega arith in
      let column = columns j c in
      let odds : V.plus (f (n + j)) (f (n + n + n + j)) ≡ sums (n + j) = ap (λ i. V.plus (f (n + j)) (f i)) (last j) in
      subst (λ u. IsButterfly V (power K v j) (sums j) (sums (u + j)) (g j) (g1 j)) is
      (record {
        sum = column.first ∙ ap (V.plus (sums j)) odds;
        difference = column.second ∙ ap₂ (λ x y. V.scale x (V.plus (sums j) (V.negated y))) (t.below j c) odds;
      }))
      of0 (subst (λ u. AreReversed K V k (power K v 2) g1 (λ q. r (u + q))) is of1) p (half_of k p s) in
      let back : AreReversed K V (suc k) v differences (λ p. r (n + n + p)) = λ p s.
      level_at N L k v differences g2 g3 (λ q. r (n + n + q)) half
      (λ j b.
      let c : j < n = omega arith in
      let column = columns j c in
      let evens : V.scale (get_or tables j K.zero) (minus j (n + n + j)) ≡ differences j = ap (λ x. V.scale x (minus j (n + n + j))) (t.upper j c) in
      let odds : V.scale (get_or tables (n + j) K.zero) (minus (n + j) (n + n + n + j)) ≡ differences (n + j) = ap₂ (λ x i. V.scale x (minus (n + j) i)) (t.lower j c) (last j) in
      subst (λ u. IsButterfly V (power K v j) (differences j) (differences (u + j)) (g2 j) (g3 j)) is
      (record {
        sum = column.third ∙ ap₂ V.plus evens odds;
        difference = column.fourth ∙ ap₂ V.scale (t.below j c) (ap₂ (λ x y. V.plus x (V.negated y)) evens odds);
      }))
      of2
      (subst (λ u. AreReversed K V k (power K v 2) g3 (λ q. r (n + n + (u + q)))) is (λ q b. ap r (sym (last q)) ∙ of3 q b))
      p (half_of k p s) in
      λ p s.
      level_at N L (suc k) w f sums differences r (subst (λ u. power K w u ≡ K.negated K.one) twice t.half)
      (λ j b. subst (λ u. IsButterfly V (power K w j) (f j) (f (u + j)) (sums j) (differences j)) twice (record { sum = refl; difference = refl }))
      front (subst (λ u. AreReversed K V (suc k) v differences (λ q. r (u + q))) twice back) p (half_of (suc k) p s)

module _ {F M X : Type 0} {K : FieldOn F} {V : ModuleOn F M} (N : IsField K) (L : IsModule K V) (m : X → M) where
  -- sixteen items, of which two levels make blocks of four
  pub sixteen_to_fours : (levels : ℕ) (w : F) (tables : List F) (f : ℕ → M) (now : List X) → levels ≡ 4 → length tables ≡ 2 ^ levels → AreLevels K w levels tables →
      AreColumns K V tables 4 f (item V (map m now)) → AreReversedBlocks N L m levels w f now
  sixteen_to_fours levels w tables f now is whole levels_are columns =
      let len : length tables ≡ 2 ^ 4 = subst (λ j. length tables ≡ 2 ^ j) is whole in
      let t = column_tables K 2 4 w tables refl (omega (arith, len)) (subst (λ j. AreLevels K w j tables) is levels_are) in
      let v = power K (power K w 2) 2 in
      let x = power K w (2 ^ (4 - 2)) in
      let root : x ≡ v = power-mul K N w 2 2 in
      let r : ℕ → M = λ p. of_block N L m x now (p / 4) (p % 4) in
      let block : (j : ℕ) (place : ℕ → ℕ) → ((b : ℕ) → place b ≡ 4 * j + b) → AreReversed K V 2 v (λ b. item V (map m now) (place b)) (λ p. r (place p)) = λ j place at p l.
      let here : place p ≡ 4 * j + p = at p in
      let quotient : place p / 4 ≡ j = omega arith in
      let remainder : place p % 4 ≡ p = omega arith in
      ap₂ (of_block N L m x now) quotient remainder
      ∙ (ap (λ y. of_block N L m y now j p) root
      ∙ sum_below-same V 4 _ _ (λ b s. ap (λ k. V.scale (power K (power K v (reversed 2 p)) b) (item V (map m now) k)) (sym (at b)))) in
      subst (λ j. AreReversedBlocks N L m j w f now) (sym is)
      (two_levels N L 2 4 w tables f (item V (map m now)) r refl t columns
      (block 0 (λ b. b) (λ b. omega arith)) (block 1 (λ b. 4 + b) (λ b. omega arith)) (block 2 (λ b. 8 + b) (λ b. omega arith)) (block 3 (λ b. 12 + b) (λ b. omega arith)))
