-- Which element of a subgroup a table in bit-reversed order has at a place.
use Rattle.std.proofs.Common.{◌≡◌, ℕ, zero, suc, ◌+◌, ◌*◌, ◌/◌, ◌%◌, ◌^◌, ◌<◌, ◌≤◌, List, length, get_or, sym, ◌∙◌, ap, ap₂, refl, subst, ⊎_elim, arith}
use Rattle.std.proofs.Math.Nat.{mul-le-mul_right}
use Rattle.std.proofs.lemmas.Bool.{cases_lt}
use Rattle.ark_math.specs.Field.{FieldOn, IsField, power}
use Rattle.ark_math.specs.Domain.{Domain, element}
use Rattle.ark_math.proofs.Algebra.Powers.{power-mul}
use Rattle.ark_math.proofs.Algebra.Solve.{◌⊗◌, unit}
use Rattle.ark_math.proofs.Algebra.Ring.{ring2}
use Rattle.ark_bit_reversed.specs.Blocks.{IsPowerOfTwo, element_of}
use Rattle.ark_math_transforms.specs.BitReversal.{reversed}
use Rattle.ark_math_transforms.proofs.Numbers.BitReversal.{reversed_low, reversed_high, reversed_even, reversed_odd, reversed_below, reversed_lowest}
use Rattle.ark_math.proofs.Numbers.PowersOfTwo.{pow_twice}
use Rattle.rs_code.specs.Turns.{IsTableOf, turn_place}

-- ---- places

-- an index's bits backwards, from those of half of it
pub reversed_next : (n levels i : ℕ) → n ≡ 2 ^ levels → 0 < i → i < n → reversed levels i ≡ i % 2 * (n / 2) + reversed levels (i / 2) / 2
reversed_next n zero i e pos l = absurd (omega (arith, e, pos, l))
reversed_next n (suc levels) i e pos l =
    let half : 2 ^ levels ≡ n / 2 = omega (arith, e, pow_twice levels) in
    let low = reversed_low levels (i / 2) (omega (arith, e, l, pow_twice levels)) in
    let twice : reversed levels (i / 2) ≡ reversed (suc levels) (i / 2) / 2 = omega (arith, low) in
    reversed_lowest levels i (omega (arith, e, l)) ∙ ap₂ (λ s t. i % 2 * s + t) half twice

-- a place of the quarter t
reversed_turn : (l t j i : ℕ) → t < 4 → j < 2 ^ l → i ≡ t * 2 ^ l + j → reversed (suc (suc l)) i ≡ 4 * reversed l j + turn_place t
reversed_turn l zero j i b h e =
    let same : i ≡ j = omega (arith, e) in
    ap (reversed (suc (suc l))) same ∙ omega (arith, reversed_low (suc l) j (omega (arith, h, pow_twice l)), reversed_low l j h)
reversed_turn l (suc zero) j i b h e =
    omega (arith, reversed_low (suc l) i (omega (arith, e, h, pow_twice l)), reversed_high l j i (omega (arith, e)))
reversed_turn l (suc (suc zero)) j i b h e =
    omega (arith, reversed_high (suc l) j i (omega (arith, e, pow_twice l)), reversed_low l j h)
reversed_turn l (suc (suc (suc zero))) j i b h e =
    omega (arith, reversed_high (suc l) (2 ^ l + j) i (omega (arith, e, pow_twice l)), reversed_high l j (2 ^ l + j) refl)
reversed_turn l (suc (suc (suc (suc t)))) j i b h e = absurd (omega (arith, b))

pub turn_place_less : (t : ℕ) → turn_place t < 4
turn_place_less zero = omega arith
turn_place_less (suc zero) = omega arith
turn_place_less (suc (suc zero)) = omega arith
turn_place_less (suc (suc (suc t))) = omega arith

-- after as many turns as the place of a turn is that turn's
turn_place-twice : (t : ℕ) → t < 4 → turn_place (turn_place t) ≡ t
turn_place-twice zero l = refl
turn_place-twice (suc zero) l = refl
turn_place-twice (suc (suc zero)) l = refl
turn_place-twice (suc (suc (suc zero))) l = refl
turn_place-twice (suc (suc (suc (suc t)))) l = absurd (omega (arith, l))

-- bits backwards are of the same length
pub four_below : (fours : List ℕ) → IsPowerOfTwo (length fours) → ((levels j : ℕ) → length fours ≡ 2 ^ levels → j < length fours → get_or fours j 0 ≡ reversed levels j) →
    (j : ℕ) → j < length fours → get_or fours j 0 < length fours
four_below fours (l, e) places j b = omega (arith, places l j e b, reversed_below l j (omega (arith, b, e)), e)

-- a power of two has quarters
pub quarter_of : (n m : ℕ) → n ≡ m → IsPowerOfTwo m → 256 ≤ m → (l : ℕ) × (n / 4 ≡ 2 ^ l) × (4 * (n / 4) ≡ n)
quarter_of n m same (zero, e) many = absurd (omega (arith, e, many))
quarter_of n m same (suc zero, e) many = absurd (omega (arith, e, many, pow_twice 0))
quarter_of n m same (suc (suc l), e) many = (l, omega (arith, same, e, pow_twice l, pow_twice (suc l)), omega (arith, same, e, pow_twice l, pow_twice (suc l)))

-- ---- elements

module _ {F : Type 0} (K : FieldOn F) (N : IsField K) (x : ℕ → F) where
  even_power : (l k : ℕ) (w : F) → k < 2 ^ l → x (reversed l k) ≡ power K (power K w 2) k → x (reversed (suc l) (2 * k)) ≡ power K w (2 * k)
  even_power l k w h e = ap x (reversed_even l k h) ∙ e ∙ sym (power-mul K N w 2 k)

  odd_power : (l k : ℕ) (w : F) → k < 2 ^ l → ((i : ℕ) → i < 2 ^ l → x (2 ^ l + i) ≡ K.times (x i) w) → x (reversed l k) ≡ power K (power K w 2) k →
      x (reversed (suc l) (2 * k + 1)) ≡ power K w (2 * k + 1)
  odd_power l k w h next e =
      let more : suc (2 * k) ≡ 2 * k + 1 = omega arith in
      ap x (reversed_odd l k h) ∙ next (reversed l k) (reversed_below l k h)
      ∙ ap (λ t. K.times t w) (e ∙ sym (power-mul K N w 2 k)) ∙ N.times_comm (power K w (2 * k)) w
      ∙ ap (power K w) more

  by_halves : (l i : ℕ) (w : F) → i < 2 ^ suc l → ((k : ℕ) → k < 2 ^ l → x (2 ^ l + k) ≡ K.times (x k) w) → ((k : ℕ) → k < 2 ^ l → x (reversed l k) ≡ power K (power K w 2) k) →
      x (reversed (suc l) i) ≡ power K w i
  by_halves l i w h next halves =
      let k = i / 2 in
      let b : k < 2 ^ l = omega (arith, h, pow_twice l) in
      ⊎_elim
      (λ (low : i % 2 < 1). let e : 2 * k ≡ i = omega (arith, low) in subst (λ t. x (reversed (suc l) t) ≡ power K w t) e (even_power l k w b (halves k b)))
      (λ (high : 1 ≤ i % 2). let e : 2 * k + 1 ≡ i = omega (arith, high) in subst (λ t. x (reversed (suc l) t) ≡ power K w t) e (odd_power l k w b next (halves k b)))
      (cases_lt (i % 2) 1)

  -- where each of the second half is one of the first times w, the elements are the powers of w
  pub power_at : (l : ℕ) (w : F) → x 0 ≡ K.one → ((i : ℕ) → i < 2 ^ suc l → K.times (x i) (x i) ≡ x (i / 2)) → ((i : ℕ) → i < 2 ^ l → x (2 ^ l + i) ≡ K.times (x i) w) →
      (i : ℕ) → i < 2 ^ suc l → x (reversed (suc l) i) ≡ power K w i
  power_at zero w first squares next i h = by_halves zero i w h next (λ k b. let e : k ≡ 0 = omega (arith, b) in first ∙ sym (ap (power K (power K w 2)) e))
  power_at (suc l) w first squares next i h =
      by_halves (suc l) i w h next
      (power_at l (power K w 2) first (λ k b. squares k (omega (arith, b, pow_twice (suc l))))
      (λ k b.
      let upper : (2 ^ suc l + 2 * k) / 2 ≡ 2 ^ l + k = omega (arith, pow_twice l) in
      let lower : 2 * k / 2 ≡ k = omega arith in
      sym (squares (2 ^ suc l + 2 * k) (omega (arith, b, pow_twice l, pow_twice (suc l))) ∙ ap x upper)
      ∙ ap (λ t. K.times t t) (next (2 * k) (omega (arith, b, pow_twice l)))
      ∙ ring2 K N (λ y w. ((y ⊗ w) ⊗ (y ⊗ w), (y ⊗ y) ⊗ (w ⊗ (w ⊗ unit)))) refl (x (2 * k)) w
      ∙ ap (λ t. K.times t (power K w 2)) (squares (2 * k) (omega (arith, b, pow_twice l, pow_twice (suc l))) ∙ ap x lower)))

module _ {F : Type 0} (K : FieldOn F) (N : IsField K) (d : Domain F) (one : d.offset ≡ K.one) (table : List F) (T : IsTableOf K d table) where
  pub element_at : (l i : ℕ) → d.size ≡ 2 ^ suc l → i < d.size → element_of K table (reversed (suc l) i) ≡ element K d i
  element_at l i size h =
      let half : length table ≡ 2 ^ l = omega (arith, T.size, size, pow_twice l) in
      let p = power K d.root i in
      power_at K N (element_of K table) l d.root T.reversed.first
      (λ k b. T.reversed.squares k (omega (arith, b, size)))
      (λ k b. ap (λ m. element_of K table (m + k)) (sym half) ∙ T.next k (omega (arith, b, half)))
      i (omega (arith, h, size))
      ∙ sym (ap (λ t. K.times t p) one ∙ N.times_comm K.one p ∙ N.times_one p)

  module _ (l : ℕ) (size : d.size ≡ 2 ^ suc (suc l)) (j : ℕ) (inside : j < 2 ^ l) where
    -- the four of an index are quarter turns of one another
    pub turn_element : (t : ℕ) → t < 4 → (i : ℕ) → i ≡ t * 2 ^ l + j → i < d.size → element_of K table (4 * reversed l j + turn_place t) ≡ element K d i
    turn_element t b i e h = ap (element_of K table) (sym (reversed_turn l t j i b inside e)) ∙ element_at (suc l) i size h

    -- the one at a place of theirs
    pub row_element : (q place : ℕ) → q ≡ 2 ^ l → place < 4 → element_of K table (4 * reversed l j + place) ≡ element K d (j + turn_place place * q)
    row_element q place e b =
        let t = turn_place place in
        let h : t < 4 = turn_place_less place in
        let m : t * q ≤ 3 * q = mul-le-mul_right q (omega (arith, h)) in
        let i_is : j + t * q ≡ t * 2 ^ l + j = ap (λ n. j + t * n) e ∙ omega arith in
        ap (λ p. element_of K table (4 * reversed l j + p)) (sym (turn_place-twice place b))
        ∙ turn_element t h (j + t * q) i_is (omega (arith, m, inside, e, size, pow_twice l, pow_twice (suc l)))

    fits_turn : (t : ℕ) → 4 * reversed l j + turn_place t < d.size
    fits_turn t = omega (arith, turn_place_less t, reversed_below l j inside, size, pow_twice l, pow_twice (suc l))

    -- earlier ones are squares, and fourth powers
    pub turn_square : (s : ℕ) → s < 2 → (i : ℕ) → i ≡ s * 2 ^ l + j → i < d.size → element_of K table (2 * reversed l j + s) ≡ K.times (element K d i) (element K d i)
    turn_square s b i e h =
        sym (ap (λ y. K.times y y) (sym (turn_element s (omega (arith, b)) i e h)) ∙ T.reversed.squares (4 * reversed l j + turn_place s) (fits_turn s) ∙ ap (element_of K table) (half s b))
      where
        half : (s : ℕ) → s < 2 → (4 * reversed l j + turn_place s) / 2 ≡ 2 * reversed l j + s
        half zero b = omega arith
        half (suc zero) b = omega arith
        half (suc (suc s)) b = absurd (omega (arith, b))

    pub turn_fourth : element_of K table (reversed l j) ≡ K.times (K.times (element K d j) (element K d j)) (K.times (element K d j) (element K d j))
    turn_fourth =
        let r = reversed l j in
        let e : 2 * r / 2 ≡ r = omega arith in
        let f : 2 * r ≡ 2 * r + 0 = omega arith in
        let b : 2 * r < d.size = omega (arith, fits_turn 0) in
        let h : j < d.size = omega (arith, inside, size, pow_twice l, pow_twice (suc l)) in
        sym (T.reversed.squares (2 * r) b ∙ ap (element_of K table) e)
        ∙ ap (λ y. K.times y y) (ap (element_of K table) f ∙ turn_square 0 (omega arith) j (omega arith) h)
