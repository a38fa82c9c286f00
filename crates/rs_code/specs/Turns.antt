-- Words of the private steps that look at four places together of which each is a quarter turn of the last.
use Rattle.std.specs.Prelude.{◌≡◌, ℕ, zero, suc, ◌+◌, ◌*◌, ◌%◌, ◌≤◌, ◌<◌, Bool, true, false, List, length, get_or, map, not, ◌++◌, [], ◌∷◌, if◌then◌else◌, Vec}
use Rattle.std.specs.declared.alloc.Global.{Global}
use Rattle.ark_math.specs.Field.{FieldOn, minus, power, product_below}
use Rattle.ark_math.specs.Domain.{Domain, element}
use Rattle.ark_math.specs.Univariate.{of_list}
use Rattle.ark_bit_reversed.specs.Blocks.{AreReversed, IsPowerOfTwo, element_of, size_of}
use Rattle.rs_code.specs.Locator.{locator_at, lost}
use Rattle.rs_code.specs.declared.turns.AtTurns.{AtTurns}
use Rattle.rs_code.specs.declared.turns.PlaceValues.{PlaceValues}

-- which of four places are marked
pub record Four : Type 0 where
  pub first : Bool
  pub second : Bool
  pub third : Bool
  pub fourth : Bool

-- begun at a later one of the four
abbrev pub turned : ℕ → Four → Four
turned zero m = m
turned (suc t) m = turned t (record { first = m.second; second = m.third; third = m.fourth; fourth = m.first })

-- those that aren't
abbrev pub others : Four → Four
others m = record { first = not m.first; second = not m.second; third = not m.third; fourth = not m.fourth }

-- the marked ones in a row from the first on, as many as are told of up to four; or else the first and the third
abbrev pub marked_first : ℕ → Four
marked_first zero = record { first = false; second = false; third = false; fourth = false }
marked_first (suc zero) = record { first = true; second = false; third = false; fourth = false }
marked_first (suc (suc zero)) = record { first = true; second = true; third = false; fourth = false }
marked_first (suc (suc (suc zero))) = record { first = true; second = true; third = true; fourth = false }
marked_first (suc (suc (suc (suc zero)))) = record { first = true; second = true; third = true; fourth = true }
marked_first (suc (suc (suc (suc (suc n))))) = record { first = true; second = false; third = true; fourth = false }

-- a factor where there is a mark, else one
abbrev pub factor : {F : Type 0} → FieldOn F → Bool → F → F
factor K mark x = if mark then x else K.one

-- the marks of the places j, j + q, j + 2 * q and j + 3 * q
abbrev pub four : List Bool → ℕ → ℕ → Four
four marks q j = record {
  first = get_or marks j true;
  second = get_or marks (j + q) true;
  third = get_or marks (j + q + q) true;
  fourth = get_or marks (j + q + q + q) true;
}

-- the product of x - r for the elements r at those of the four places that are marked
abbrev pub over_four : {F : Type 0} → FieldOn F → Domain F → Four → ℕ → ℕ → F → F
over_four K d m q j x =
    K.times (factor K m.first (minus K x (element K d j)))
    (K.times (factor K m.second (minus K x (element K d (j + q))))
    (K.times (factor K m.third (minus K x (element K d (j + q + q))))
    (factor K m.fourth (minus K x (element K d (j + q + q + q))))))

-- Places sorted by how they and their quarter turns are erased: for each four one root, in the list of its pattern.
pub record Sorted (F : Type 0) : Type 0 where
  -- the first of one, two or three erased ones in a row
  pub one : List F
  pub two : List F
  pub three : List F
  -- the square of two erased ones that are opposite, and the fourth power where all are erased, or none
  pub opposite : List F
  pub all : List F
  pub none : List F
  -- what the products of values are to be multiplied by
  pub erased_scale : F
  pub kept_scale : F

-- the product of x - r over the erased places, from the lists; w is a quarter turn
abbrev pub over_erased : {F : Type 0} → FieldOn F → F → Sorted F → F → F
over_erased K w s x =
    K.times s.erased_scale
    (K.times (locator_at K s.one x)
    (K.times (K.times (locator_at K s.two x) (locator_at K s.two (K.negated (K.times w x))))
    (K.times (K.times (locator_at K s.three x) (K.times (locator_at K s.three (K.negated (K.times w x))) (locator_at K s.three (K.negated x))))
    (K.times (locator_at K s.opposite (K.times x x)) (locator_at K s.all (K.times (K.times x x) (K.times x x)))))))

-- and over the kept ones
abbrev pub over_kept : {F : Type 0} → FieldOn F → F → Sorted F → F → F
over_kept K w s x =
    K.times s.kept_scale
    (K.times (K.times (locator_at K s.one (K.negated (K.times w x))) (K.times (locator_at K s.one (K.negated x)) (locator_at K s.one (K.times w x))))
    (K.times (K.times (locator_at K s.two (K.negated x)) (locator_at K s.two (K.times w x)))
    (K.times (locator_at K s.three (K.times w x))
    (K.times (locator_at K s.opposite (K.negated (K.times x x))) (locator_at K s.none (K.times (K.times x x) (K.times x x)))))))

-- the lists with one more root r, of four places of which so many in a row are erased from r on; w is a quarter turn
abbrev pub pushed : {F : Type 0} → FieldOn F → F → ℕ → F → Sorted F → Sorted F
pushed K w zero r s = record s { none = s.none ++ K.times (K.times r r) (K.times r r) ∷ [] }
pushed K w (suc zero) r s = record s { one = s.one ++ r ∷ []; kept_scale = K.negated s.kept_scale }
pushed K w (suc (suc zero)) r s = record s { two = s.two ++ r ∷ []; erased_scale = K.times s.erased_scale w; kept_scale = K.times s.kept_scale w }
pushed K w (suc (suc (suc zero))) r s = record s {
  three = s.three ++ r ∷ [];
  erased_scale = K.negated (K.times s.erased_scale w);
  kept_scale = K.negated (K.times s.kept_scale w);
}
pushed K w (suc (suc (suc (suc zero)))) r s = record s { all = s.all ++ K.times (K.times r r) (K.times r r) ∷ [] }
pushed K w (suc (suc (suc (suc (suc n))))) r s = record s { opposite = s.opposite ++ K.times r r ∷ []; kept_scale = K.negated s.kept_scale }

-- none yet
abbrev pub nothing_sorted : {F : Type 0} → FieldOn F → Sorted F
nothing_sorted K = record { one = []; two = []; three = []; opposite = []; all = []; none = []; erased_scale = K.one; kept_scale = K.one }

-- a value with so many signs
abbrev pub alternating : {F : Type 0} → FieldOn F → ℕ → F → F
alternating K zero x = x
alternating K (suc n) x = K.negated (alternating K n x)

-- the lists of roots by the numbers of their patterns: so many erased ones in a row, and two that are opposite
abbrev pub roots_of : {F : Type 0} → List (Vec F Global) → ℕ → List F
roots_of lists p = get_or (map (λ v. v.items) lists) p []

-- from the roots of each pattern; w is a quarter turn
abbrev pub finished : {F : Type 0} → FieldOn F → F → List F → List F → List F → List F → List F → List F → Sorted F
finished K w none one two three all opposite = record {
  one = one;
  two = two;
  three = three;
  opposite = map (λ r. K.times r r) opposite;
  all = map (λ r. K.times r r) (map (λ r. K.times r r) all);
  none = map (λ r. K.times r r) (map (λ r. K.times r r) none);
  erased_scale = alternating K (length three) (power K w (length two + length three));
  kept_scale = alternating K (length one + length three + length opposite) (power K w (length two + length three));
}

-- from the lists of the patterns
abbrev pub finished_from : {F : Type 0} → FieldOn F → F → List (Vec F Global) → Sorted F
finished_from K w lists = finished K w (roots_of lists 0) (roots_of lists 1) (roots_of lists 2) (roots_of lists 3) (roots_of lists 4) (roots_of lists 5)

-- lists of at most n roots
pub record AreWithin {F : Type 0} (n : ℕ) (s : Sorted F) : Type 0 where
  pub one : length s.one ≤ n
  pub two : length s.two ≤ n
  pub three : length s.three ≤ n
  pub opposite : length s.opposite ≤ n
  pub all : length s.all ≤ n
  pub none : length s.none ≤ n

-- the lists of the fours that begin below j
pub record AreSortedBelow {F : Type 0} (K : FieldOn F) (d : Domain F) (q : ℕ) (marks : List Bool) (j : ℕ) (s : Sorted F) : Type 0 where
  pub within : AreWithin j s
  pub erased : (x : F) → over_erased K (element K d q) s x ≡ product_below K j (λ i. over_four K d (four marks q i) q i x)
  pub kept : (x : F) → over_kept K (element K d q) s x ≡ product_below K j (λ i. over_four K d (others (four marks q i)) q i x)

-- which places the sorted lists stand for
pub record AreSorted {F : Type 0} (K : FieldOn F) (d : Domain F) (q : ℕ) (marks : List Bool) (s : Sorted F) : Type 0 where
  pub within : AreWithin q s
  pub erased : (x : F) → over_erased K (element K d q) s x ≡ locator_at K (lost K d marks) x
  pub kept : (x : F) → over_kept K (element K d q) s x ≡ locator_at K (lost K d (map not marks)) x

abbrev pub product_of_eight : {F : Type 0} → FieldOn F → F → F → F → F → F → F → F → F → F
product_of_eight K a b c d e f g h = K.times (K.times (K.times a b) (K.times c d)) (K.times (K.times e f) (K.times g h))

-- which of four neighbours in a table is the first one after t quarter turns: they are x, -x, w * x and -w * x
abbrev pub turn_place : ℕ → ℕ
turn_place zero = 0
turn_place (suc zero) = 2
turn_place (suc (suc zero)) = 1
turn_place (suc (suc (suc t))) = 3

-- the value there, of the four of index k of a list
abbrev pub at_turn : {F : Type 0} → FieldOn F → List F → ℕ → ℕ → F
at_turn K v k t = of_list K v (4 * k + turn_place (t % 4))

-- the values of the products over sorted lists at elements of a table
pub record Values (F : Type 0) : Type 0 where
  pub one : List F
  pub two : List F
  pub three : List F
  pub opposite : List F
  pub all : List F
  pub none : List F

-- of which each four places have four, two of squares and one of fourth powers
pub record AreForFours {F : Type 0} (q : ℕ) (v : Values F) : Type 0 where
  pub one : length v.one ≡ 4 * q
  pub two : length v.two ≡ 4 * q
  pub three : length v.three ≡ 4 * q
  pub opposite : length v.opposite ≡ 2 * q
  pub all : length v.all ≡ q
  pub none : length v.none ≡ q

-- the factor of a kept place that is t quarter turns after the first of four, from the values of the four, whose index is k
abbrev pub kept_from : {F : Type 0} → FieldOn F → Values F → ℕ → ℕ → F
kept_from K v k t =
    product_of_eight K (of_list K v.all k) (of_list K v.opposite (2 * k + t % 2))
    (at_turn K v.one k t)
    (at_turn K v.two k t) (at_turn K v.two k (t + 3))
    (at_turn K v.three k t) (at_turn K v.three k (t + 3)) (at_turn K v.three k (t + 2))

-- and of an erased one
abbrev pub erased_from : {F : Type 0} → FieldOn F → Values F → ℕ → ℕ → F
erased_from K v k t =
    product_of_eight K (of_list K v.none k) (of_list K v.opposite (2 * k + (t + 1) % 2))
    (at_turn K v.one k (t + 3)) (at_turn K v.one k (t + 2)) (at_turn K v.one k (t + 1))
    (at_turn K v.two k (t + 2)) (at_turn K v.two k (t + 1))
    (at_turn K v.three k (t + 1))

-- y is the factor of the place, which may be marked
pub record IsMadeOf {F : Type 0} (K : FieldOn F) (v : Values F) (k t : ℕ) (mark : Bool) (y : F) : Type 0 where
  pub kept : mark ≡ false → y ≡ kept_from K v k t
  pub erased : mark ≡ true → y ≡ erased_from K v k t

-- a table of a subgroup's elements in bit-reversed order
pub record IsTableOf {F : Type 0} (K : FieldOn F) (d : Domain F) (table : List F) : Type 0 where
  pub size : size_of table ≡ d.size
  pub power : IsPowerOfTwo d.size
  pub reversed : AreReversed K d.size (element_of K table)
  pub next : (i : ℕ) → i < length table → element_of K table (length table + i) ≡ K.times (element_of K table i) d.root

-- what the values are: those over squares at as many elements as there are of these, and so over fourth powers; inverse is
-- that of the domain's size
pub record HoldValues {F : Type 0} (K : FieldOn F) (table : List F) (q : ℕ) (s : Sorted F) (inverse : F) (v : Values F) : Type 0 where
  pub one_is : (i : ℕ) → i < 4 * q → of_list K v.one i ≡ locator_at K s.one (element_of K table i)
  pub two_is : (i : ℕ) → i < 4 * q → of_list K v.two i ≡ locator_at K s.two (element_of K table i)
  pub three_is : (i : ℕ) → i < 4 * q → of_list K v.three i ≡ locator_at K s.three (element_of K table i)
  pub opposite_is : (i : ℕ) → i < 2 * q → of_list K v.opposite i ≡ locator_at K s.opposite (element_of K table i)
  pub all_is : (i : ℕ) → i < q → of_list K v.all i ≡ K.times (locator_at K s.all (element_of K table i)) s.erased_scale
  pub none_is : (i : ℕ) → i < q → of_list K v.none i ≡ K.times (locator_at K s.none (element_of K table i)) (K.times s.kept_scale inverse)

-- a list's values at the place t quarter turns after the first of the four of index k, and at its own turns
pub record AreAtTurns {F : Type 0} (K : FieldOn F) (v : List F) (k t : ℕ) (a : AtTurns F) : Type 0 where
  pub here_is : a.here ≡ at_turn K v k t
  pub ahead_is : a.ahead ≡ at_turn K v k (t + 1)
  pub over_is : a.over ≡ at_turn K v k (t + 2)
  pub back_is : a.back ≡ at_turn K v k (t + 3)

-- all values that a place's factor is made of
pub record ArePlaceValues {F : Type 0} (K : FieldOn F) (v : Values F) (k t : ℕ) (p : PlaceValues F) : Type 0 where
  pub one_are : AreAtTurns K v.one k t p.one
  pub two_are : AreAtTurns K v.two k t p.two
  pub three_are : AreAtTurns K v.three k t p.three
  pub opposite_is : p.opposite ≡ of_list K v.opposite (2 * k + t % 2)
  pub ahead_is : p.opposite_ahead ≡ of_list K v.opposite (2 * k + (t + 1) % 2)
  pub all_is : p.all ≡ of_list K v.all k
  pub none_is : p.none ≡ of_list K v.none k

-- q has the values of the place a quarter turn ahead of that of p
abbrev pub IsPlaceAhead : {F : Type 0} → FieldOn F → PlaceValues F → PlaceValues F → Type 0
IsPlaceAhead {F} K p q = (v : Values F) (k t : ℕ) → ArePlaceValues K v k t p → ArePlaceValues K v k (t + 1) q

-- y is the factor of the place, which may be marked, by its values
abbrev pub IsFactorFrom : {F : Type 0} → FieldOn F → PlaceValues F → Bool → F → Type 0
IsFactorFrom {F} K p mark y = (v : Values F) (k t : ℕ) → ArePlaceValues K v k t p → IsMadeOf K v k t mark y

-- the factors of the first n places of a quarter, t turns after the first one, are put in a list
pub record AreMadeBelow {F : Type 0} (K : FieldOn F) (v : Values F) (fours : List ℕ) (marks : List Bool) (t n : ℕ) (factors : List F) : Type 0 where
  pub made : (j : ℕ) → j < n → IsMadeOf K v (get_or fours j 0) t (get_or marks (t * length fours + j) true) (of_list K factors j)
