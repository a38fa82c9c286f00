-- A subgroup's elements in bit-reversed order, and the values of polynomials over runs of them.
use Rattle.std.specs.Prelude.{◌≡◌, ℕ, suc, ◌+◌, ◌/◌, ◌%◌, ◌^◌, ◌<◌, ◌==◌, List, length, if◌then◌else◌}
use Rattle.ark_math.specs.Field.{FieldOn, minus}
use Rattle.ark_math.specs.Univariate.{IsValue, of_list}

-- x 0, .., x (n - 1): one, and then of each two the square roots of an earlier one, the second minus the first
pub record AreReversed {F : Type 0} (K : FieldOn F) (n : ℕ) (x : ℕ → F) : Type 0 where
  pub first : x 0 ≡ K.one
  pub squares : (i : ℕ) → i < n → K.times (x i) (x i) ≡ x (i / 2)
  pub opposites : (b : ℕ) → suc (b + b) < n → x (suc (b + b)) ≡ K.negated (x (b + b))

-- a list has the first of each two of these elements
pub record AreRoots {F : Type 0} (K : FieldOn F) (x : ℕ → F) (roots : List F) : Type 0 where
  pub reversed : AreReversed K (length roots + length roots) x
  pub each : (b : ℕ) → b < length roots → of_list K roots b ≡ x (b + b)

-- a list has their inverses
pub record AreInverseRoots {F : Type 0} (K : FieldOn F) (x : ℕ → F) (inverses : List F) : Type 0 where
  pub reversed : AreReversed K (length inverses + length inverses) x
  pub each : (b : ℕ) → b < length inverses → K.times (of_list K inverses b) (x (b + b)) ≡ K.one

-- v has the values of a at n of the elements, from a start on
pub record AreValuesFrom {F : Type 0} (K : FieldOn F) (x : ℕ → F) (start n : ℕ) (a : ℕ → F) (v : List F) : Type 0 where
  pub len : length v ≡ n
  pub values : (i : ℕ) → i < n → IsValue K a (x (start + i)) (of_list K v i)

-- a power of two
abbrev pub IsPowerOfTwo : ℕ → Type 0
IsPowerOfTwo n = (levels : ℕ) × (n ≡ 2 ^ levels)

-- the elements that a list of the first of each two gives
abbrev pub element_of : {F : Type 0} → FieldOn F → List F → ℕ → F
element_of K roots i = if i % 2 == 0 then of_list K roots (i / 2) else K.negated (of_list K roots (i / 2))

-- the values of a at the first n of these
abbrev pub AreFirstValues : {F : Type 0} → FieldOn F → List F → ℕ → (ℕ → F) → List F → Type 0
AreFirstValues K roots n a v = AreValuesFrom K (element_of K roots) 0 n a v

-- and how many
abbrev pub size_of : {F : Type 0} → List F → ℕ
size_of roots = length roots + length roots

-- what a table keeps: roots, their inverses and that of two
pub record AreTables {F : Type 0} (K : FieldOn F) (table inverses : List F) (half : F) : Type 0 where
  pub roots : AreRoots K (element_of K table) table
  pub power : IsPowerOfTwo (length table)
  pub fits : size_of table < 2 ^ 64
  pub inverse : AreInverseRoots K (element_of K table) inverses
  pub same : length inverses ≡ length table
  pub half_of : K.times (K.plus K.one K.one) half ≡ K.one

-- e, f, g and h are what a, b, c and d turn into by two levels of butterflies, the first with the root t, the second with
-- u and v
pub record AreTurned {F : Type 0} (K : FieldOn F) (t u v a b c d e f g h : F) : Type 0 where
  pub first : e ≡ K.plus (K.plus a (K.times t c)) (K.times u (K.plus b (K.times t d)))
  pub second : f ≡ minus K (K.plus a (K.times t c)) (K.times u (K.plus b (K.times t d)))
  pub third : g ≡ K.plus (minus K a (K.times t c)) (K.times v (minus K b (K.times t d)))
  pub fourth : h ≡ minus K (minus K a (K.times t c)) (K.times v (minus K b (K.times t d)))

-- and back, by inverses of these roots: then each of the four is twice two times what it was
pub record AreTurnedBack {F : Type 0} (K : FieldOn F) (t u v a b c d e f g h : F) : Type 0 where
  pub first : e ≡ K.plus (K.plus a b) (K.plus c d)
  pub second : f ≡ K.plus (K.times u (minus K a b)) (K.times v (minus K c d))
  pub third : g ≡ K.times t (minus K (K.plus a b) (K.plus c d))
  pub fourth : h ≡ K.times t (minus K (K.times u (minus K a b)) (K.times v (minus K c d)))
