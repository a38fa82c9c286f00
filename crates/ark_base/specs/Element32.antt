-- The field of the numbers below a prime of 31 bits, by its elements.
use Rattle.std.specs.Prelude.{◌≡◌, ℕ, ◌*◌, ◌%◌, ◌^◌, ◌<◌}
use Rattle.std.proofs.Common.{mod-lt, le_of_lt}
use mathlib.Core.HLevel.{is_prop→PathP}
use native.Mathlib.Bridge.{le_prop}
use Rattle.ark_math.specs.Field.{FieldOn}
use Rattle.ark_math.specs.Root.{Adicity, adicity_of}
use Rattle.ark_base.specs.Montgomery.{inverse_of_power, inverse_undoes, form_back, same_forms}
use Rattle.ark_base.specs.Modulus32.{IsModulus32}
use Rattle.ark_base.specs.Modulus32Laws.{is_odd}
use Rattle.ark_base.specs.Residues.{Numbering, residue_of, residues}
use Rattle.ark_base.specs.declared.prime_field32.PrimeField32.{PrimeField32}
use Rattle.ark_base.specs.declared.prime_field32.PrimeModulus32.{Ghosts}

abbrev pub adicity : {M : Type 0} → Ghosts M → Adicity
adicity g = adicity_of g.TWO_ADICITY g.SMALL_SUBGROUP_BASE g.SMALL_SUBGROUP_BASE_ADICITY

-- what a modulus shows of its constants
abbrev pub Shown : {M : Type 0} → Ghosts M → Type 0
Shown g = IsModulus32 g.MODULUS (adicity g) g.GENERATOR g.TWO_ADIC_ROOT_OF_UNITY g.LARGE_SUBGROUP_ROOT_OF_UNITY g.GREATEST_SIZE g.NEGATED_INVERSE

-- the number below the modulus that an element is: its word is this number times 2 ^ 32
unfoldable pub number : {M : Type 0} {g : Ghosts M} → PrimeField32 M g → ℕ
number {g = g} x = (x.word * inverse_of_power g.MODULUS 32) % g.MODULUS

-- elements of one word are one
pub same_by_word : {M : Type 0} {g : Ghosts M} (x y : PrimeField32 M g) → x.word ≡ y.word → x ≡ y
same_by_word {g = g} x y e = λ i. record {
  word = e i;
  marker = x.marker;
  reduced = is_prop→PathP (λ j. e j < g.MODULUS) (λ j. le_prop) x.reduced y.reduced i;
}

-- 2 ^ 32 has an inverse
pub one_of_power : {M : Type 0} (g : Ghosts M) (S : Shown g) → (2 ^ 32 * inverse_of_power g.MODULUS 32) % g.MODULUS ≡ 1
one_of_power g S = inverse_undoes g.MODULUS 32 S.numbers.prime.above_one (is_odd S)

-- a number below the modulus, as an element
unfoldable pub element : {M : Type 0} {g : Ghosts M} → Shown g → (v : ℕ) → v < g.MODULUS → PrimeField32 M g
element {g = g} S v l = record {
  word = (v * 2 ^ 32) % g.MODULUS;
  marker = record {};
  reduced = mod-lt (v * 2 ^ 32) (le_of_lt S.numbers.prime.above_one);
}

pub number_of_element : {M : Type 0} (g : Ghosts M) (S : Shown g) (v : ℕ) (l : v < g.MODULUS) → number {M = M} {g = g} (element {M = M} {g = g} S v l) ≡ v
unfolding number element
number_of_element g S v l = form_back g.MODULUS (2 ^ 32) (inverse_of_power g.MODULUS 32) v (one_of_power g S) l

module _ {M : Type 0} {g : Ghosts M} (S : Shown g) where
  pub number_below : (x : PrimeField32 M g) → number x < g.MODULUS
  unfolding number
  number_below x = mod-lt _ (le_of_lt S.numbers.prime.above_one)

  pub same_by_number : (x y : PrimeField32 M g) → number x ≡ number y → x ≡ y
  unfolding number
  same_by_number x y e =
      same_by_word x y (same_forms g.MODULUS (2 ^ 32) (inverse_of_power g.MODULUS 32) x.word y.word (one_of_power g S) x.reduced y.reduced e)

  -- the elements are the numbers below the modulus
  abbrev pub numbering : Numbering (PrimeField32 M g) g.MODULUS
  numbering = record { number = number; element = element {M = M} {g = g} S; below = number_below; number_of = number_of_element g S; same = same_by_number }

  -- the field that a modulus gives
  abbrev pub field_of : FieldOn (PrimeField32 M g)
  field_of = residues numbering S.numbers.prime

  -- the element whose number is 2 ^ 32 modulo p: its multiples' numbers are the words
  abbrev pub unit : PrimeField32 M g
  unit = residue_of numbering S.numbers.prime (2 ^ 32)
