-- The field of the numbers below a prime of four words, by its elements.
use Rattle.std.specs.Prelude.{◌≡◌, ℕ, ◌*◌, ◌%◌, ◌^◌, ◌<◌}
use Rattle.std.proofs.Common.{sym, ap, subst, ◌∙◌, mod-lt, le_of_lt, lt_trans, lit<}
use mathlib.Core.HLevel.{is_prop→PathP}
use native.Mathlib.Bridge.{le_prop}
use Rattle.ark_math.specs.Field.{FieldOn}
use Rattle.ark_math.specs.Root.{Adicity, adicity_of}
use Rattle.ark_prime256.specs.Words.{integer, AreWords, words_of}
use Rattle.ark_prime256.specs.WordsLaws.{integer_of_words, are_words_of, same_words}
use Rattle.ark_base.specs.Montgomery.{inverse_of_power, inverse_undoes, form_back, same_forms}
use Rattle.ark_prime256.specs.Modulus256.{IsModulus256}
use Rattle.ark_prime256.specs.Modulus256Laws.{is_odd}
use Rattle.ark_base.specs.Residues.{Numbering, residue_of, residues}
use Rattle.ark_prime256.specs.declared.words.BigInteger256.{BigInteger256}
use Rattle.ark_prime256.specs.declared.prime_field.PrimeField256.{PrimeField256}
use Rattle.ark_prime256.specs.declared.prime_field.PrimeModulus256.{Ghosts}

abbrev pub adicity : {M : Type 0} → Ghosts M → Adicity
adicity g = adicity_of g.TWO_ADICITY g.SMALL_SUBGROUP_BASE g.SMALL_SUBGROUP_BASE_ADICITY

-- what a modulus shows of its constants
abbrev pub Shown : {M : Type 0} → Ghosts M → Type 0
Shown g = IsModulus256 g.MODULUS (adicity g) g.GENERATOR g.TWO_ADIC_ROOT_OF_UNITY g.LARGE_SUBGROUP_ROOT_OF_UNITY g.GREATEST_SIZE g.MODULUS_WORDS g.NEGATED_INVERSE g.R g.R_SQUARED g.GENERATOR_WORDS g.TWO_ADIC_ROOT_WORDS g.LARGE_SUBGROUP_ROOT_WORDS

-- the number below the modulus that an element is: its words are those of this number times 2 ^ 256
unfoldable pub number : {M : Type 0} {g : Ghosts M} → PrimeField256 M g → ℕ
number {g = g} x = (integer x.words * inverse_of_power g.MODULUS 256) % g.MODULUS

-- elements of the same words are one
are_words_prop : (w : BigInteger256) (a b : AreWords w) → a ≡ b
are_words_prop w a b = λ i. record { w0 = le_prop a.w0 b.w0 i; w1 = le_prop a.w1 b.w1 i; w2 = le_prop a.w2 b.w2 i; w3 = le_prop a.w3 b.w3 i }

pub same_by_words : {M : Type 0} {g : Ghosts M} (x y : PrimeField256 M g) → x.words ≡ y.words → x ≡ y
same_by_words {g = g} x y e = λ i. record {
  words = e i;
  marker = x.marker;
  are_words = is_prop→PathP (λ j. AreWords (e j)) (λ j. are_words_prop (e j)) x.are_words y.are_words i;
  reduced = is_prop→PathP (λ j. integer (e j) < g.MODULUS) (λ j. le_prop) x.reduced y.reduced i;
}

-- the form of a number, and that 2 ^ 256 has an inverse
pub form_below : {M : Type 0} (g : Ghosts M) (S : Shown g) (v : ℕ) → (v * 2 ^ 256) % g.MODULUS < g.MODULUS
form_below g S v = mod-lt (v * 2 ^ 256) (le_of_lt S.numbers.prime.above_one)

pub form_fits : {M : Type 0} (g : Ghosts M) (S : Shown g) (v : ℕ) → (v * 2 ^ 256) % g.MODULUS < 2 ^ 256
form_fits g S v = lt_trans (form_below g S v) (lt_trans S.numbers.small (lit< tt))

pub form_is : (p v : ℕ) → integer (words_of ((v * 2 ^ 256) % p)) ≡ (v * 2 ^ 256) % p
form_is p v = integer_of_words ((v * 2 ^ 256) % p)

pub form_reduced : {M : Type 0} (g : Ghosts M) (S : Shown g) (v : ℕ) → integer (words_of ((v * 2 ^ 256) % g.MODULUS)) < g.MODULUS
form_reduced g S v = subst (λ n. n < g.MODULUS) (sym (form_is g.MODULUS v)) (form_below g S v)

pub one_of_power : {M : Type 0} (g : Ghosts M) (S : Shown g) → (2 ^ 256 * inverse_of_power g.MODULUS 256) % g.MODULUS ≡ 1
one_of_power g S = inverse_undoes g.MODULUS 256 S.numbers.prime.above_one (is_odd S)

module _ {M : Type 0} {g : Ghosts M} (S : Shown g) where
  -- a number below the modulus, as an element
  unfoldable pub element : (v : ℕ) → v < g.MODULUS → PrimeField256 M g
  element v h = record {
    words = words_of ((v * 2 ^ 256) % g.MODULUS);
    marker = record {};
    are_words = are_words_of _ (form_fits g S v);
    reduced = form_reduced g S v;
  }

pub number_of_element : {M : Type 0} (g : Ghosts M) (S : Shown g) (v : ℕ) (h : v < g.MODULUS) → number {M = M} {g = g} (element {M = M} {g = g} S v h) ≡ v
unfolding number element
number_of_element {M} g S v h =
    ap (λ n. (n * inverse_of_power g.MODULUS 256) % g.MODULUS) (form_is g.MODULUS v)
    ∙ form_back g.MODULUS (2 ^ 256) (inverse_of_power g.MODULUS 256) v (one_of_power g S) h

module _ {M : Type 0} {g : Ghosts M} (S : Shown g) where
  pub number_below : (x : PrimeField256 M g) → number x < g.MODULUS
  unfolding number
  number_below x = mod-lt _ (le_of_lt S.numbers.prime.above_one)

  pub same_by_number : (x y : PrimeField256 M g) → number x ≡ number y → x ≡ y
  unfolding number
  same_by_number x y e =
      same_by_words x y (same_words x.words y.words x.are_words y.are_words
      (same_forms g.MODULUS (2 ^ 256) (inverse_of_power g.MODULUS 256) (integer x.words) (integer y.words) (one_of_power g S) x.reduced y.reduced e))

  -- the elements are the numbers below the modulus
  abbrev pub numbering : Numbering (PrimeField256 M g) g.MODULUS
  numbering = record { number = number {M = M} {g = g}; element = element {M = M} {g = g} S; below = number_below; number_of = number_of_element g S; same = same_by_number }

  -- the field that a modulus gives
  abbrev pub field_of : FieldOn (PrimeField256 M g)
  field_of = residues numbering S.numbers.prime

  -- the element whose number is 2 ^ 256 modulo p: its multiples' numbers are those of the words
  abbrev pub unit : PrimeField256 M g
  unit = residue_of numbering S.numbers.prime (2 ^ 256)
