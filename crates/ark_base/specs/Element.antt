-- The field of the numbers below a prime of one word, by its elements.
use Rattle.std.specs.Prelude.{◌≡◌, ℕ, ◌<◌}
use Rattle.std.proofs.Common.{Option, refl}
use mathlib.Core.HLevel.{is_prop→PathP}
use native.Mathlib.Bridge.{le_prop}
use Rattle.ark_math.specs.Field.{FieldOn}
use Rattle.ark_math.specs.Prime.{IsPrime}
use Rattle.ark_math.specs.Root.{Adicity, adicity_of}
use Rattle.ark_base.specs.Modulus.{IsModulus}
use Rattle.ark_base.specs.Residues.{Numbering, residues}
use Rattle.ark_base.specs.Residues as of
use Rattle.ark_base.specs.declared.prime_field.PrimeField.{PrimeField}
use Rattle.ark_base.specs.declared.prime_field.PrimeModulus.{Ghosts}

-- a number below the modulus, as an element
abbrev pub residue : {M : Type 0} {g : Ghosts M} (v : ℕ) → v < g.MODULUS → PrimeField M g
residue v h = record { value = v; marker = record {}; reduced = h }

-- the number below the modulus that an element is
abbrev pub number : {M : Type 0} {g : Ghosts M} → PrimeField M g → ℕ
number x = x.value

-- elements of one number are one
pub same_from_value : {M : Type 0} {g : Ghosts M} (x y : PrimeField M g) → x.value ≡ y.value → x ≡ y
same_from_value {g = g} x y e = λ i. record {
  value = e i;
  marker = x.marker;
  reduced = is_prop→PathP (λ j. e j < g.MODULUS) (λ j. le_prop) x.reduced y.reduced i;
}

-- the elements are the numbers below the modulus
abbrev pub numbering : {M : Type 0} {g : Ghosts M} → Numbering (PrimeField M g) g.MODULUS
numbering = record { number = number; element = residue; below = λ x. x.reduced; number_of = λ v h. refl; same = same_from_value }

-- the element that a number leaves as its remainder
abbrev pub residue_of : {M : Type 0} {g : Ghosts M} → IsPrime g.MODULUS → ℕ → PrimeField M g
residue_of P v = of.residue_of numbering P v

-- sums, products and negatives modulo the prime
abbrev pub prime_field : {M : Type 0} {g : Ghosts M} → IsPrime g.MODULUS → FieldOn (PrimeField M g)
prime_field P = residues numbering P

abbrev pub adicity : {M : Type 0} → Ghosts M → Adicity
adicity g = adicity_of g.TWO_ADICITY g.SMALL_SUBGROUP_BASE g.SMALL_SUBGROUP_BASE_ADICITY

-- what a modulus shows of its constants
abbrev pub Shown : {M : Type 0} → Ghosts M → Type 0
Shown g = IsModulus 64 g.MODULUS (adicity g) g.GENERATOR g.TWO_ADIC_ROOT_OF_UNITY g.LARGE_SUBGROUP_ROOT_OF_UNITY g.GREATEST_SIZE

-- the field that a modulus gives
abbrev pub field_of : {M : Type 0} {g : Ghosts M} → Shown g → FieldOn (PrimeField M g)
field_of S = prime_field S.prime

abbrev pub generator_of : {M : Type 0} {g : Ghosts M} → Shown g → PrimeField M g
generator_of S = of.generator_of numbering S

-- the generator's power of order n
abbrev pub prime_root : {M : Type 0} {g : Ghosts M} → Shown g → ℕ → PrimeField M g
prime_root S = of.root_of numbering S

abbrev pub two_adic_root : {M : Type 0} {g : Ghosts M} → Shown g → PrimeField M g
two_adic_root S = of.two_adic_root numbering S

abbrev pub large_root : {M : Type 0} {g : Ghosts M} → Shown g → Option (PrimeField M g)
large_root S = of.large_root numbering S
