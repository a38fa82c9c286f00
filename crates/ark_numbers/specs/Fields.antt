-- Fields whose elements are the numbers below a prime.
use Rattle.std.specs.Prelude.{ℕ, ◌+◌, ◌-◌, ◌*◌, ◌%◌, List, Some, None, map}
use Rattle.ark_math.specs.Field.{FieldOn}
use Rattle.ark_math.specs.Root.{Adicity}

-- the numbers below a prime as a field
abbrev pub modulo : ℕ → FieldOn ℕ
modulo p = record { zero = 0; one = 1; plus = λ x y. (x + y) % p; times = λ x y. (x * y) % p; negated = λ x. (p - x) % p }

-- a field by its modulus, the sizes of its domains, and a generator
pub record Known : Type 0 where
  pub modulus : ℕ
  pub adicity : Adicity
  pub generator : ℕ

abbrev pub known_by : ℕ → Adicity → ℕ → Known
known_by modulus adicity generator = record { modulus = modulus; adicity = adicity; generator = generator }

-- a field whose domains have a power of two of elements, of which the greatest is 2 ^ two
abbrev pub with_powers_of_two : ℕ → ℕ → ℕ → Known
with_powers_of_two modulus two generator = known_by modulus (record { two = two; odd = None }) generator

abbrev pub field_5 : Known
field_5 = with_powers_of_two 5 2 2

abbrev pub field_433 : Known
field_433 = known_by 433 (record { two = 4; odd = Some (3, 3) }) 5

abbrev pub field_65537 : Known
field_65537 = with_powers_of_two 65537 16 3

-- 15 * 2 ^ 27 + 1, 127 * 2 ^ 24 + 1 and 2 ^ 64 - 2 ^ 32 + 1
abbrev pub babybear : Known
babybear = with_powers_of_two 2013265921 27 31

abbrev pub koalabear : Known
koalabear = with_powers_of_two 2130706433 24 3

abbrev pub goldilocks : Known
goldilocks = with_powers_of_two 18446744069414584321 32 7

-- the scalars of the curves
abbrev pub bls12_381 : Known
bls12_381 = with_powers_of_two 52435875175126190479447740508185965837690552500527637822603658699938581184513 32 7

abbrev pub bn254 : Known
bn254 = with_powers_of_two 21888242871839275222246405745257275088548364400416034343698204186575808495617 28 5

abbrev pub operations : Known → FieldOn ℕ
operations f = modulo f.modulus

-- numbers as elements
abbrev pub reduced : Known → List ℕ → List ℕ
reduced f xs = map (λ x. x % f.modulus) xs
