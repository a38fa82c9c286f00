-- The fields that numbers name.
use Rattle.std.specs.Prelude.{ℕ, ◌==◌, Option, Some, None, List, [], ◌∷◌, if◌then◌else◌}
use Rattle.ark_numbers.specs.Fields.{field_5, field_433, field_65537, babybear, koalabear, goldilocks, bn254, bls12_381}
use Rattle.ark_words.specs.Numbers.{Spelled, in_words}

-- a field of one word by its modulus, and the scalars of a curve, of four words, by a number that is no prime
abbrev pub names : List (ℕ × Spelled)
names =
    (5, in_words 1 field_5)
    ∷ (433, in_words 1 field_433)
    ∷ (65537, in_words 1 field_65537)
    ∷ (2013265921, in_words 1 babybear)
    ∷ (2130706433, in_words 1 koalabear)
    ∷ (18446744069414584321, in_words 1 goldilocks)
    ∷ (254, in_words 4 bn254)
    ∷ (12381, in_words 4 bls12_381)
    ∷ []

-- what stands beside a name
abbrev pub look_up : List (ℕ × Spelled) → ℕ → Option Spelled
look_up [] name = None
look_up (row ∷ rows) name = if name == row.0 then Some row.1 else look_up rows name

abbrev pub field_named : ℕ → Option Spelled
field_named name = look_up names name
