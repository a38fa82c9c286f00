-- The constants of a prime field on words of 32 bits.
use Rattle.std.specs.Prelude.{◌≡◌, ℕ, ◌+◌, ◌*◌, ◌^◌, ◌%◌, Option}
use Rattle.ark_math.specs.Root.{Adicity}
use Rattle.ark_base.specs.Modulus.{IsModulus}

-- a modulus below 2 ^ 31, and minus its inverse modulo 2 ^ 32
pub record IsModulus32 (p : ℕ) (s : Adicity) (g two_adic : ℕ) (large : Option ℕ) (greatest negated_inverse : ℕ) : Type 0 where
  pub numbers : IsModulus 31 p s g two_adic large greatest
  pub inverse : (p * negated_inverse + 1) % 2 ^ 32 ≡ 0
