-- The constants of a prime field of four words, as words.
use Rattle.std.specs.Prelude.{◌≡◌, ℕ, ◌+◌, ◌*◌, ◌^◌, ◌%◌, Option}
use Rattle.std.proofs.Common.{option_map}
use Rattle.ark_math.specs.Root.{Adicity}
use Rattle.ark_base.specs.Modulus.{IsModulus}
use Rattle.ark_prime256.specs.Words.{words_of}
use Rattle.ark_prime256.specs.declared.words.BigInteger256.{BigInteger256}

-- the words of a modulus and of its constants. R is what Montgomery's method calls 2 ^ 256 modulo the prime
pub record AreWordsOf (p g two_adic : ℕ) (large : Option ℕ) (modulus : BigInteger256) (negated_inverse : ℕ) (r r_squared generator two_adic_root : BigInteger256) (large_root : Option BigInteger256) : Type 0 where
  pub modulus_is : modulus ≡ words_of p
  pub inverse_is : (p * negated_inverse + 1) % 2 ^ 64 ≡ 0
  pub r_is : r ≡ words_of (2 ^ 256 % p)
  pub r_squared_is : r_squared ≡ words_of ((2 ^ 256 * 2 ^ 256) % p)
  pub generator_is : generator ≡ words_of g
  pub two_adic_is : two_adic_root ≡ words_of two_adic
  pub large_is : large_root ≡ option_map words_of large

-- a modulus below 2 ^ 255, with its words
pub record IsModulus256 (p : ℕ) (s : Adicity) (g two_adic : ℕ) (large : Option ℕ) (greatest : ℕ) (modulus : BigInteger256) (negated_inverse : ℕ) (r r_squared generator two_adic_root : BigInteger256) (large_root : Option BigInteger256) : Type 0 where
  pub numbers : IsModulus 255 p s g two_adic large greatest
  pub words : AreWordsOf p g two_adic large modulus negated_inverse r r_squared generator two_adic_root large_root
