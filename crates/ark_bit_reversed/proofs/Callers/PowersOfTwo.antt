-- Halves of powers of two, and twice them.
use Rattle.std.proofs.Common.{◌≡◌, ℕ, zero, suc, ◌+◌, ◌/◌, ◌<◌, ◌∙◌, arith}
use Rattle.std.proofs.lemmas.Nat.{pow_pos}
use Rattle.ark_math.proofs.Numbers.PowersOfTwo.{pow_twice}
use Rattle.ark_bit_reversed.specs.Blocks.{IsPowerOfTwo}

-- half of a power of two above one is one
pub half_is_power : (n : ℕ) → 1 < n → IsPowerOfTwo n → IsPowerOfTwo (n / 2)
half_is_power n l (zero, e) = absurd (omega (arith, l, e))
half_is_power n l (suc k, e) = (k, (let twice = e ∙ pow_twice k in omega (arith, twice)))

-- and twice that is the number
pub two_halves : (n : ℕ) → 1 < n → IsPowerOfTwo n → n / 2 + n / 2 ≡ n
two_halves n l (zero, e) = absurd (omega (arith, l, e))
two_halves n l (suc k, e) = let twice = e ∙ pow_twice k in omega (arith, twice)

-- twice a power of two is one
pub twice_is_power : (n : ℕ) → IsPowerOfTwo n → IsPowerOfTwo (n + n)
twice_is_power n (k, e) = (suc k, (let twice = pow_twice k in omega (arith, twice, e)))

-- a power of two is not zero
pub some_power : (n : ℕ) → IsPowerOfTwo n → 0 < n
some_power n (k, e) = omega (arith, pow_pos k, e)
