-- The constants of a prime field, of any width: a prime below 2 ^ b, a generator of all its units, and its powers.
use Rattle.std.specs.Prelude.{◌≡◌, ◌≢◌, ℕ, ◌-◌, ◌^◌, ◌/◌, ◌%◌, ◌<◌, ◌⊎◌, Option}
use Rattle.ark_math.specs.Prime.{IsPrime, power_mod}
use Rattle.ark_math.specs.Root.{Adicity, IsAdicity, odd_base, odd_most, greatest_size}
use Rattle.ark_base.specs.Generator.{for_odd}

-- x ^ n % p by squaring, for n below 2 ^ b. It is opened where it is computed alone
unfoldable pub power_below : ℕ → ℕ → ℕ → ℕ → ℕ
power_below b p x n = power_mod p b x n

-- modulo p the powers of g are all numbers from 1 to p - 1, and the power at p - 1 is the first that is one again
pub record IsGenerator (b p g : ℕ) : Type 0 where
  pub positive : 0 < g
  pub below : g < p
  pub whole : power_below b p g (p - 1) ≡ 1
  pub order : (k : ℕ) → 0 < k → k < p - 1 → g ^ k % p ≢ 1
  pub every : (a : ℕ) → 0 < a → a < p → (k : ℕ) × (k < p - 1) × (g ^ k % p ≡ a)

-- the greatest size divides p - 1, by a power of two and one of an odd prime
pub record AreSizes (p : ℕ) (s : Adicity) : Type 0 where
  pub divided : (p - 1) % greatest_size s ≡ 0
  pub odd : IsAdicity s
  pub base : (odd_most s.odd ≡ 0) ⊎ IsPrime (odd_base s.odd)

-- the generator with its sizes
pub record IsGeneratorFor (b p : ℕ) (s : Adicity) (g : ℕ) : Type 0 where
  pub powers : IsGenerator b p g
  pub sizes : AreSizes p s

-- a prime, its generator, the generator's powers that are the roots of the greatest sizes, and the greatest size
pub record IsModulus (b p : ℕ) (s : Adicity) (g two_adic : ℕ) (large : Option ℕ) (greatest : ℕ) : Type 0 where
  pub prime : IsPrime p
  pub small : p < 2 ^ b
  pub generator : IsGeneratorFor b p s g
  pub two_adic_is : two_adic ≡ power_below b p g ((p - 1) / 2 ^ s.two)
  pub large_is : large ≡ for_odd s.odd (power_below b p g ((p - 1) / greatest_size s))
  pub greatest_is : greatest ≡ greatest_size s
