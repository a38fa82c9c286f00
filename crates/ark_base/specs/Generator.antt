-- Elements whose powers are the roots of unity of a field.
use Rattle.std.specs.Prelude.{◌≡◌, ◌≢◌, ℕ, ◌/◌, ◌%◌, ◌<◌, ◌⊎◌, Option, Some, None}
use Rattle.ark_math.specs.Field.{FieldOn, power}
use Rattle.ark_math.specs.Prime.{IsPrime}
use Rattle.ark_math.specs.Root.{Adicity, IsAdicity, odd_base, odd_most, greatest_size}

-- enough for an element to have roots of each order: a multiple t of the greatest size at which its power is one, and
-- not at t over 2 or over the odd base, which is a prime
pub record Generates {F : Type 0} (K : FieldOn F) (s : Adicity) (t : ℕ) (g : F) : Type 0 where
  pub positive : 0 < t
  pub divided : t % greatest_size s ≡ 0
  pub odd : IsAdicity s
  pub base : (odd_most s.odd ≡ 0) ⊎ IsPrime (odd_base s.odd)
  pub whole : power K g t ≡ K.one
  pub half : 0 < s.two → power K g (t / 2) ≢ K.one
  pub part : 0 < odd_most s.odd → power K g (t / odd_base s.odd) ≢ K.one

-- the roots that it gives
abbrev pub root_by : {F : Type 0} → FieldOn F → ℕ → F → ℕ → F
root_by K t g n = power K g (t / n)

-- nothing where there is no odd base
abbrev pub for_odd : Option (ℕ × ℕ) → ℕ → Option ℕ
for_odd None x = None
for_odd (Some p) x = Some x
