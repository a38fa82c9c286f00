-- Sums of products of numbers in a field, reduced late.
use Rattle.std.specs.Prelude.{ℕ, ◌+◌, ◌-◌, ◌*◌, ◌/◌, ◌%◌, List, get_or}
use Rattle.ark_math.specs.Field.{FieldOn, natural}
use Rattle.ark_math.specs.Module.{sum_below, itself}

-- the first c weights times the numbers of stripe s, of which there are so many in a row, added up
abbrev pub weighted_sum : {F : Type 0} → FieldOn F → List ℕ → List ℕ → ℕ → ℕ → ℕ → F
weighted_sum K weights numbers stripes s c = sum_below (itself K) c (λ a. K.times (natural K (get_or weights a 0)) (natural K (get_or numbers (a * stripes + s) 0)))

-- the lower half of 32 bits less the upper one, and the prime, so that it isn't below zero
abbrev pub halves : ℕ → ℕ
halves p = p % 65536 + (65537 - p / 65536)

-- the sum of k rows of numbers at stripe s, each times its weight in row b of the weights
abbrev pub weighted_row : {F : Type 0} → FieldOn F → List ℕ → List ℕ → ℕ → ℕ → ℕ → ℕ → F
weighted_row K weights numbers stripes k b s = sum_below (itself K) k (λ c. K.times (natural K (get_or weights (b * k + c) 0)) (natural K (get_or numbers (c * stripes + s) 0)))
