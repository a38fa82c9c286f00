-- Power series, of which the first coefficients alone count, and coefficients in the reversed order: the words in which
-- the steps of a division through transforms say what they do.
use Rattle.std.specs.Prelude.{◌≡◌, ℕ, ◌+◌, ◌-◌, ◌<◌, nat_lt, if◌then◌else◌}
use Rattle.ark_math.specs.Field.{FieldOn}
use Rattle.ark_math.specs.Univariate.{monomial}

-- the first n coefficients are the same
abbrev pub AgreeBelow : {F : Type 0} → ℕ → (ℕ → F) → (ℕ → F) → Type 0
AgreeBelow n a b = (i : ℕ) → i < n → a i ≡ b i

-- the series that is one
abbrev pub unity : {F : Type 0} → FieldOn F → ℕ → F
unity K = monomial K 0 K.one

-- the coefficients from k on, moved down to 0
abbrev pub past : {F : Type 0} → ℕ → (ℕ → F) → ℕ → F
past k a i = a (k + i)

-- the coefficients up to m, the last one first
abbrev pub backwards : {F : Type 0} → FieldOn F → ℕ → (ℕ → F) → ℕ → F
backwards K m a i = if nat_lt i (m + 1) then a (m - i) else K.zero
