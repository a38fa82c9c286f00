-- Indices of tables in which variables are exchanged.
use Rattle.std.specs.Prelude.{ℕ, ◌+◌, ◌-◌, ◌*◌, ◌/◌, ◌%◌, ◌^◌}

-- the number in the k bits from i on
abbrev pub part : ℕ → ℕ → ℕ → ℕ
part b i k = (b / 2 ^ i) % 2 ^ k

-- b with its k bits from i on and its k bits from j on exchanged
abbrev pub exchanged_index : ℕ → ℕ → ℕ → ℕ → ℕ
exchanged_index b i j k = (b + (part b j k * 2 ^ i + part b i k * 2 ^ j)) - (part b i k * 2 ^ i + part b j k * 2 ^ j)
