-- Rows of elements.
use Rattle.std.specs.Prelude.{ℕ, ◌<◌, ◌≤◌, List, map, get_or}
use Rattle.ark_math.specs.Field.{FieldOn}
use Rattle.ark_rows.specs.Row.{lanes}
use Rattle.ark_rows.specs.declared.row.Row.{Row}

-- the element of row j in lane t, and zero where there is none
abbrev pub entry : {F : Type 0} {N : ℕ} → FieldOn F → List (Row F N) → ℕ → ℕ → F
entry K rows j t = get_or (map (lanes K) rows) j (λ i. K.zero) t

-- rows of so many lanes have a code for k items and n places
abbrev pub HasCode : ℕ → ℕ → ℕ → Type 0
HasCode lanes k n = (0 < lanes) × (0 < k) × (k ≤ n) × (n ≤ 65536)
