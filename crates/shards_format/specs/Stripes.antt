-- How the bytes of a file become stripes of items.
use Rattle.std.specs.Prelude.{ℕ, ◌+◌, ◌-◌, ◌*◌, ◌/◌, List, length, get_or, map}
use Rattle.std.specs.List.{range_with_len}

-- two bytes as a number, the low one first; past the end are zeros
abbrev pub item : List ℕ → ℕ → ℕ
item bytes j = get_or bytes (2 * j) 0 + 256 * get_or bytes (2 * j + 1) 0

-- the items of stripe s of a block of so many: item 0 of all stripes comes first in the block, then item 1 of all
abbrev pub stripe : ℕ → List ℕ → ℕ → ℕ → ℕ
stripe count block s j = item block (j * count + s)

-- how many stripes so many bytes are, the last one filled with zeros
abbrev pub stripes : ℕ → ℕ → ℕ
stripes k len = (len + (2 * k - 1)) / (2 * k)

-- how a code numbers the items of a stripe at a place: k, n, the items and the place
abbrev pub Numbering : Type 0
Numbering = ℕ → ℕ → (ℕ → ℕ) → ℕ → ℕ

-- the numbers at place i of a block's stripes
abbrev pub numbers_at : Numbering → ℕ → ℕ → List ℕ → ℕ → List ℕ
numbers_at number k n block i = let count = stripes k (length block) in map (λ s. number k n (stripe count block s) i) (range_with_len 0 count)
