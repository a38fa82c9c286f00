-- Multilinear extensions over lists of words: a table of the values at the 2 ^ m corners of a cube, of which place i has the
-- one whose variable j is bit j of i, and a point.
use Rattle.std.specs.Prelude.{◌≡◌, ℕ, ◌-◌, ◌^◌, ◌/◌, ◌<◌, ◌≤◌, List, All, length, zip}
use Rattle.ark_math.specs.Module.{tabulate}
use Rattle.ark_math_variables.specs.Multilinear.{extension, fixed, written}
use Rattle.ark_math.specs.Univariate.{of_list}
use Rattle.ark_math.specs.Words.{number_of_words}
use Rattle.ark_numbers.specs.Fields.{operations}
use Rattle.ark_words.specs.Numbers.{Spelled, numbers, AreWhole, IsOne}

-- the value at each corner, zero past the last one
abbrev pub corner_values : Spelled → List ℕ → ℕ → ℕ
corner_values f table = of_list (operations f.known) (numbers f.width table)

-- ---- a point of m numbers, and a value

abbrev pub FitExtended : Spelled → List ℕ → List ℕ → List ℕ → Type 0
FitExtended f table point value = AreWhole f table × AreWhole f point × IsOne f value × (length table / f.width ≡ 2 ^ (length point / f.width))

-- the new words spell the extension's value at the point
abbrev pub IsExtended : Spelled → List ℕ → List ℕ → List ℕ → Type 0
IsExtended f table point new = number_of_words new ≡ extension (operations f.known) (corner_values f table) (numbers f.width point)

-- ---- a table by some of its entries, indices and as many values: the last value of an index counts, and others are zero

-- the value at each corner
abbrev pub entry_values : Spelled → List ℕ → List ℕ → ℕ → ℕ
entry_values f indices values = written 0 (zip indices (numbers f.width values))

-- entries, a point of m numbers, m at most 63, and a value
abbrev pub FitSparse : Spelled → List ℕ → List ℕ → List ℕ → List ℕ → Type 0
FitSparse f indices values point value = AreWhole f values × AreWhole f point × IsOne f value × (length indices ≡ length values / f.width)
    × (length point / f.width < 64) × All (λ i. i < 2 ^ (length point / f.width)) indices

-- the new words spell the extension's value at the point
abbrev pub IsExtendedByEntries : Spelled → List ℕ → List ℕ → List ℕ → List ℕ → Type 0
IsExtendedByEntries f indices values point new = number_of_words new ≡ extension (operations f.known) (entry_values f indices values) (numbers f.width point)

-- ---- a point of k numbers, for the first k of m variables, and a table for the others

-- there are 2 ^ m corners for some m, and with k variables bound there are so many left
abbrev pub AreLeft : ℕ → ℕ → ℕ → Type 0
AreLeft corners k left = (m : ℕ) × (k ≤ m) × (corners ≡ 2 ^ m) × (left ≡ 2 ^ (m - k))

abbrev pub FitFixed : Spelled → List ℕ → List ℕ → List ℕ → Type 0
FitFixed f table point result = AreWhole f table × AreWhole f point × AreWhole f result × AreLeft (length table / f.width) (length point / f.width) (length result / f.width)

-- the new words spell the values at the corners that are left
abbrev pub AreFixed : Spelled → List ℕ → List ℕ → List ℕ → Type 0
AreFixed f table point new = numbers f.width new ≡ tabulate (length new / f.width) (fixed (operations f.known) (corner_values f table) (numbers f.width point))
