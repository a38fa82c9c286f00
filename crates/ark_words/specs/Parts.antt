-- Transforms in parts: a list of 2 ^ (a + b) numbers as 2 ^ a rows of 2 ^ b, each column transformed and then each row.
use Rattle.std.specs.Prelude.{◌≡◌, ◌≢◌, ℕ, ◌+◌, ◌*◌, ◌/◌, ◌%◌, ◌<◌, ◌≤◌, ◌^◌, List, length}
use Rattle.ark_math.specs.Field.{power}
use Rattle.ark_math.specs.Module.{ModuleOn, itself}
use Rattle.ark_math.specs.Domain.{Domain, element}
use Rattle.ark_math.specs.Words.{number_of_words}
use Rattle.ark_numbers.specs.Fields.{Known, operations}
use Rattle.ark_numbers.specs.Answers.{coset_of, AreValues, AreInterpolated}
use Rattle.ark_fft_parts.specs.Parts.{column, row, across, down, AreInParts}
use Rattle.ark_words.specs.Numbers.{Spelled, numbers, HaveLengths}

-- ---- the domains, where h is the offset of all

-- that of a column, of 2 ^ a numbers
abbrev pub of_column : Known → ℕ → ℕ → ℕ → Domain ℕ
of_column f a b h = coset_of f (2 ^ a) (power (operations f) h (2 ^ b))

-- that of row i, of 2 ^ b numbers, whose offset is element i of all
abbrev pub of_row : Known → ℕ → ℕ → ℕ → ℕ → Domain ℕ
of_row f a b h i = coset_of f (2 ^ b) (element (operations f) (coset_of f (2 ^ a * 2 ^ b) h) i)

-- ---- what a call takes

-- a block of any columns, as 2 ^ a rows, and an offset
abbrev pub FitColumns : Spelled → ℕ → ℕ → List ℕ → List ℕ → Type 0
FitColumns f a b words offset = HaveLengths f words offset × (a + b < 64) × ((length words / f.width) % 2 ^ a ≡ 0)

-- a block of any rows, of which the first has this number, and an offset
abbrev pub FitRows : Spelled → ℕ → ℕ → ℕ → List ℕ → List ℕ → Type 0
FitRows f a b first words offset = HaveLengths f words offset × (a + b < 64) × ((length words / f.width) % 2 ^ b ≡ 0)
    × (first + length words / f.width / 2 ^ b ≤ 2 ^ a)

-- a domain of the field has 2 ^ (a + b) elements, and the offset isn't zero
abbrev pub HaveParts : Spelled → ℕ → ℕ → List ℕ → Type 0
HaveParts f a b offset = (a + b ≤ f.known.adicity.two) × (number_of_words offset ≢ 0)

-- ---- what is made of a block

abbrev numbers_of : Known → ModuleOn ℕ ℕ
numbers_of f = itself (operations f)

-- column j of a block of 2 ^ a rows
abbrev pub column_at : Spelled → ℕ → List ℕ → ℕ → List ℕ
column_at f a words j = column (numbers_of f.known) (2 ^ a) (length words / f.width / 2 ^ a) (numbers f.width words) j

-- row k of a block of rows of 2 ^ b
abbrev pub row_at : Spelled → ℕ → List ℕ → ℕ → List ℕ
row_at f b words k = row (numbers_of f.known) (2 ^ b) (numbers f.width words) k

-- each column became its values
abbrev pub AreColumnsTransformed : Spelled → ℕ → ℕ → List ℕ → List ℕ → List ℕ → Type 0
AreColumnsTransformed f a b old offset new = (j : ℕ) → j < length old / f.width / 2 ^ a
    → AreValues f.known (of_column f.known a b (number_of_words offset)) (column_at f a old j) (column_at f a new j)

-- each row
abbrev pub AreRowsTransformed : Spelled → ℕ → ℕ → ℕ → List ℕ → List ℕ → List ℕ → Type 0
AreRowsTransformed f a b first old offset new = (k : ℕ) → k < length old / f.width / 2 ^ b
    → AreValues f.known (of_row f.known a b (number_of_words offset) (first + k)) (row_at f b old k) (row_at f b new k)

-- and back
abbrev pub AreRowsTransformedBack : Spelled → ℕ → ℕ → ℕ → List ℕ → List ℕ → List ℕ → Type 0
AreRowsTransformedBack f a b first old offset new = (k : ℕ) → k < length old / f.width / 2 ^ b
    → AreInterpolated f.known (of_row f.known a b (number_of_words offset) (first + k)) (row_at f b old k) (row_at f b new k)

abbrev pub AreColumnsTransformedBack : Spelled → ℕ → ℕ → List ℕ → List ℕ → List ℕ → Type 0
AreColumnsTransformedBack f a b old offset new = (j : ℕ) → j < length old / f.width / 2 ^ a
    → AreInterpolated f.known (of_column f.known a b (number_of_words offset)) (column_at f a old j) (column_at f a new j)

-- ---- the whole list, by its columns and rows, each wherever it was made

-- each column of the list transformed
abbrev pub AreColumns : Known → ℕ → ℕ → ℕ → List ℕ → (ℕ → List ℕ) → Type 0
AreColumns f a b h xs columns = (j : ℕ) → j < 2 ^ b → AreValues f (of_column f a b h) (column (numbers_of f) (2 ^ a) (2 ^ b) xs j) (columns j)

-- and each row of these
abbrev pub AreRows : Known → ℕ → ℕ → ℕ → (ℕ → List ℕ) → (ℕ → List ℕ) → Type 0
AreRows f a b h columns rows = (i : ℕ) → i < 2 ^ a → AreValues f (of_row f a b h i) (across (numbers_of f) (2 ^ b) columns i) (rows i)

-- each row taken back
abbrev pub AreRowsBack : Known → ℕ → ℕ → ℕ → (ℕ → List ℕ) → (ℕ → List ℕ) → Type 0
AreRowsBack f a b h rows before = (i : ℕ) → i < 2 ^ a → AreInterpolated f (of_row f a b h i) (rows i) (before i)

-- and each column of these, which is that of the list
abbrev pub AreColumnsBack : Known → ℕ → ℕ → ℕ → (ℕ → List ℕ) → List ℕ → Type 0
AreColumnsBack f a b h before xs = (j : ℕ) → j < 2 ^ b
    → AreInterpolated f (of_column f a b h) (down (numbers_of f) (2 ^ a) before j) (column (numbers_of f) (2 ^ a) (2 ^ b) xs j)

-- item j of row i is number i + 2 ^ a * j
abbrev pub AreOrdered : Known → ℕ → ℕ → List ℕ → (ℕ → List ℕ) → Type 0
AreOrdered f a b values rows = AreInParts (numbers_of f) (2 ^ a) (2 ^ b) values rows
