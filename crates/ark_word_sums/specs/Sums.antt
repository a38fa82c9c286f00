-- Sums of products of tables, by words.
use Rattle.std.specs.Prelude.{◌≡◌, ℕ, ◌*◌, ◌/◌, ◌%◌, ◌^◌, ◌<◌, List, [], ◌∷◌, ◌++◌, All, drop, length, max, take}
use Rattle.std.specs.List.{AllByRecursion}
use Rattle.ark_math.specs.Univariate.{of_list}
use Rattle.ark_math.specs.Words.{number_of_words}
use Rattle.ark_numbers.specs.Fields.{operations}
use Rattle.ark_sum_check.specs.Cube.{Product, SumOfProducts, cube_sum, longest}
use Rattle.ark_words.specs.Numbers.{Spelled, numbers, AreReduced, AreWhole}

-- m variables, 63 at most, and rounds of degree d, of 1 to 65535
abbrev pub IsShape : ℕ → ℕ → Type 0
IsShape m d = (m < 64) × (0 < d) × (d < 2 ^ 16)

-- ---- tables

-- the words are tables of 2 ^ m numbers each, one after another
abbrev pub AreTables : Spelled → ℕ → List ℕ → Type 0
AreTables f m words = AreWhole f words × ((length words / f.width) % 2 ^ m ≡ 0)

-- how many tables
abbrev pub table_count : Spelled → ℕ → List ℕ → ℕ
table_count f m words = length words / f.width / 2 ^ m

-- table i, zero past its end
abbrev pub table_at : Spelled → ℕ → List ℕ → ℕ → ℕ → ℕ
table_at f m words i = of_list (operations f.known) (take (2 ^ m) (drop (i * 2 ^ m) (numbers f.width words)))

-- ---- addends

-- the words spell these products: of each the coefficient's words, how many factors it has, and the index of each factor's
-- table
abbrev pub AreAddends : Spelled → List (Product ℕ) → List ℕ → Type 0
AreAddends f [] words = words ≡ []
AreAddends f (a ∷ ps) words =
    (coefficient rest : List ℕ) × (length coefficient ≡ f.width) × (number_of_words coefficient ≡ a.coefficient)
    × (words ≡ coefficient ++ length a.factors ∷ (a.factors ++ rest)) × AreAddends f ps rest

-- products of n tables, of which the longest has d factors; where no product has a factor, d is 1
abbrev pub AreOfTables : ℕ → ℕ → List (Product ℕ) → Type 0
AreOfTables n d ps = AllByRecursion (λ a. All (λ i. i < n) a.factors) ps × (max 1 (longest ps) ≡ d)

-- each coefficient is below the modulus
abbrev pub AreCoefficients : Spelled → List (Product ℕ) → Type 0
AreCoefficients f ps = AllByRecursion (λ a. a.coefficient < f.known.modulus) ps

-- ---- the sum

-- the words spell these products of these tables
pub record IsSum (f : Spelled) (m d : ℕ) (tables addends : List ℕ) (ps : List (Product ℕ)) : Type 0 where
  pub spelled : AreAddends f ps addends
  pub fits : AreOfTables (table_count f m tables) d ps

-- the words spell some products of these tables
abbrev pub HasSum : Spelled → ℕ → ℕ → List ℕ → List ℕ → Type 0
HasSum f m d tables addends = (ps : List (Product ℕ)) × IsSum f m d tables addends ps

-- and all numbers are below the modulus
abbrev pub IsReducedSum : Spelled → ℕ → ℕ → List ℕ → List ℕ → Type 0
IsReducedSum f m d tables addends =
    AreReduced f tables × (ps : List (Product ℕ)) × IsSum f m d tables addends ps × AreCoefficients f ps

abbrev pub sum_by : Spelled → ℕ → List ℕ → List (Product ℕ) → SumOfProducts ℕ
sum_by f m tables ps = record { tables = table_at f m tables; addends = ps }

-- the words spell the sum over the cube of these products of the tables
abbrev pub IsCubeSum : Spelled → ℕ → List ℕ → List (Product ℕ) → List ℕ → Type 0
IsCubeSum f m tables ps new = number_of_words new ≡ cube_sum (operations f.known) m (sum_by f m tables ps)
