-- Which words are a command.
use Rattle.std.specs.Prelude.{◌≡◌, ◌<◌, ◌^◌, ℕ, List, [], ◌∷◌, length, codes}
use Rattle.polyrun_lib.specs.declared.command.Direction.{Direction}
use Rattle.polyrun_lib.specs.declared.command.Direction.TheVariants.{Forward, Inverse}
use Rattle.polyrun_lib.specs.declared.command.Command.{Command as Parsed}
use Rattle.polyrun_lib.specs.declared.command.Command.TheVariants.{Transform, Mul, Div, Eval, Mle, Size}
use Rattle.ark_base.specs.Numerals.{IsDecimal}
use Rattle.polyrun_lib.specs.Words.{IsList}

-- the transform of a list over the domain for k with the offset h, the product of two polynomials, the quotient and the
-- remainder of the first of two by the second, a polynomial's value at a point, the value at a point of the extension of
-- a list in n variables, the size for k
pub data Command : Type 0 where
  transform_of : Direction → ℕ → ℕ → List ℕ → Command
  product_of : List ℕ → List ℕ → Command
  division_of : List ℕ → List ℕ → Command
  value_of : List ℕ → ℕ → Command
  extension_of : ℕ → List ℕ → List ℕ → Command
  size_for : ℕ → Command

-- the name that stands first
abbrev pub transform_name : Direction → List ℕ
transform_name Forward = codes "fft"
transform_name Inverse = codes "ifft"

abbrev pub command_name : Command → List ℕ
command_name (transform_of direction k h xs) = transform_name direction
command_name (product_of xs ys) = codes "mul"
command_name (division_of xs ys) = codes "div"
command_name (value_of xs x) = codes "eval"
command_name (extension_of n xs x) = codes "mle"
command_name (size_for k) = codes "size"

-- a size, an offset and a list
abbrev pub AreTransformed : List (List ℕ) → ℕ → ℕ → List ℕ → Type 0
AreTransformed words k h xs = (a : List ℕ) × (b : List ℕ) × (c : List ℕ) × (words ≡ a ∷ b ∷ c ∷ []) × IsDecimal a k × IsDecimal b h × IsList c xs

-- two lists
abbrev pub AreTwoLists : List (List ℕ) → List ℕ → List ℕ → Type 0
AreTwoLists words xs ys = (a : List ℕ) × (b : List ℕ) × (words ≡ a ∷ b ∷ []) × IsList a xs × IsList b ys

-- a list and a point
abbrev pub AreEvaluated : List (List ℕ) → List ℕ → ℕ → Type 0
AreEvaluated words xs x = (a : List ℕ) × (b : List ℕ) × (words ≡ a ∷ b ∷ []) × IsList a xs × IsDecimal b x

-- a number of variables that is below 64, a value for each corner, and a point
abbrev pub AreValuesAndPoint : ℕ → List ℕ → List ℕ → Type 0
AreValuesAndPoint n xs x = (n < 64) × (length xs ≡ 2 ^ n) × (length x ≡ n)

-- the words for a number of variables, a value for each corner, and a point
abbrev pub AreExtended : List (List ℕ) → ℕ → List ℕ → List ℕ → Type 0
AreExtended words n xs x = (a : List ℕ) × (b : List ℕ) × (c : List ℕ) × (words ≡ a ∷ b ∷ c ∷ []) × IsDecimal a n × IsList b xs × IsList c x
    × AreValuesAndPoint n xs x

-- a number of coefficients
abbrev pub AreSized : List (List ℕ) → ℕ → Type 0
AreSized words k = (a : List ℕ) × (words ≡ a ∷ []) × IsDecimal a k

-- the words after the command's name
abbrev pub Takes : List (List ℕ) → Command → Type 0
Takes words (transform_of direction k h xs) = AreTransformed words k h xs
Takes words (product_of xs ys) = AreTwoLists words xs ys
Takes words (division_of xs ys) = AreTwoLists words xs ys
Takes words (value_of xs x) = AreEvaluated words xs x
Takes words (extension_of n xs x) = AreExtended words n xs x
Takes words (size_for k) = AreSized words k

-- the words after the field
abbrev pub Reads : List (List ℕ) → Command → Type 0
Reads words c = (rest : List (List ℕ)) × (words ≡ command_name c ∷ rest) × Takes rest c

-- a parsed command's numbers and lists are the words that spell them
abbrev pub Spells : Parsed → Command → Type 0
Spells (Transform direction size offset list) c = (k : ℕ) × (h : ℕ) × (xs : List ℕ) × IsDecimal size.now k × IsDecimal offset.now h × IsList list.now xs
    × (c ≡ transform_of direction k h xs)
Spells (Mul left right) c = (xs : List ℕ) × (ys : List ℕ) × IsList left.now xs × IsList right.now ys × (c ≡ product_of xs ys)
Spells (Div left right) c = (xs : List ℕ) × (ys : List ℕ) × IsList left.now xs × IsList right.now ys × (c ≡ division_of xs ys)
Spells (Eval list point) c = (xs : List ℕ) × (x : ℕ) × IsList list.now xs × IsDecimal point.now x × (c ≡ value_of xs x)
Spells (Mle n list point) c = (xs : List ℕ) × (x : List ℕ) × IsList list.now xs × IsList point.now x × AreValuesAndPoint n xs x
    × (c ≡ extension_of n xs x)
Spells (Size num_coeffs) c = (k : ℕ) × IsDecimal num_coeffs.now k × (c ≡ size_for k)

-- each number and each list is a word that spells one
abbrev pub IsSpelled : Parsed → Type 0
IsSpelled parsed = (c : Command) × Spells parsed c

-- the transform that the words after its name are, and that they are none
abbrev pub IsTransform : List (List ℕ) → Direction → Parsed → Type 0
IsTransform words direction parsed = (k : ℕ) × (h : ℕ) × (xs : List ℕ) × AreTransformed words k h xs × Spells parsed (transform_of direction k h xs)

abbrev pub IsNoTransform : List (List ℕ) → Type 0
IsNoTransform words = (k h : ℕ) (xs : List ℕ) → AreTransformed words k h xs → ⊥

-- the extension that the words after its name are, and that they are none
abbrev pub IsExtension : List (List ℕ) → Parsed → Type 0
IsExtension words parsed = (n : ℕ) × (xs : List ℕ) × (x : List ℕ) × AreExtended words n xs x × Spells parsed (extension_of n xs x)

abbrev pub IsNoExtension : List (List ℕ) → Type 0
IsNoExtension words = (n : ℕ) (xs x : List ℕ) → AreExtended words n xs x → ⊥

-- two words that spell the values and the point of an extension in n variables
abbrev pub SpellExtended : ℕ → List ℕ → List ℕ → Type 0
SpellExtended n list point = (xs : List ℕ) × (x : List ℕ) × IsList list xs × IsList point x × AreValuesAndPoint n xs x

-- the command that the words after the field are, and that they are none
abbrev pub IsRead : List (List ℕ) → Parsed → Type 0
IsRead words parsed = (c : Command) × Reads words c × Spells parsed c

abbrev pub IsNoCommand : List (List ℕ) → Type 0
IsNoCommand words = (c : Command) → Reads words c → ⊥
