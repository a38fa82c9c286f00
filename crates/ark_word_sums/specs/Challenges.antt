-- A field of numbers, and the field of the challenges, which it lies in.
use Rattle.std.specs.Prelude.{◌≡◌, ℕ, ◌*◌, List}
use Rattle.std.specs.List.{flat_map}
use Rattle.ark_math.specs.Field.{FieldOn}
use Rattle.ark_math_formats.specs.Format.{Format}
use Rattle.ark_words.specs.Numbers.{Spelled, numbers}

-- the field of the numbers, and of the challenges the operations, an element's bytes, how many these are, and its
-- coefficients, each a number, with how many these are
pub record Checked (E : Type 0) : Type 1 where
  pub spelled : Spelled
  pub field : FieldOn E
  pub format : Format E
  pub size : ℕ
  pub degree : ℕ
  pub coefficients : E → List ℕ

-- how many words an element has
abbrev pub element_words : {E : Type 0} → Checked E → ℕ
element_words c = c.degree * c.spelled.width

-- the words spell these elements, one after another, each by its coefficients
abbrev pub AreElementsOf : {E : Type 0} → Checked E → List E → List ℕ → Type 0
AreElementsOf c xs words = numbers c.spelled.width words ≡ flat_map c.coefficients xs
