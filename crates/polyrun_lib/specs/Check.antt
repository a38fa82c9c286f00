-- What is said of the rows of a table of answers, each on a line, and so what the program writes for `vectors`.
use Rattle.std.specs.Prelude.{◌≡◌, ℕ, ◌+◌, ◌<◌, ◌⊎◌, ◌↔◌, Bool, true, false, IsTrue, List, [], ◌∷◌, ◌++◌, length, take, map, codes, string_bytes, vec_items, Vec, String}
use Rattle.std.specs.List.{concat}
use Rattle.std.specs.declared.alloc.Global.{Global}
use denote.Ref.{Bor}
use Rattle.ark_traits.specs.declared.error.PolyError.TheVariants.{Memory}
use Rattle.polyrun_lib.specs.Lines.{ended, row_line_of, refusal_line_of}
use Rattle.polyrun_lib.specs.Answer.{IsPlainAnswer, MayAnswer}
use Rattle.polyrun_lib.specs.Written.{Writer, TookAll, TookBeginning, IsWritten}
use Rattle.polyrun_lib.specs.Vectors.{Row, HasRows}

-- a row as it is passed
abbrev pub row_of : Vec (String Global) Global × String Global → Row
row_of row = (map string_bytes (vec_items row.0), string_bytes row.1)

-- a row as it is borrowed
abbrev pub shown_row : Bor (List (Bor (List ℕ))) × Bor (List ℕ) → Row
shown_row row = (map (λ word. word.now) row.0.now, row.1.now)

-- the command is `vectors`
abbrev pub IsVectors : List (List ℕ) → Type 0
IsVectors words = (rest : List (List ℕ)) × (words ≡ codes "vectors" ∷ rest)

-- a row is good exactly where its command isn't `vectors` and the answer of its words is its text and a newline
abbrev pub IsVerdict : List ℕ → Row → Bool → Type 0
IsVerdict field row good =
    (IsVectors row.0 × (good ≡ false))
    ⊎ ((IsVectors row.0 → ⊥) × ((answer : List ℕ) × (status : ℕ) × IsPlainAnswer (field ∷ row.0) answer status
    × (IsTrue good ↔ (answer ≡ ended row.1))))

-- the line of row n was written, with this verdict
abbrev pub HasLine : List ℕ → Row → ℕ → Writer → Writer → Bool → Type 0
HasLine field row n old new good = IsVerdict field row good × TookAll old new (row_line_of n good)

-- no line comes after: want of memory is written in place of the line of row n, or the writer failed within that line
abbrev pub EndsAt : List ℕ → Row → ℕ → Writer → Writer → ℕ → Type 0
EndsAt field row n old new status =
    IsWritten old new (refusal_line_of Memory) 1 status
    ⊎ ((good : Bool) × IsVerdict field row good × TookBeginning old new (row_line_of n good) × (status ≡ 3))

-- one verdict for each row
abbrev pub AreVerdicts : List ℕ → List Row → List Bool → Type 0
AreVerdicts field [] [] = Unit {0}
AreVerdicts field (row ∷ rows) (good ∷ verdicts) = IsVerdict field row good × AreVerdicts field rows verdicts
AreVerdicts field [] (good ∷ verdicts) = ⊥
AreVerdicts field (row ∷ rows) [] = ⊥

-- the line of each verdict, the rows numbered from n
abbrev pub lines_from : ℕ → List Bool → List (List ℕ)
lines_from n [] = []
lines_from n (good ∷ verdicts) = row_line_of n good ∷ lines_from (n + 1) verdicts

-- the lines one after another, the rows numbered from 1
abbrev pub lines_text : List Bool → List ℕ
lines_text verdicts = concat (lines_from 1 verdicts)

-- 1 where a row is bad
abbrev pub status_of : List Bool → ℕ
status_of [] = 0
status_of (true ∷ verdicts) = status_of verdicts
status_of (false ∷ verdicts) = 1

-- what is written of the rows
abbrev pub IsChecked : List ℕ → List Row → List ℕ → ℕ → Type 0
IsChecked field rows text status = (verdicts : List Bool) × AreVerdicts field rows verdicts × (text ≡ lines_text verdicts) × (status ≡ status_of verdicts)

-- the lines of the first n rows, and want of memory in place of a later row's line
abbrev pub IsCutShort : List ℕ → List Row → List ℕ → ℕ → Type 0
IsCutShort field rows text status = (n : ℕ) × (n < length rows) × ((verdicts : List Bool) × AreVerdicts field (take n rows) verdicts
    × (text ≡ lines_text verdicts ++ refusal_line_of Memory) × (status ≡ 1))

-- what may be written of the rows
abbrev pub MayCheck : List ℕ → List Row → List ℕ → ℕ → Type 0
MayCheck field rows text status = IsChecked field rows text status ⊎ IsCutShort field rows text status

-- the words are a field and `vectors`, and these are the field's rows
abbrev pub AsksVectors : List (List ℕ) → List ℕ → List Row → Type 0
AsksVectors words field rows = (words ≡ field ∷ codes "vectors" ∷ []) × HasRows field rows

-- the answer to any words
abbrev pub IsAnswer : List (List ℕ) → List ℕ → ℕ → Type 0
IsAnswer words text status =
    ((field : List ℕ) × (rows : List Row) × AsksVectors words field rows × IsChecked field rows text status)
    ⊎ (((field : List ℕ) (rows : List Row) → AsksVectors words field rows → ⊥) × IsPlainAnswer words text status)

-- the answer to any words, or want of memory for it: in `vectors`, after the lines before
abbrev pub MayWrite : List (List ℕ) → List ℕ → ℕ → Type 0
MayWrite words text status =
    ((field : List ℕ) × (rows : List Row) × AsksVectors words field rows × MayCheck field rows text status)
    ⊎ (((field : List ℕ) (rows : List Row) → AsksVectors words field rows → ⊥) × MayAnswer words text status)
