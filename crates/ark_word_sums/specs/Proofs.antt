-- Proofs of sums in bytes, by the challenges that follow from a label and a statement.
use Rattle.std.specs.Prelude.{◌≡◌, ℕ, ◌+◌, ◌*◌, List, [], ◌∷◌, length, map}
use Rattle.ark_math.specs.Field.{natural}
use Rattle.ark_math_formats.specs.Format.{list}
use Rattle.ark_math.specs.Words.{number_of_words}
use Rattle.ark_transcript.specs.Calls.{Call, Absorbed, Begun}
use Rattle.ark_sum_check.specs.Cube.{Product, SumOfProducts, sum_value}
use Rattle.ark_sum_check.specs.Embedded.{embedded_sum}
use Rattle.ark_sum_check.specs.Rounds.{AreAccepted, HasOneOfFew, Round, challenges}
use Rattle.ark_sum_check.specs.declared.verifier.Claim.{Claim}
use Rattle.ark_fiat_shamir.specs.Derived.{AreDerived}
use Rattle.ark_words.specs.Numbers.{IsOne}
use Rattle.ark_word_sums.specs.Challenges.{AreElementsOf, Checked, element_words}
use Rattle.ark_word_sums.specs.Sums.{AreTables, IsShape, sum_by}

-- the label statement, in ASCII
abbrev pub statement_label : List ℕ
statement_label = 115 ∷ 116 ∷ 97 ∷ 116 ∷ 101 ∷ 109 ∷ 101 ∷ 110 ∷ 116 ∷ []

-- a transcript that is begun with a label and has absorbed a statement
abbrev pub begun : List ℕ → List ℕ → List Call
begun label statement = Begun label ∷ Absorbed statement_label statement ∷ []

-- how many bytes a proof has: a length, and for each variable a length and d + 1 elements
abbrev pub size_of_proof : {E : Type 0} → Checked E → ℕ → ℕ → ℕ
size_of_proof c m d = 8 + m * (8 + (d + 1) * c.size)

-- ---- what is claimed

-- that a sum of m variables, by rounds of degree d, is this number
abbrev pub claim_by : {E : Type 0} → Checked E → ℕ → ℕ → ℕ → Claim E
claim_by c m d n = record { num_vars = m; degree = d; sum = natural c.field n }

-- the bytes spell the values of these rounds, whose challenges follow from the label, the statement, the claim and the
-- values before each; the rounds are accepted, and this is the last claim, on the value at the challenges
pub record IsProof {E : Type 0} (c : Checked E) (label statement : List ℕ) (claim : Claim E) (bytes : List ℕ) (rounds : List (Round E)) (last : E) : Type 0 where
  pub count : length rounds ≡ claim.num_vars
  pub spelled : bytes ≡ (list (list c.format)).spelling (map (λ r. r.values) rounds)
  pub after : List Call
  pub derived : AreDerived c.field c.format c.size claim (begun label statement) rounds after
  pub accepted : AreAccepted c.field claim.degree claim.sum rounds last

-- the bytes are such a proof
abbrev pub HasProof : {E : Type 0} → Checked E → List ℕ → List ℕ → Claim E → List ℕ → Type 0
HasProof {E} c label statement claim bytes =
    (rounds : List (Round E)) × (last : E) × IsProof c label statement claim bytes rounds last

-- and the words spell its challenges and its last claim
abbrev pub IsReducedTo : {E : Type 0} → Checked E → List ℕ → List ℕ → Claim E → List ℕ → List ℕ → List ℕ → Type 0
IsReducedTo {E} c label statement claim bytes point value =
    (rounds : List (Round E)) × (last : E) × IsProof c label statement claim bytes rounds last
    × AreElementsOf c (challenges rounds) point × AreElementsOf c (last ∷ []) value

-- ---- the value at a point

-- the sum of products of the tables, whose numbers stand for elements
abbrev pub sum_over : {E : Type 0} → Checked E → ℕ → List ℕ → List (Product ℕ) → SumOfProducts E
sum_over c m tables ps = embedded_sum (natural c.field) (sum_by c.spelled m tables ps)

-- the bytes are a proof that these products' sum over the cube is n, and its last claim is true
abbrev pub ProvesNumber : {E : Type 0} → Checked E → List ℕ → List ℕ → ℕ → ℕ → List ℕ → List (Product ℕ) → ℕ → List ℕ → Type 0
ProvesNumber {E} c label statement m d tables ps n bytes =
    (rounds : List (Round E))
    × IsProof c label statement (claim_by c m d n) bytes rounds (sum_value c.field (sum_over c m tables ps) (challenges rounds))

-- with the sum in words
abbrev pub ProvesSum : {E : Type 0} → Checked E → List ℕ → List ℕ → ℕ → ℕ → List ℕ → List (Product ℕ) → List ℕ → List ℕ → Type 0
ProvesSum c label statement m d tables ps sum bytes =
    ProvesNumber c label statement m d tables ps (number_of_words sum) bytes

-- the bytes are a proof that these products' sum is n, of which a round is unlucky: by its values and the rounds before,
-- d challenges at most are so, and its own is one of them
abbrev pub IsUnluckyProof : {E : Type 0} → Checked E → List ℕ → List ℕ → ℕ → ℕ → List ℕ → List (Product ℕ) → ℕ → List ℕ → Type 0
IsUnluckyProof {E} c label statement m d tables ps n bytes =
    (rounds : List (Round E)) × (last : E) × IsProof c label statement (claim_by c m d n) bytes rounds last
    × HasOneOfFew c.field d (sum_over c m tables ps) rounds

-- the words spell the value at a point
abbrev pub IsSumValue : {E : Type 0} → Checked E → ℕ → List ℕ → List (Product ℕ) → List ℕ → List ℕ → Type 0
IsSumValue {E} c m tables ps point value =
    (x : List E) × AreElementsOf c x point × AreElementsOf c (sum_value c.field (sum_over c m tables ps) x ∷ []) value

-- ---- what calls take

-- of `prove`
abbrev pub FitProver : {E : Type 0} → Checked E → ℕ → ℕ → List ℕ → List ℕ → List ℕ → Type 0
FitProver c m d tables proof sum =
    IsShape m d × AreTables c.spelled m tables × (length proof ≡ size_of_proof c m d) × IsOne c.spelled sum

-- of `verify`
abbrev pub FitVerifier : {E : Type 0} → Checked E → ℕ → ℕ → List ℕ → List ℕ → List ℕ → List ℕ → Type 0
FitVerifier c m d sum proof point value =
    IsShape m d × IsOne c.spelled sum × (length proof ≡ size_of_proof c m d)
    × (length point ≡ m * element_words c) × (length value ≡ element_words c)

-- of `value_at`
abbrev pub FitValue : {E : Type 0} → Checked E → ℕ → ℕ → List ℕ → List ℕ → List ℕ → Type 0
FitValue c m d tables point value =
    IsShape m d × AreTables c.spelled m tables × (length point ≡ m * element_words c) × (length value ≡ element_words c)
