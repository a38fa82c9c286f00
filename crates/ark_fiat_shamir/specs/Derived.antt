-- The rounds of a sum-check by a transcript: each challenge follows from the calls before it.
use Rattle.std.specs.Prelude.{ℕ, List, [], ◌∷◌, ◌++◌, map, max}
use Rattle.std.specs.Int.{w64, to_le_bytes}
use Rattle.ark_math.specs.Field.{FieldOn}
use Rattle.ark_math_formats.specs.Format.{Format}
use Rattle.ark_transcript.specs.Calls.{Call, Absorbed}
use Rattle.ark_transcript.specs.Challenges.{IsChallenge}
use Rattle.ark_sum_check.specs.Cube.{degree_of}
use Rattle.ark_sum_check.specs.Provers.{Summed, sum_of, variables_of}
use Rattle.ark_sum_check.specs.Rounds.{AreChallenged, Round}
use Rattle.ark_sum_check.specs.declared.verifier.Claim.{Claim}

-- the labels variables, degree, sum, value and challenge, in ASCII
abbrev pub variables_label : List ℕ
variables_label = 118 ∷ 97 ∷ 114 ∷ 105 ∷ 97 ∷ 98 ∷ 108 ∷ 101 ∷ 115 ∷ []

abbrev pub degree_label : List ℕ
degree_label = 100 ∷ 101 ∷ 103 ∷ 114 ∷ 101 ∷ 101 ∷ []

abbrev pub sum_label : List ℕ
sum_label = 115 ∷ 117 ∷ 109 ∷ []

abbrev pub value_label : List ℕ
value_label = 118 ∷ 97 ∷ 108 ∷ 117 ∷ 101 ∷ []

abbrev pub challenge_label : List ℕ
challenge_label = 99 ∷ 104 ∷ 97 ∷ 108 ∷ 108 ∷ 101 ∷ 110 ∷ 103 ∷ 101 ∷ []

-- the calls once a claim is absorbed: its number of variables, its degree and its sum
abbrev pub after_claim : {F : Type 0} → Format F → Claim F → List Call → List Call
after_claim e claim calls =
    calls ++ (Absorbed variables_label (to_le_bytes w64 claim.num_vars) ∷ Absorbed degree_label (to_le_bytes w64 claim.degree)
    ∷ Absorbed sum_label (e.spelling claim.sum) ∷ [])

-- the calls once a round's values are absorbed, one after the other
abbrev pub after_values : {F : Type 0} → Format F → List F → List Call → List Call
after_values e values calls = calls ++ map (λ v. Absorbed value_label (e.spelling v)) values

-- the challenge x after a round with these values, and the calls after it: the values are absorbed, and then it is asked for
abbrev pub IsRoundChallenge : {F : Type 0} → FieldOn F → Format F → ℕ → List Call → List F → F → List Call → Type 0
IsRoundChallenge K e size calls values x after = IsChallenge K e size challenge_label 4096 (after_values e values calls) x after

-- rounds whose challenges follow from calls and a claim, which is absorbed before them, and the calls after them
abbrev pub AreDerived : {F : Type 0} → FieldOn F → Format F → ℕ → Claim F → List Call → List (Round F) → List Call → Type 0
AreDerived K e size claim calls rounds after = AreChallenged (IsRoundChallenge K e size) (after_claim e claim calls) rounds after

-- the claim that a prover's sum is this
abbrev pub claim_of : {F : Type 0} → FieldOn F → Summed F → F → Claim F
claim_of K p sum = record { num_vars = variables_of p; degree = max 1 (degree_of (sum_of K p)); sum = sum }

-- the same of a prover whose tables lie in a field below, with the sum by f
abbrev pub claim_within : {F E : Type 0} → FieldOn F → (F → E) → Summed F → F → Claim E
claim_within K f p sum = record { num_vars = variables_of p; degree = max 1 (degree_of (sum_of K p)); sum = f sum }
