-- The length of a list of the product of factors x - r.
use Rattle.std.proofs.Common.{◌≡◌, ◌+◌, ◌-◌, ◌<◌, ◌≤◌, List, length, ◌∙◌, ap, arith, ⊎_elim}
use Rattle.std.proofs.lemmas.Bool.{cases_lt}
use Rattle.ark_math.specs.Field.{FieldOn, IsField}
use Rattle.ark_math.specs.Univariate.{of_list, IsTrimmed}
use Rattle.ark_math_polynomials.specs.Nodes.{nodes}
use Rattle.rs_code.proofs.Factors.{nodes-short}

-- a trimmed list of the product of x - r for m of them has at most m + 1 items
pub nodes_length : {F : Type 0} (K : FieldOn F) → IsField K → (rs p : List F) → IsTrimmed K p → of_list K p ≡ nodes K rs → length p ≤ length rs + 1
nodes_length K N rs p trimmed is =
    ⊎_elim
    (λ (l : length rs + 1 < length p).
    absurd (trimmed (omega arith) (ap (λ a. a (length p - 1)) is ∙ nodes-short K N rs (length p - 1) (omega arith))))
    (λ (m : length p ≤ length rs + 1). m)
    (cases_lt (length rs + 1) (length p))
