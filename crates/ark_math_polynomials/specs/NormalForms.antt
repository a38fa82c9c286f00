-- Normal forms: of all lists that denote one polynomial, the one that a trimmed or a sparse polynomial keeps. z tests for
-- zero, and plus adds.
use Rattle.std.specs.Prelude.{ℕ, ◌==◌, nat_lt, Bool, List, [], ◌∷◌, if◌then◌else◌}

-- x before the trimmed list, unless both are zero
abbrev pub onto : {F : Type 0} → (F → Bool) → F → List F → List F
onto z x [] = if z x then [] else x ∷ []
onto z x (y ∷ ys) = x ∷ y ∷ ys

-- a list of coefficients without the zeros at its end
abbrev pub trim : {F : Type 0} → (F → Bool) → List F → List F
trim z [] = []
trim z (x ∷ xs) = onto z x (trim z xs)

-- the pair before the list, unless its coefficient is zero
abbrev pub pair_onto : {F : Type 0} → (F → Bool) → ℕ × F → List (ℕ × F) → List (ℕ × F)
pair_onto z x ps = if z x.1 then ps else x ∷ ps

-- the pair at its place in the sparse list, added to the pair of the same exponent
abbrev pub pair_into : {F : Type 0} → (F → Bool) → (F → F → F) → ℕ × F → List (ℕ × F) → List (ℕ × F)
pair_into z plus x [] = pair_onto z x []
pair_into z plus x (y ∷ ys) =
    if nat_lt x.0 y.0 then pair_onto z x (y ∷ ys) else if x.0 == y.0 then pair_onto z (x.0, plus x.1 y.1) ys else y ∷ pair_into z plus x ys

-- a list of (exponent, coefficient) with its exponents strictly rising, like ones added up, and no coefficient zero
abbrev pub gather : {F : Type 0} → (F → Bool) → (F → F → F) → List (ℕ × F) → List (ℕ × F)
gather z plus [] = []
gather z plus (x ∷ xs) = pair_into z plus x (gather z plus xs)
