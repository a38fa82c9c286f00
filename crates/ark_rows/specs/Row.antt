-- Elements side by side, as contracts see them.
use Rattle.std.specs.Prelude.{ℕ, List, ◌≡◌, ◌<◌, get_or}
use Rattle.std.proofs.Common.{replicate}
use Rattle.std.proofs.lemmas.List.{length-replicate}
use Rattle.ark_math.specs.Field.{FieldOn, minus}
use Rattle.ark_rows.specs.declared.row.Row.{Row}

-- the elements of all lanes, in their order
abbrev pub row_elements : {F : Type 0} {N : ℕ} → Row F N → List F
row_elements r = r.items

-- the element of each lane, and zero past the last one
abbrev pub lanes : {F : Type 0} {N : ℕ} → FieldOn F → Row F N → ℕ → F
lanes K r i = get_or r.items i K.zero

-- zero in every lane
abbrev pub zero_row : {F : Type 0} {N : ℕ} → FieldOn F → Row F N
zero_row {N = N} K = record { items = replicate N K.zero; whole = length-replicate N K.zero }

-- r is a + b, lane by lane
abbrev pub IsSum : {F : Type 0} {N : ℕ} → FieldOn F → (a b r : Row F N) → Type 0
IsSum {N = N} K a b r = (i : ℕ) → i < N → lanes K r i ≡ K.plus (lanes K a i) (lanes K b i)

-- r is a - b, lane by lane
abbrev pub IsDifference : {F : Type 0} {N : ℕ} → FieldOn F → (a b r : Row F N) → Type 0
IsDifference {N = N} K a b r = (i : ℕ) → i < N → lanes K r i ≡ minus K (lanes K a i) (lanes K b i)

-- r is f times a, lane by lane
abbrev pub IsMultiple : {F : Type 0} {N : ℕ} → FieldOn F → (f : F) (a r : Row F N) → Type 0
IsMultiple {N = N} K f a r = (i : ℕ) → i < N → lanes K r i ≡ K.times f (lanes K a i)
