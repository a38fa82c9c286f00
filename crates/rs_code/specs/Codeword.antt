-- Codewords, and words with places erased.
use Rattle.std.specs.Prelude.{◌≡◌, ◌≢◌, ℕ, ◌≤◌, ◌-◌, ◌++◌, Bool, true, false, List, length, Option, Some, None, get_or, count_by, is_none, replicate}
use Rattle.ark_math.specs.Field.{FieldOn}
use Rattle.ark_math.specs.Module.{ModuleOn, item}
use Rattle.ark_math.specs.Domain.{Domain}
use Rattle.ark_math.specs.Transform.{transform}

-- c is the codeword of some message of at most k items
abbrev pub IsCodeword : {F M : Type 0} → FieldOn F → ModuleOn F M → Domain F → ℕ → List M → Type 0
IsCodeword {F} {M} K V d k c = (m : List M) × (length m ≤ k) × (c ≡ transform K V d m)

-- c has the word's value, by its meaning, at each place that isn't erased
abbrev pub AgreesWith : {F M X : Type 0} → ModuleOn F M → (X → M) → List (Option X) → List M → Type 0
AgreesWith {F} {M} {X} V meaning word c = (i : ℕ) (x : X) → get_or word i None ≡ Some x → item V c i ≡ meaning x

-- c has the word's value at each place that isn't erased, but maybe at one place
abbrev pub AgreesBut : {F M X : Type 0} → ModuleOn F M → (X → M) → List (Option X) → ℕ → List M → Type 0
AgreesBut {F} {M} {X} V meaning word place c = (i : ℕ) (x : X) → i ≢ place → get_or word i None ≡ Some x → item V c i ≡ meaning x

-- how many places of a word are erased
abbrev pub erasure_count : {X : Type 0} → List (Option X) → ℕ
erasure_count word = count_by is_none word

-- c has the word's value at each place that isn't marked
abbrev pub AgreesElsewhere : {F M : Type 0} → ModuleOn F M → List Bool → List M → List M → Type 0
AgreesElsewhere V marks word c = (i : ℕ) → get_or marks i true ≡ false → item V c i ≡ item V word i

-- how many places are marked
abbrev pub mark_count : List Bool → ℕ
mark_count marks = count_by (λ mark. mark) marks

-- all of n places marked but the first k
abbrev pub after_first : ℕ → ℕ → List Bool
after_first k n = replicate k false ++ replicate (n - k) true
