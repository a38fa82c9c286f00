-- How the values of a type are spelled in bytes, and where reading stops at a fault.
use Rattle.std.specs.Prelude.{◌≡◌, ◌≢◌, ◌↔◌, ℕ, suc, zero, ◌+◌, ◌*◌, ◌/◌, ◌%◌, ◌^◌, ◌<◌, List, [], ◌∷◌, ◌++◌, length, ◌⊎◌}
use Rattle.std.proofs.Common.{inl, inr}
use Rattle.std.specs.List.{flat_map, AllByRecursion}

-- the spelling of each value, which values have one, and the bytes after which reading stops, since no spelling begins so
pub record Format (X : Type 0) : Type 1 where
  pub spelling : X → List ℕ
  pub HasSpelling : X → Type 0
  pub IsFault : List ℕ → Type 0

-- the spelling of a value
pub record IsSpelled {X : Type 0} (format : Format X) (bytes : List ℕ) : Type 0 where
  pub value : X
  pub has : format.HasSpelling value
  pub is : bytes ≡ format.spelling value

-- where reading stops
abbrev pub IsEnd : {X : Type 0} → Format X → List ℕ → Type 0
IsEnd format bytes = IsSpelled format bytes ⊎ format.IsFault bytes

-- reading does not stop within these bytes
abbrev pub IsUnfinished : {X : Type 0} → Format X → List ℕ → Type 0
IsUnfinished format bytes = (front rest : List ℕ) → bytes ≡ front ++ rest → IsEnd format front → ⊥

-- reading stops at one place alone: no spelling and no fault begins another, and none is both
pub record IsFormat {X : Type 0} (format : Format X) : Type 0 where
  pub one_end : (a b x y : List ℕ) → IsEnd format a → IsEnd format b → a ++ x ≡ b ++ y → a ≡ b
  pub no_fault : (bytes : List ℕ) → IsSpelled format bytes → format.IsFault bytes → ⊥

-- a spelling tells what `view` shows of its value
abbrev pub Tells : {X V : Type 0} → (X → V) → Format X → Type 0
Tells {X = X} view format =
    (x y : X) → format.HasSpelling x → format.HasSpelling y → format.spelling x ≡ format.spelling y → view x ≡ view y

-- a spelling tells its value
abbrev pub IsOneToOne : {X : Type 0} → Format X → Type 0
IsOneToOne format = Tells (λ x. x) format

-- two values of one spelling
pub record AreSpelledAlike {X : Type 0} (format : Format X) (x y : X) : Type 0 where
  pub has : format.HasSpelling x
  pub other : format.HasSpelling y
  pub same : format.spelling x ≡ format.spelling y

-- values that are spelled alike in one format are so in the other one
abbrev pub KeepsAlike : {X : Type 0} → Format X → Format X → Type 0
KeepsAlike {X = X} from to = (x y : X) → AreSpelledAlike from x y → AreSpelledAlike to x y

-- the bytes begin with `first`, which is the spelling of a value, and `second` is that value's other spelling
pub record BeginsWithOneOfTwo {X : Type 0} (format other : Format X) (bytes first second : List ℕ) : Type 0 where
  pub value : X
  pub has : format.HasSpelling value
  pub spells : first ≡ format.spelling value
  pub other_spells : second ≡ other.spelling value
  pub rest : List ℕ
  pub begins : bytes ≡ first ++ rest

-- ---- numbers

-- n in so many bytes, the low one first
abbrev pub little_endian : ℕ → ℕ → List ℕ
little_endian zero n = []
little_endian (suc width) n = n % 256 ∷ little_endian width (n / 256)

-- the number that bytes spell, the low one first
abbrev pub number_of : List ℕ → ℕ
number_of [] = 0
number_of (byte ∷ bytes) = byte + 256 * number_of bytes

-- a number in so many bytes
abbrev pub number : ℕ → Format ℕ
number width = record { spelling = little_endian width; HasSpelling = λ n. n < 256 ^ width; IsFault = λ _. ⊥ }

abbrev pub word : Format ℕ
word = number 8

-- ---- pairs

-- a value of one format, and then a fault of the other
pub record IsLaterFault {X Y : Type 0} (first : Format X) (second : Format Y) (bytes : List ℕ) : Type 0 where
  pub value : X
  pub has : first.HasSpelling value
  pub fault : List ℕ
  pub faulty : second.IsFault fault
  pub is : bytes ≡ first.spelling value ++ fault

-- one value and then another
infixr 10 ◌⊗◌
abbrev pub ◌⊗◌ : {X Y : Type 0} → Format X → Format Y → Format (X × Y)
first ⊗ second = record {
  spelling = λ p. first.spelling p.0 ++ second.spelling p.1;
  HasSpelling = λ p. first.HasSpelling p.0 × second.HasSpelling p.1;
  IsFault = λ bytes. first.IsFault bytes ⊎ IsLaterFault first second bytes;
}

-- ---- lists

-- the spellings of items, one after another
abbrev pub items : {X : Type 0} → Format X → List X → List ℕ
items item xs = flat_map item.spelling xs

abbrev pub HaveSpellings : {X : Type 0} → Format X → List X → Type 0
HaveSpellings item xs = AllByRecursion item.HasSpelling xs

-- a length, fewer items than that, and then a fault of an item
pub record IsItemFault {X : Type 0} (item : Format X) (bytes : List ℕ) : Type 0 where
  pub count : ℕ
  pub counts : word.HasSpelling count
  pub front : List X
  pub have : HaveSpellings item front
  pub fewer : length front < count
  pub fault : List ℕ
  pub faulty : item.IsFault fault
  pub is : bytes ≡ word.spelling count ++ (items item front ++ fault)

-- a list: its length, and then its items
abbrev pub list : {X : Type 0} → Format X → Format (List X)
list item = record {
  spelling = λ xs. word.spelling (length xs) ++ items item xs;
  HasSpelling = λ xs. word.HasSpelling (length xs) × HaveSpellings item xs;
  IsFault = IsItemFault item;
}

-- ---- values that are told by their fields

-- whole fields, and no lawful value's
pub record IsUnlawful {X Y : Type 0} (layout : Format X) (fields : Y → X) (IsLawful : Y → Type 0) (bytes : List ℕ) : Type 0 where
  pub whole : IsSpelled layout bytes
  pub none : (y : Y) → layout.HasSpelling (fields y) → IsLawful y → bytes ≢ layout.spelling (fields y)

-- a value is spelled as its fields, where it is lawful
abbrev pub lawful : {X Y : Type 0} → Format X → (Y → X) → (Y → Type 0) → Format Y
lawful layout fields IsLawful = record {
  spelling = λ y. layout.spelling (fields y);
  HasSpelling = λ y. layout.HasSpelling (fields y) × IsLawful y;
  IsFault = λ bytes. layout.IsFault bytes ⊎ IsUnlawful layout fields IsLawful bytes;
}

-- a value is spelled as its fields, for a type of lawful values alone
abbrev pub stored : {X Y : Type 0} → Format X → (Y → X) → Format Y
stored {Y = Y} layout fields = lawful layout fields (λ (y : Y). Unit {0})

-- ---- one of two

-- a tag, and then what it tells
abbrev pub either_spelling : {X Y : Type 0} → Format X → Format Y → X ⊎ Y → List ℕ
either_spelling first second (inl x) = 0 ∷ first.spelling x
either_spelling first second (inr y) = 1 ∷ second.spelling y

abbrev pub EitherHas : {X Y : Type 0} → Format X → Format Y → X ⊎ Y → Type 0
EitherHas first second (inl x) = first.HasSpelling x
EitherHas first second (inr y) = second.HasSpelling y

-- another tag, or a fault after one of these
abbrev pub IsTagFault : {X Y : Type 0} → Format X → Format Y → List ℕ → Type 0
IsTagFault first second [] = ⊥
IsTagFault first second (tag ∷ bytes) =
    ((tag ≡ 0) × first.IsFault bytes) ⊎ ((tag ≡ 1) × second.IsFault bytes) ⊎ ((1 < tag) × (tag < 256) × (bytes ≡ []))

-- a value of one type or of another, with a tag before it
abbrev pub either : {X Y : Type 0} → Format X → Format Y → Format (X ⊎ Y)
either first second = record {
  spelling = λ v. either_spelling first second v;
  HasSpelling = λ v. EitherHas first second v;
  IsFault = IsTagFault first second;
}

-- what two views show of one of two
abbrev pub shown_either : {X Y V W : Type 0} → (X → V) → (Y → W) → X ⊎ Y → V ⊎ W
shown_either left right (inl x) = inl (left x)
shown_either left right (inr y) = inr (right y)

-- ---- elements of a field

-- every element has a spelling of its own, of one length
pub record AreElements {F : Type 0} (e : Format F) (size : ℕ) : Type 0 where
  pub positive : 0 < size
  pub all : (x : F) → e.HasSpelling x
  pub lengths : (x : F) → length (e.spelling x) ≡ size
  pub one_to_one : IsOneToOne e

-- two formats of one type that are the same, as those of a field's modes, or of a term's, are
pub record AreAlike {F : Type 0} (e other : Format F) : Type 0 where
  pub spellings : (x : F) → e.spelling x ≡ other.spelling x
  pub have : (x : F) → e.HasSpelling x ↔ other.HasSpelling x
  pub faults : (bytes : List ℕ) → e.IsFault bytes ↔ other.IsFault bytes
