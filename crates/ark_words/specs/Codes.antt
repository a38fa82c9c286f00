-- Reed-Solomon codes over lists of words: the codeword of a message of k numbers is the n values of the polynomial with these
-- coefficients over the domain of n elements with offset 1.
use Rattle.std.specs.Prelude.{◌≡◌, ℕ, ◌+◌, ◌*◌, ◌/◌, ◌%◌, ◌<◌, ◌≤◌, ◌==◌, List, All, length, get_or, slice_range, take, count_by}
use Rattle.ark_numbers.specs.Fields.{Known}
use Rattle.ark_numbers.specs.Answers.{IsLength, coset_of, AreValues}
use Rattle.ark_words.specs.Numbers.{Spelled, numbers, AreWhole, AreReduced}

-- a domain of the field has n elements
abbrev pub HasCode : Spelled → ℕ → Type 0
HasCode f n = IsLength f.known n

-- ---- a message of k numbers, and a word of n for its codeword

-- k is one of 1 .. n
abbrev pub FitCode : Spelled → List ℕ → List ℕ → Type 0
FitCode f message word = AreWhole f message × AreWhole f word × (0 < length message) × (length message ≤ length word)

-- there is a code for words like this one
abbrev pub HasCodeFor : Spelled → List ℕ → Type 0
HasCodeFor f word = HasCode f (length word / f.width)

-- all of it
abbrev pub IsEncodable : Spelled → List ℕ → List ℕ → Type 0
IsEncodable f message word = FitCode f message word × AreReduced f message × HasCodeFor f word

-- the word spells the message's codeword
abbrev pub IsEncoded : Spelled → List ℕ → List ℕ → Type 0
IsEncoded f message word = AreValues f.known (coset_of f.known (length word / f.width) 1) (numbers f.width message) (numbers f.width word)

-- ---- the code in systematic form

-- k numbers below the modulus
abbrev pub IsMessage : Known → ℕ → List ℕ → Type 0
IsMessage f k m = (length m ≡ k) × All (λ x. x < f.modulus) m

-- c is the codeword of n numbers of some message of k
abbrev pub IsCodeword : Known → ℕ → ℕ → List ℕ → Type 0
IsCodeword f n k c = (m : List ℕ) × IsMessage f k m × AreValues f (coset_of f n 1) m c

-- c is the only codeword of n numbers that begins with the k numbers of m
pub record IsSystematic (f : Known) (n : ℕ) (m c : List ℕ) : Type 0 where
  pub codeword : IsCodeword f n (length m) c
  pub begins : take (length m) c ≡ m
  pub only : (other : List ℕ) → IsCodeword f n (length m) other → take (length m) other ≡ m → other ≡ c

-- the word spells the only codeword that begins with the message
abbrev pub IsExtendedToCodeword : Spelled → List ℕ → List ℕ → Type 0
IsExtendedToCodeword f message word = IsSystematic f.known (length word / f.width) (numbers f.width message) (numbers f.width word)

-- ---- a word with places lost: those of which the byte isn't 0

-- how many places are left
abbrev pub left_count : List ℕ → ℕ
left_count erased = count_by (λ byte. byte == 0) erased

-- c has the word's numbers at the places that are left
abbrev pub AgreesWith : List ℕ → List ℕ → List ℕ → Type 0
AgreesWith erased word c = (i : ℕ) → get_or erased i 1 ≡ 0 → get_or c i 0 ≡ get_or word i 0

-- a codeword has what is left of a word
abbrev pub HasCodeword : Known → List ℕ → ℕ → List ℕ → Type 0
HasCodeword f erased k word = (c : List ℕ) × IsCodeword f (length erased) k c × AgreesWith erased word c

-- c is the only codeword that has what is left of a word
pub record IsRestored (f : Known) (erased : List ℕ) (k : ℕ) (word c : List ℕ) : Type 0 where
  pub codeword : IsCodeword f (length erased) k c
  pub agrees : AgreesWith erased word c
  pub only : (other : List ℕ) → IsCodeword f (length erased) k other → AgreesWith erased word other → other ≡ c

-- ---- words of n numbers, one after another, all with the same n places left or lost

-- the n numbers of word j
abbrev pub word_at : ℕ → List ℕ → ℕ → List ℕ
word_at n xs j = slice_range xs (j * n) ((j + 1) * n)

-- one word or more, and k is one of 1 .. n
abbrev pub FitWords : Spelled → List ℕ → List ℕ → ℕ → Type 0
FitWords f words erased k = AreWhole f words × (0 < length words) × ((length words / f.width) % length erased ≡ 0)
    × (0 < k) × (k ≤ length erased)

-- a codeword has what is left of each word
abbrev pub HaveCodewords : Spelled → List ℕ → List ℕ → ℕ → Type 0
HaveCodewords f words erased k = (j : ℕ) → j < length words / f.width / length erased
    → HasCodeword f.known erased k (word_at (length erased) (numbers f.width words) j)

-- every word became its only codeword
abbrev pub AreRestored : Spelled → List ℕ → List ℕ → ℕ → List ℕ → Type 0
AreRestored f old erased k new = (j : ℕ) → j < length old / f.width / length erased
    → IsRestored f.known erased k (word_at (length erased) (numbers f.width old) j) (word_at (length erased) (numbers f.width new) j)

-- ---- the messages of such words, of k numbers each, one after another

-- how many words of n numbers there are
abbrev pub word_count : Spelled → List ℕ → List ℕ → ℕ
word_count f words erased = length words / f.width / length erased

-- how many numbers each message has
abbrev pub message_size : Spelled → List ℕ → List ℕ → List ℕ → ℕ
message_size f words erased messages = length messages / f.width / word_count f words erased

-- one word or more, as many messages, and k is one of 1 .. n
abbrev pub FitMessages : Spelled → List ℕ → List ℕ → List ℕ → Type 0
FitMessages f words erased messages = AreWhole f words × ((length words / f.width) % length erased ≡ 0) × (0 < word_count f words erased)
    × AreWhole f messages × ((length messages / f.width) % word_count f words erased ≡ 0)
    × (0 < message_size f words erased messages) × (message_size f words erased messages ≤ length erased)

-- the codeword of m has what is left of a word
abbrev pub HasWhatIsLeft : Known → List ℕ → List ℕ → List ℕ → Type 0
HasWhatIsLeft f erased word m = (c : List ℕ) × AreValues f (coset_of f (length erased) 1) m c × AgreesWith erased word c

-- m is the only message whose codeword has what is left of a word
pub record IsFound (f : Known) (erased : List ℕ) (k : ℕ) (word m : List ℕ) : Type 0 where
  pub message : IsMessage f k m
  pub agrees : HasWhatIsLeft f erased word m
  pub only : (other : List ℕ) → IsMessage f k other → HasWhatIsLeft f erased word other → other ≡ m

-- every message is the only one of its word
abbrev pub AreFound : Spelled → List ℕ → List ℕ → ℕ → List ℕ → Type 0
AreFound f words erased k messages = (j : ℕ) → j < word_count f words erased
    → IsFound f.known erased k (word_at (length erased) (numbers f.width words) j) (word_at k (numbers f.width messages) j)
