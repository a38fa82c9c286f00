-- A word spells at most one number and at most one list, and the list is in the pieces between its commas.
use Rattle.std.proofs.Common.{◌≡◌, ◌⊎◌, ◌↔◌, ℕ, ◌%◌, ◌<◌, ◌≤◌, Bool, true, false, true≢false, cond, ◌&&◌, eqb, ltb, List, [], ◌∷◌, length, ◌++◌, append-nil, Option, Some, None, IsSome, option_map, map, suc, IsTrue, IfSome, IfNone, sym, refl, ap, ap₂, ◌∙◌, inl, inr, arith, lt-ltb, ltb-true, ne_eqb, subst, lt_irrefl}
use denote.Ref.{Bor}
use Rattle.std.proofs.lemmas.List.{map-append}
use Rattle.std.specs.Bool.{MatchBool}
use Rattle.std.specs.List.{All, AllWithin, HoldsAt, slice_split, filter_map, cons_option}
use Rattle.std.specs.Char.{digit_value, is_ascii_digit}
use Rattle.std.specs.Str.{all_ascii_digits}
use Rattle.std.specs.Str.Parse.{AllDigits, digits_value}
use Rattle.std.proofs.lemmas.Bool.{and_from, and_parts, MatchBool-at_true}
use Rattle.std.proofs.lemmas.Iterator.Search.{true_from_All}
use Rattle.std.proofs.lemmas.List.Elements.{All-nil, All-cons, All-head, All-tail, All-from_all_within}
use Rattle.std.proofs.lemmas.List.Splits.{slice_split_none, slice_split_at, join_with_byte-slice_split}
use Rattle.std.proofs.lemmas.Str.Parse.{IsNumeralModel, numerals_by_value, tells_all_ascii_digits, digit_from_value}
use Rattle.ark_math.specs.Prime.{IsPrime}
use Rattle.ark_base.specs.Residues.{Numbering, residue_of}
use Rattle.ark_base.specs.ResiduesLaws.{number_of_residue}
use Rattle.ark_base.specs.Numerals.{IsDecimal}
use Rattle.polyrun_lib.specs.Words.{comma, joined, AreNumbers, IsList, SpellsNumber, SpellsList}

-- a word spells at most one number
pub IsDecimal-same : (word : List ℕ) (m n : ℕ) → IsDecimal word m → IsDecimal word n → m ≡ n
IsDecimal-same word m n first second = first.value ∙ sym second.value

pub AreNumbers-same : (words : List (List ℕ)) (ms ns : List ℕ) → AreNumbers words ms → AreNumbers words ns → ms ≡ ns
AreNumbers-same [] [] [] first second = refl
AreNumbers-same [] [] (n ∷ ns) first second = absurd second
AreNumbers-same [] (m ∷ ms) ns first second = absurd first
AreNumbers-same (word ∷ words) [] ns first second = absurd first
AreNumbers-same (word ∷ words) (m ∷ ms) [] first second = absurd second
AreNumbers-same (word ∷ words) (m ∷ ms) (n ∷ ns) first second = ap₂ (λ x xs. x ∷ xs) (IsDecimal-same word m n first.0 second.0) (AreNumbers-same words ms ns first.1 second.1)

-- the pieces of a word between its commas
abbrev pub pieces : List ℕ → List (List ℕ)
pieces word = slice_split (λ b. eqb b comma) word

no_comma : (word : List ℕ) → AllDigits 10 word → All (λ b. eqb b comma ≡ false) word
no_comma [] digits = All-nil (λ b. eqb b comma ≡ false)
no_comma (b ∷ word) digits =
    let range = digit_from_value b digits.0 in
    let below : 48 ≤ b = range.0 in
    All-cons (λ x. eqb x comma ≡ false) b word (ne_eqb b comma (λ e. omega arith)) (no_comma word digits.1)

-- words that spell numbers are the pieces of what they are joined to
pub pieces-joined : (word : List ℕ) (words : List (List ℕ)) (number : ℕ) (numbers : List ℕ) → AreNumbers (word ∷ words) (number ∷ numbers) → pieces (joined (word ∷ words)) ≡ word ∷ words
pieces-joined word [] number numbers are = slice_split_none (λ b. eqb b comma) word (no_comma word are.0.digits.1)
pieces-joined word (next ∷ words) number [] are = absurd are.1
pieces-joined word (next ∷ words) number (following ∷ numbers) are =
    slice_split_at (λ b. eqb b comma) word comma (joined (next ∷ words)) (no_comma word are.0.digits.1) refl
    ∙ ap (λ xs. word ∷ xs) (pieces-joined next words following numbers are.1)

pub IsList-from_pieces : (word : List ℕ) (numbers : List ℕ) → AreNumbers (pieces word) numbers → IsList word numbers
IsList-from_pieces word numbers are = record { words = pieces word; joins = sym (join_with_byte-slice_split comma word); spelled = are }

-- a list is empty, of the empty word, or the numbers of the pieces
pub pieces_from_IsList : (word : List ℕ) (numbers : List ℕ) → IsList word numbers → ((word ≡ []) × (numbers ≡ [])) ⊎ AreNumbers (pieces word) numbers
pieces_from_IsList word numbers list = by_words list.words numbers list.joins list.spelled
  where
    by_words : (words : List (List ℕ)) (numbers : List ℕ) → word ≡ joined words → AreNumbers words numbers → ((word ≡ []) × (numbers ≡ [])) ⊎ AreNumbers (pieces word) numbers
    by_words [] [] e are = inl (e, refl)
    by_words [] (n ∷ ns) e are = absurd are
    by_words (w ∷ ws) [] e are = absurd are
    by_words (w ∷ ws) (n ∷ ns) e are = inr (rw (e, pieces-joined w ws n ns are) are)

-- a word spells at most one list
pub IsList-same : (word : List ℕ) (ms ns : List ℕ) → IsList word ms → IsList word ns → ms ≡ ns
IsList-same word ms ns first second = by_cases (pieces_from_IsList word ms first) (pieces_from_IsList word ns second)
  where
    no_number : (numbers : List ℕ) → AreNumbers (pieces []) numbers → ⊥
    no_number [] are = are
    no_number (n ∷ ns) are = absurd (lt_irrefl 0 are.0.digits.0)

    by_cases : ((word ≡ []) × (ms ≡ [])) ⊎ AreNumbers (pieces word) ms → ((word ≡ []) × (ns ≡ [])) ⊎ AreNumbers (pieces word) ns → ms ≡ ns
    by_cases (inl empty) (inl also) = empty.1 ∙ sym also.1
    by_cases (inl empty) (inr are) = let P : List ℕ → Type 0 = λ w. AreNumbers (pieces w) ns in absurd (no_number ns (subst P empty.0 are))
    by_cases (inr are) (inl empty) = let P : List ℕ → Type 0 = λ w. AreNumbers (pieces w) ms in absurd (no_number ms (subst P empty.0 are))
    by_cases (inr are) (inr also) = AreNumbers-same (pieces word) ms ns are also

-- a word that isn't empty has as many pieces as its list has numbers
AreNumbers-length : (words : List (List ℕ)) (numbers : List ℕ) → AreNumbers words numbers → length words ≡ length numbers
AreNumbers-length [] [] are = refl
AreNumbers-length [] (n ∷ ns) are = absurd are
AreNumbers-length (w ∷ ws) [] are = absurd are
AreNumbers-length (w ∷ ws) (n ∷ ns) are = ap suc (AreNumbers-length ws ns are.1)

pub numbers_of_pieces : (word numbers : List ℕ) → (word ≡ [] → ⊥) → IsList word numbers → length (pieces word) ≡ length numbers
numbers_of_pieces word numbers some list = by_cases (pieces_from_IsList word numbers list)
  where
    by_cases : ((word ≡ []) × (numbers ≡ [])) ⊎ AreNumbers (pieces word) numbers → length (pieces word) ≡ length numbers
    by_cases (inl empty) = absurd (some empty.0)
    by_cases (inr are) = AreNumbers-length (pieces word) numbers are

-- and the empty word's list has none
pub no_numbers : (word numbers : List ℕ) → length word ≡ 0 → IsList word numbers → 0 ≡ length numbers
no_numbers [] numbers none list = ap length (IsList-same [] [] numbers (record { words = []; joins = refl; spelled = tt }) list)
no_numbers (b ∷ word) numbers none list = absurd (omega (arith, none))

-- the number of a word that spells one, as a function
is_number : List ℕ → Bool
is_number word = all_ascii_digits word && ltb 0 (length word)

pub number_in : List ℕ → Option ℕ
number_in word = cond (is_number word) (Some (digits_value 10 word)) None

digit_words : IsNumeralModel (λ ds. all_ascii_digits ds ≡ true) (digits_value 10)
digit_words = numerals_by_value _ tells_all_ascii_digits

is_number-true : (word : List ℕ) (n : ℕ) → IsDecimal word n → is_number word ≡ true
unfolding is_number
is_number-true word n number = and_from _ _ (digit_words.from word number.digits.1) (lt-ltb 0 (length word) number.digits.0)

IsDecimal-from_is_number : (word : List ℕ) → is_number word ≡ true → IsDecimal word (digits_value 10 word)
unfolding is_number
IsDecimal-from_is_number word test =
    let both = and_parts _ _ test in
    record { digits = (ltb-true 0 (length word) both.1, digit_words.to word both.0); value = refl }

pub number_in-some : (word : List ℕ) (n : ℕ) → IsDecimal word n → number_in word ≡ Some n
unfolding number_in
number_in-some word n number = rw (is_number-true word n number) (ap Some (sym number.value))

number_in-none : (word : List ℕ) → ((n : ℕ) → IsDecimal word n → ⊥) → number_in word ≡ None
unfolding number_in
number_in-none word none = by_test (is_number word) refl
  where
    by_test : (b : Bool) → is_number word ≡ b → number_in word ≡ None
    by_test true e = absurd (none _ (IsDecimal-from_is_number word e))
    by_test false e = rw e refl

filter_map-AreNumbers : (words : List (List ℕ)) (numbers : List ℕ) → AreNumbers words numbers → filter_map number_in words ≡ numbers
filter_map-AreNumbers [] [] are = refl
filter_map-AreNumbers [] (n ∷ ns) are = absurd are
filter_map-AreNumbers (w ∷ ws) [] are = absurd are
filter_map-AreNumbers (w ∷ ws) (n ∷ ns) are = rw (number_in-some w n are.0) (ap (λ xs. n ∷ xs) (filter_map-AreNumbers ws ns are.1))

-- the list is made of the pieces that are numbers
pub filter_map-pieces : (word : List ℕ) (numbers : List ℕ) → IsList word numbers → filter_map number_in (pieces word) ≡ numbers
unfolding number_in is_number
filter_map-pieces word numbers list = by_cases (pieces_from_IsList word numbers list)
  where
    none : filter_map number_in (pieces []) ≡ []
    none = refl

    by_cases : ((word ≡ []) × (numbers ≡ [])) ⊎ AreNumbers (pieces word) numbers → filter_map number_in (pieces word) ≡ numbers
    by_cases (inl empty) = rw (empty.0, empty.1) none
    by_cases (inr are) = filter_map-AreNumbers (pieces word) numbers are

all_from_AreNumbers : (words : List (List ℕ)) (numbers : List ℕ) → AreNumbers words numbers → All SpellsNumber words
all_from_AreNumbers [] numbers are = All-nil SpellsNumber
all_from_AreNumbers (w ∷ ws) [] are = absurd are
all_from_AreNumbers (w ∷ ws) (n ∷ ns) are = All-cons SpellsNumber w ws (n, are.0) (all_from_AreNumbers ws ns are.1)

AreNumbers-from_all : (words : List (List ℕ)) → All SpellsNumber words → (numbers : List ℕ) × AreNumbers words numbers
AreNumbers-from_all [] all = ([], tt)
AreNumbers-from_all (w ∷ ws) all =
    let first = All-head SpellsNumber w ws all in
    let rest = AreNumbers-from_all ws (All-tail SpellsNumber w ws all) in
    (first.0 ∷ rest.0, (first.1, rest.1))

-- a word spells no number
abbrev pub SpellsNone : List ℕ → Type 0
SpellsNone word = SpellsNumber word → ⊥

-- what `is_number` answers
pub spelled_where_true : (answer : Bool) (word : List ℕ) → IsTrue answer ↔ SpellsNumber word → answer ≡ true → SpellsNumber word
spelled_where_true answer word tells e = tells.0 e

pub unspelled_where_false : (answer : Bool) (word : List ℕ) → IsTrue answer ↔ SpellsNumber word → answer ≡ false → SpellsNone word
unspelled_where_false answer word tells e spelled = true≢false (sym (tells.1 spelled) ∙ e)

-- bytes that are digits, and bytes that are none
abbrev pub IsDigit : ℕ → Type 0
IsDigit b = digit_value b < 10

abbrev pub IsNoDigit : ℕ → Type 0
IsNoDigit b = IsDigit b → ⊥

pub digit_where_true : (b : ℕ) → is_ascii_digit b ≡ true → IsDigit b
digit_where_true b e = (digit_words.to (b ∷ []) (and_from _ _ e refl)).0

pub no_digit_where_false : (b : ℕ) → is_ascii_digit b ≡ false → IsNoDigit b
no_digit_where_false b e digit = true≢false (sym (and_parts _ _ (digit_words.from (b ∷ []) (digit, tt))).0 ∙ e)

digits_from_all : (word : List ℕ) → All IsDigit word → AllDigits 10 word
digits_from_all [] all = tt
digits_from_all (b ∷ word) all = (All-head IsDigit b word all, digits_from_all word (All-tail IsDigit b word all))

all_from_digits : (word : List ℕ) → AllDigits 10 word → All IsDigit word
all_from_digits [] digits = All-nil IsDigit
all_from_digits (b ∷ word) digits = All-cons IsDigit b word digits.0 (all_from_digits word digits.1)

-- a word that is not empty spells a number exactly where each byte is a digit
pub SpellsNumber-from_all : (word : List ℕ) (answer : Bool) → 0 < length word → MatchBool answer (AllWithin IsDigit word 0 (length word)) ((k : ℕ) × (k < length word) × HoldsAt IsNoDigit word k) → IsTrue answer ↔ SpellsNumber word
SpellsNumber-from_all word answer some cases = (forward, backward)
  where
    forward : IsTrue answer → SpellsNumber word
    forward told =
        let digits = digits_from_all word (All-from_all_within IsDigit word (MatchBool-at_true _ _ told cases)) in
        (digits_value 10 word, record { digits = (some, digits); value = refl })

    backward : SpellsNumber word → IsTrue answer
    backward spelled = true_from_All IsDigit IsNoDigit answer word (λ b digit none. none digit) cases (all_from_digits word spelled.1.digits.1)

-- and the empty word spells none
pub none_of_empty : (word : List ℕ) → length word ≡ 0 → SpellsNumber word → ⊥
none_of_empty word empty spelled = let some = spelled.1.digits.0 in omega (arith, some, empty)

-- a word that is not empty spells a list exactly where each piece spells a number
pub SpellsList-from_all : (word : List ℕ) (answer : Bool) → (word ≡ [] → ⊥) → MatchBool answer (AllWithin SpellsNumber (pieces word) 0 (length (pieces word))) ((k : ℕ) × (k < length (pieces word)) × HoldsAt SpellsNone (pieces word) k) → IsTrue answer ↔ SpellsList word
SpellsList-from_all word answer some cases = (forward, backward)
  where
    forward : IsTrue answer → SpellsList word
    forward told =
        let numbers = AreNumbers-from_all (pieces word) (All-from_all_within SpellsNumber (pieces word) (MatchBool-at_true _ _ told cases)) in
        (numbers.0, IsList-from_pieces word numbers.0 numbers.1)

    by_cases : (numbers : List ℕ) → ((word ≡ []) × (numbers ≡ [])) ⊎ AreNumbers (pieces word) numbers → IsTrue answer
    by_cases numbers (inl empty) = absurd (some empty.0)
    by_cases numbers (inr are) = true_from_All SpellsNumber SpellsNone answer (pieces word) (λ w spelled unspelled. unspelled spelled) cases (all_from_AreNumbers (pieces word) numbers are)

    backward : SpellsList word → IsTrue answer
    backward list = by_cases list.0 (pieces_from_IsList word list.0 list.1)

-- ---- elements

cons_option-map : {B C : Type 0} (h : B → C) (o : Option B) (ys : List C) (xs : List B) → ys ≡ map h xs → cons_option (option_map h o) ys ≡ map h (cons_option o xs)
cons_option-map h None ys xs e = e
cons_option-map h (Some y) ys xs e = ap (λ l. h y ∷ l) e

filter_map-option_map : {A B C : Type 0} (f : A → Option B) (h : B → C) (xs : List A) → filter_map (λ x. option_map h (f x)) xs ≡ map h (filter_map f xs)
filter_map-option_map f h [] = refl
filter_map-option_map f h (x ∷ xs) = cons_option-map h (f x) _ _ (filter_map-option_map f h xs)

cons_option-append : {A : Type 0} (o : Option A) (xs ys : List A) → cons_option o xs ++ ys ≡ cons_option o (xs ++ ys)
cons_option-append None xs ys = refl
cons_option-append (Some x) xs ys = refl

filter_map-push : {A B : Type 0} (f : A → Option B) (xs : List A) (x : A) → filter_map f (xs ++ x ∷ []) ≡ filter_map f xs ++ cons_option (f x) []
filter_map-push f [] x = refl
filter_map-push f (y ∷ ys) x = ap (cons_option (f y)) (filter_map-push f ys x) ∙ sym (cons_option-append (f y) (filter_map f ys) (cons_option (f x) []))

module _ {F : Type 0} {p : ℕ} (N : Numbering F p) (P : IsPrime p) where
  -- the element of a word that spells a number, as a function
  abbrev pub element_in : List ℕ → Option F
  element_in word = option_map (residue_of N P) (number_in word)

  -- what `from_decimal` ensures of its answer makes it that of the function
  pub element_in-answer : (word : List ℕ) (answer : Option F) → IfSome answer (λ x. (n : ℕ) × IsDecimal word n × (N.number x ≡ n % p)) → IfNone answer ((n : ℕ) → IsDecimal word n → ⊥) → answer ≡ element_in word
  element_in-answer word (Some x) some none =
      ap Some (N.same _ _ (some.2 ∙ sym (number_of_residue N P some.0))) ∙ ap (option_map (residue_of N P)) (sym (number_in-some word some.0 some.1))
  element_in-answer word None some none = ap (option_map (residue_of N P)) (sym (number_in-none word none))

  -- the elements of some parts of a word, and of one more
  abbrev found_in : List (Bor (List ℕ)) → List F
  found_in parts = filter_map element_in (map (λ part. part.now) parts)

  found-push : (parts : List (Bor (List ℕ))) (part : Bor (List ℕ)) → found_in (parts ++ part ∷ []) ≡ found_in parts ++ cons_option (element_in part.now) []
  found-push parts part =
      ap (filter_map element_in) (map-append (λ part. part.now) parts (part ∷ [])) ∙ filter_map-push element_in (map (λ part. part.now) parts) part.now

  pub found_more : (parts : List (Bor (List ℕ))) (part : Bor (List ℕ)) (element : F) (before after : List F) → before ≡ found_in parts → Some element ≡ element_in part.now
      → after ≡ before ++ element ∷ [] → after ≡ found_in (parts ++ part ∷ [])
  found_more parts part element before after so_far is e =
      e ∙ ap₂ (λ l o. l ++ cons_option o []) so_far is ∙ sym (found-push parts part)

  pub none_more : (parts : List (Bor (List ℕ))) (part : Bor (List ℕ)) (before : List F) (answer : Option F) → before ≡ found_in parts → answer ≡ element_in part.now → ((x : F) → answer ≡ Some x → ⊥)
      → before ≡ found_in (parts ++ part ∷ [])
  none_more parts part before None so_far is none = so_far ∙ sym (append-nil (found_in parts)) ∙ ap (λ o. found_in parts ++ cons_option o []) is ∙ sym (found-push parts part)
  none_more parts part before (Some x) so_far is none = absurd (none x refl)

  -- the elements of the pieces are those of the list that the word spells
  pub elements_found : (word : List ℕ) (numbers : List ℕ) → IsList word numbers → filter_map element_in (pieces word) ≡ map (residue_of N P) numbers
  elements_found word numbers list = filter_map-option_map number_in (residue_of N P) (pieces word) ∙ ap (map (residue_of N P)) (filter_map-pieces word numbers list)

-- there is one for a word that spells a number
pub some_element : {F : Type 0} (answer : Option F) (word : List ℕ) → IfNone answer ((n : ℕ) → IsDecimal word n → ⊥) → SpellsNumber word → IsSome answer
some_element (Some x) word none spelled = refl
some_element None word none spelled = absurd (none spelled.0 spelled.1)
