-- Lists of words as numbers.
use Rattle.std.proofs.Common.{◌≡◌, zero, suc, ◌+◌, ◌-◌, ◌*◌, ◌/◌, ◌%◌, ◌<◌, ◌≤◌, ℕ, List, [], ◌∷◌, ◌++◌, All, length, map, get_or, slice_set, slice_index_or, slice_range, drop, refl, sym, ap, ap₂, subst, ◌∙◌, arith, below_more}
use Rattle.std.proofs.lemmas.Nat.{mul-le, div-add-mod', div-mul-add, le-div}
use Rattle.std.proofs.lemmas.List.{get_or-map, length-drop, length-map, length-take-le, map-append}
use Rattle.std.proofs.lemmas.Slice.{between_is, between-put_mid, take-put_mid_below}
use borrow.Rule.Slice.PartMut.{put_mid}
use Rattle.ark_math.specs.Field.{FieldOn}
use Rattle.ark_math.specs.Module.{tabulate}
use Rattle.ark_math.specs.Univariate.{of_list}
use Rattle.ark_math.specs.Words.{number_of_words}
use Rattle.ark_math.proofs.Lists.Tabulated.{length-tabulate, get_or-tabulate, is_tabulated, tabulate-push}
use Rattle.ark_base.specs.Residues.{Numbering}
use Rattle.ark_words.specs.Numbers.{number_at, numbers}

-- ---- short lists

-- one word spells itself
pub one_word : (words : List ℕ) → length words ≡ 1 → number_of_words words ≡ slice_index_or words 0 0
one_word [] e = omega arith
one_word (word ∷ []) e = omega arith
one_word (word ∷ more ∷ words) e = omega arith

pub one_word_set : (words : List ℕ) (word : ℕ) → length words ≡ 1 → number_of_words (slice_set words 0 word) ≡ word
one_word_set [] word e = omega arith
one_word_set (old ∷ []) word e = omega arith
one_word_set (old ∷ more ∷ words) word e = omega arith

-- a list of four words is its items
pub four_words : (words : List ℕ) → length words ≡ 4
    → slice_index_or words 0 0 ∷ slice_index_or words 1 0 ∷ slice_index_or words 2 0 ∷ slice_index_or words 3 0 ∷ [] ≡ words
four_words [] e = absurd (omega arith)
four_words (a ∷ []) e = absurd (omega arith)
four_words (a ∷ b ∷ []) e = absurd (omega arith)
four_words (a ∷ b ∷ c ∷ []) e = absurd (omega arith)
four_words (a ∷ b ∷ c ∷ d ∷ []) e = refl
four_words (a ∷ b ∷ c ∷ d ∷ more ∷ words) e = absurd (omega arith)

pub four_words_set : (words : List ℕ) (a b c d : ℕ) → length words ≡ 4
    → slice_set (slice_set (slice_set (slice_set words 0 a) 1 b) 2 c) 3 d ≡ a ∷ b ∷ c ∷ d ∷ []
four_words_set [] a b c d e = absurd (omega arith)
four_words_set (x ∷ []) a b c d e = absurd (omega arith)
four_words_set (x ∷ y ∷ []) a b c d e = absurd (omega arith)
four_words_set (x ∷ y ∷ z ∷ []) a b c d e = absurd (omega arith)
four_words_set (x ∷ y ∷ z ∷ t ∷ []) a b c d e = refl
four_words_set (x ∷ y ∷ z ∷ t ∷ more ∷ words) a b c d e = absurd (omega arith)

-- ---- numbers

-- the end of each number's words
pub number_end : (width count i : ℕ) → i < count → (i + 1) * width ≤ count * width
number_end width count i l = mul-le (i + 1) width count width (omega arith) (omega arith)

pub number_fits : (width i : ℕ) (words : List ℕ) → i < length words / width → (i + 1) * width ≤ length words
number_fits width i words l =
    let e = div-add-mod' (length words) width in
    let fits = number_end width (length words / width) i l in
    omega arith

pub number_length : (width i : ℕ) (words : List ℕ) → (i + 1) * width ≤ length words → length (slice_range words (i * width) ((i + 1) * width)) ≡ width
number_length width i words fits =
    let rest = length-drop (i * width) words in
    length-take-le ((i + 1) * width - i * width) (drop (i * width) words) (omega arith) ∙ omega arith

-- all numbers are P where the number at each place is
pub all_numbers : (P : ℕ → Type 0) (width : ℕ) (words : List ℕ) → ((i : ℕ) → i < length words / width → P (number_at width words i)) → All P (numbers width words)
all_numbers P width words each i d l =
    let n = length-tabulate (length words / width) (number_at width words) in
    let b : i < length words / width = omega arith in
    subst P (sym (get_or-tabulate (length words / width) (number_at width words) i d b)) (each i b)

pub each_number : (P : ℕ → Type 0) (width : ℕ) (words : List ℕ) → All P (numbers width words) → (i : ℕ) → i < length words / width → P (number_at width words i)
each_number P width words all i b =
    let n = length-tabulate (length words / width) (number_at width words) in
    subst P (get_or-tabulate (length words / width) (number_at width words) i 0 b) (all i 0 (omega arith))

pub length-numbers : (width : ℕ) (words : List ℕ) → length (numbers width words) ≡ length words / width
length-numbers width words = length-tabulate (length words / width) (number_at width words)

-- as many elements as numbers
pub length_read : {F : Type 0} (number : F → ℕ) (width : ℕ) (items : List F) (words : List ℕ) → map number items ≡ numbers width words → length items ≡ length words / width
length_read number width items words e = sym (length-map items number) ∙ ap length e ∙ length-numbers width words

-- the number at a place is that of the item there
pub number_of_item : {F : Type 0} (K : FieldOn F) (number : F → ℕ) (width : ℕ) (items : List F) (words : List ℕ) (i : ℕ) → map number items ≡ numbers width words → number K.zero ≡ 0 → i < length words / width
    → number_at width words i ≡ number (of_list K items i)
number_of_item K number width items words i read zero_kept l =
    let n : length items ≡ length words / width = length_read number width items words read in
    sym (get_or-tabulate (length words / width) (number_at width words) i 0 l)
    ∙ ap (λ zs. get_or zs i 0) (sym read) ∙ get_or-map number items i K.zero 0 (omega arith)

-- one element more is read
pub read_more : {F : Type 0} (number : F → ℕ) (f : ℕ → ℕ) (n : ℕ) (items after : List F) (x : F) → after ≡ items ++ x ∷ [] → map number items ≡ tabulate n f → number x ≡ f n
    → map number after ≡ tabulate (n + 1) f
read_more number f n items after x e before here =
    ap (map number) e ∙ map-append number items (x ∷ []) ∙ ap₂ (λ xs v. xs ++ v ∷ []) before here ∙ sym (tabulate-push n f)

-- ---- words written in place of those of one number

number_at-before : (width i a k j : ℕ) (words ys : List ℕ) → a ≡ i * width → a ≤ length words → j < i → number_at width (put_mid a k words ys) j ≡ number_at width words j
number_at-before width i a k j words ys start room l =
    let fits = number_end width i j l in
    ap number_of_words
    (between_is (put_mid a k words ys) (j * width) ((j + 1) * width)
    ∙ ap (drop (j * width)) (take-put_mid_below a k words ys ((j + 1) * width) (omega arith) room)
    ∙ sym (between_is words (j * width) ((j + 1) * width)))

number_at-here : (width i a k : ℕ) (words ys : List ℕ) → a ≡ i * width → a ≤ length words → length ys ≡ width → number_at width (put_mid a k words ys) i ≡ number_of_words ys
number_at-here width i a k words ys start room len =
    ap (λ s. number_of_words (slice_range (put_mid a k words ys) s ((i + 1) * width))) (sym start)
    ∙ ap number_of_words (between-put_mid a k words ys ((i + 1) * width) room (omega arith))

-- one number more
pub written_more : (f : ℕ → ℕ) (width i a k : ℕ) (words ys : List ℕ) → a ≡ i * width → a ≤ length words → length ys ≡ width → number_of_words ys ≡ f i
    → ((j : ℕ) → j < i → number_at width words j ≡ f j) → (j : ℕ) → j < i + 1 → number_at width (put_mid a k words ys) j ≡ f j
written_more f width i a k words ys start room len here before =
    below_more (λ j. number_at width (put_mid a k words ys) j ≡ f j) i
    (λ j l. number_at-before width i a k j words ys start room l ∙ before j l)
    (number_at-here width i a k words ys start room len ∙ here)

-- so many words are so many numbers
pub count_of_words : (width count : ℕ) → 0 < width → count * width / width ≡ count
count_of_words width count some = let n : count * width ≡ count * width + 0 = omega arith in ap (λ m. m / width) n ∙ div-mul-add count width 0 some

pub written_all : (width : ℕ) (words items : List ℕ) → 0 < width → length words ≡ length items * width
    → ((j : ℕ) → j < length items → number_at width words j ≡ get_or items j 0) → numbers width words ≡ items
written_all width words items some len each =
    let count : length words / width ≡ length items = ap (λ n. n / width) len ∙ count_of_words width (length items) some in
    ap (λ n. tabulate n (number_at width words)) count
    ∙ sym (is_tabulated 0 items (length items) (number_at width words) refl (λ j l. sym (each j l)))

-- all that a function gives is below p
pub all_below : {F : Type 0} {p : ℕ} (f : F → ℕ) → ((x : F) → f x < p) → (items : List F) → All (λ x. x < p) (map f items)
all_below f below [] i d l = absurd (omega arith)
all_below f below (x ∷ items) zero d l = below x
all_below f below (x ∷ items) (suc i) d l = all_below f below items i d (omega arith)

-- the numbers of elements are below the modulus
pub numbers_below : {F : Type 0} {p : ℕ} (N : Numbering F p) (items : List F) → All (λ x. x < p) (map N.number items)
numbers_below N items = all_below N.number N.below items

-- whole numbers take all words
pub whole_words : (width count : ℕ) (words : List ℕ) → length words % width ≡ 0 → count ≡ length words / width → length words ≡ count * width
whole_words width count words whole e =
    let parts = div-add-mod' (length words) width in
    let none : length words ≡ length words / width * width = omega arith in
    none ∙ ap (λ n. n * width) (sym e)

-- some whole numbers, and as many of them at most as there are in a longer list
pub some_numbers : (width : ℕ) (words : List ℕ) → length words % width ≡ 0 → 0 < length words → 0 < length words / width
some_numbers width words whole some =
    let parts = div-add-mod' (length words) width in
    positive (length words / width) width (omega (arith, parts, whole, some))
  where
    positive : (n w : ℕ) → 0 < n * w → 0 < n
    positive zero w l = omega (arith, l)
    positive (suc n) w l = omega arith

pub fewer_numbers : (width : ℕ) (words more : List ℕ) → 0 < width → length words % width ≡ 0 → length words ≤ length more → length words / width ≤ length more / width
fewer_numbers width words more some whole l =
    let parts = div-add-mod' (length words) width in
    le-div (length words / width) (length more) width some (omega (arith, parts, whole, l))
