-- Elements in words, one after another, each by its coefficients.
use Rattle.std.proofs.Common.{◌≡◌, ℕ, ◌+◌, ◌*◌, ◌/◌, ◌%◌, ◌≤◌, ◌<◌, List, [], ◌∷◌, ◌++◌, length, length-append, map, take, slice_range, refl, sym, ap, ap₂, ◌∙◌, arith}
use Rattle.std.specs.List.{flat_map}
use Rattle.std.proofs.lemmas.List.{append-nil, length-take-le, map-append}
use Rattle.std.proofs.lemmas.List.Concat.{flat_map-append}
use Rattle.std.proofs.lemmas.Nat.{div-add-mod', div-mul-add, mod-mul-add}
use Rattle.std.proofs.lemmas.Slice.{take-put_mid}
use borrow.Rule.Slice.PartMut.{put_mid}
use Rattle.ark_math.specs.Module.{tabulate}
use Rattle.ark_sum_check.proofs.Vectors.{first, rest}
use Rattle.ark_words.specs.Numbers.{number_at, numbers}
use Rattle.ark_words.proofs.OneSpelling.{front_and}
use Rattle.ark_words.proofs.WordLists.{count_of_words}
use Rattle.ark_words.proofs.WordsApart.{numbers-append}
use Rattle.ark_word_sums.proofs.AddendWords.{one_front}

-- the pieces of one element more
flat_map_one : {X A : Type 0} (f : X → List A) (xs : List X) (x : X) → flat_map f (xs ++ x ∷ []) ≡ flat_map f xs ++ f x
flat_map_one f xs x = flat_map-append f xs (x ∷ []) ∙ ap (λ ys. flat_map f xs ++ ys) (append-nil (f x))

whole_front : (i degree width : ℕ) (words : List ℕ) → 0 < width → i * (degree * width) ≤ length words → length (take (i * (degree * width)) words) % width ≡ 0
whole_front i degree width words some room =
    let parts : i * (degree * width) ≡ i * degree * width + 0 = omega arith in
    ap (λ n. n % width) (length-take-le (i * (degree * width)) words room ∙ parts) ∙ mod-mul-add (i * degree) width 0 some

-- the numbers of elements are those of their coefficients
pub numbers_of_elements : {F E : Type 0} (number : F → ℕ) (coefficients : E → List F) (xs : List E) → map number (flat_map coefficients xs) ≡ flat_map (λ x. map number (coefficients x)) xs
numbers_of_elements number coefficients [] = refl
numbers_of_elements number coefficients (x ∷ xs) =
    map-append number (coefficients x) (flat_map coefficients xs) ∙ ap (λ ys. map number (coefficients x) ++ ys) (numbers_of_elements number coefficients xs)

module _ {E : Type 0} (spelled : E → List ℕ) (width degree : ℕ) (some : 0 < width) where
  -- one element more is written
  pub one_more_written : (i a k : ℕ) (before : List E) (x : E) (words ys : List ℕ) → a ≡ i * (degree * width) → a ≤ length words → length ys ≡ degree * width
      → numbers width (take (i * (degree * width)) words) ≡ flat_map spelled before → numbers width ys ≡ spelled x
      → numbers width (take ((i + 1) * (degree * width)) (put_mid a k words ys)) ≡ flat_map spelled (before ++ x ∷ [])
  one_more_written i a k before x words ys start room len so_far here =
      let size = degree * width in
      let end : (i + 1) * size ≡ a + length ys = omega (arith, start, len) in
      let inside : i * size ≤ length words = omega (arith, start, room) in
      ap (numbers width) (take-put_mid a k words ys ((i + 1) * size) end room ∙ ap (λ n. take n words ++ ys) start)
      ∙ numbers-append width some (take (i * size) words) ys (whole_front i degree width words some inside)
      ∙ ap₂ (λ us vs. us ++ vs) so_far here
      ∙ sym (flat_map_one spelled before x)

-- one element more is read
pub one_more_read : {F E : Type 0} (coefficients : E → List F) (a e : ℕ) (items : List F) (found after : List E) (x : E) → a ≤ e → after ≡ found ++ x ∷ []
    → flat_map coefficients found ≡ take a items → coefficients x ≡ slice_range items a e → flat_map coefficients after ≡ take e items
one_more_read coefficients a e items found after x l more so_far here =
    ap (flat_map coefficients) more ∙ flat_map_one coefficients found x ∙ ap₂ (λ us vs. us ++ vs) so_far here ∙ sym (front_and a e items l)

-- ---- lengths

pub no_numbers : (width : ℕ) → 0 < width → numbers width [] ≡ []
no_numbers width some =
    let none : 0 ≡ 0 * width = omega arith in
    ap (λ n. tabulate n (number_at width [])) (ap (λ n. n / width) none ∙ count_of_words width 0 some)

-- the words of whole elements are those of so many coefficients
pub whole_elements : (n degree width : ℕ) → 0 < degree → 0 < width → n % (degree * width) ≡ 0 → n / width / degree * degree ≡ n / width
whole_elements n degree width some_degree some_width whole =
    let q = n / (degree * width) in
    let parts : q * (degree * width) + n % (degree * width) ≡ n = div-add-mod' n (degree * width) in
    let is : n ≡ q * degree * width + 0 = omega (arith, parts, whole) in
    let count : n / width ≡ q * degree = ap (λ k. k / width) is ∙ div-mul-add (q * degree) width 0 some_width in
    let again : q * degree ≡ q * degree + 0 = omega arith in
    let each : n / width / degree ≡ q = ap (λ k. k / degree) (count ∙ again) ∙ div-mul-add q degree 0 some_degree in
    ap (λ k. k * degree) each ∙ sym count

-- ---- what words tell

-- elements of so many numbers each, told by these, are told by all their numbers one after another
module _ {E X : Type 0} (spelled : E → List X) (n : ℕ) (some : 0 < n) (long : (x : E) → length (spelled x) ≡ n) (told : (x y : E) → spelled x ≡ spelled y → x ≡ y) where
  pub one_list : (xs ys : List E) → flat_map spelled xs ≡ flat_map spelled ys → xs ≡ ys
  one_list [] [] e = refl
  one_list [] (y ∷ ys) e = absurd (omega (arith, some, ap length e, length-append (spelled y) (flat_map spelled ys), long y))
  one_list (x ∷ xs) [] e = absurd (omega (arith, some, ap length e, length-append (spelled x) (flat_map spelled xs), long x))
  one_list (x ∷ xs) (y ∷ ys) e =
      let split = one_front (spelled x) (spelled y) (flat_map spelled xs) (flat_map spelled ys) (long x ∙ sym (long y)) e in
      ap₂ (λ u us. u ∷ us) (told x y split.0) (one_list xs ys split.1)

-- numbers that tell their elements
pub one_map : {F X : Type 0} (number : F → X) → ((a b : F) → number a ≡ number b → a ≡ b) → (xs ys : List F) → map number xs ≡ map number ys → xs ≡ ys
one_map number same [] [] e = refl
one_map number same [] (y ∷ ys) e = absurd (omega (arith, ap length e))
one_map number same (x ∷ xs) [] e = absurd (omega (arith, ap length e))
one_map number same (x ∷ xs) (y ∷ ys) e = ap₂ (λ u us. u ∷ us) (same x y (ap (first (number x)) e)) (one_map number same xs ys (ap rest e))
