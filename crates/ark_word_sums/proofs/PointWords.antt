-- A point in words: elements by their coefficients, and the value there.
use Rattle.std.proofs.Common.{◌≡◌, ℕ, suc, ◌+◌, ◌*◌, ◌/◌, ◌%◌, ◌<◌, ◌≤◌, List, [], ◌∷◌, All, length, length-append, map, sym, ap, ap₂, subst₂, ◌∙◌, arith}
use Rattle.std.specs.List.{flat_map}
use Rattle.std.proofs.lemmas.List.{append-nil}
use Rattle.std.proofs.lemmas.List.Elements.{All-append, All-nil}
use Rattle.std.proofs.lemmas.Nat.{mod-mul-add, mul-le}
use Rattle.ark_words.specs.Numbers.{AreReduced, Spelled, numbers}
use Rattle.ark_words.proofs.WordLists.{all_below, count_of_words, length-numbers}
use Rattle.ark_word_sums.specs.Challenges.{AreElementsOf, Checked, element_words}

all_flat : {X A : Type 0} (P : A → Type 0) (f : X → List A) → ((x : X) → All P (f x)) → (xs : List X) → All P (flat_map f xs)
all_flat P f each [] = All-nil P
all_flat P f each (x ∷ xs) = All-append P (f x) (flat_map f xs) (each x) (all_flat P f each xs)

length_flat : {X A : Type 0} (f : X → List A) (n : ℕ) → ((x : X) → length (f x) ≡ n) → (xs : List X) → length (flat_map f xs) ≡ length xs * n
length_flat f n each [] = omega arith
length_flat f n each (x ∷ xs) =
    let more : n + length xs * n ≡ suc (length xs) * n = omega arith in
    length-append (f x) (flat_map f xs) ∙ ap₂ (λ a b. a + b) (each x) (length_flat f n each xs) ∙ more

some_words : (a b : ℕ) → 0 < a → 0 < b → 0 < a * b
some_words a b l k = let e : 1 * 1 ≤ a * b = mul-le 1 1 a b l k in omega (arith, e)

-- the words of so many elements are whole ones
pub whole_point : (n m degree width : ℕ) → 0 < degree → 0 < width → n ≡ m * (degree * width) → n % (degree * width) ≡ 0
whole_point n m degree width some_degree some_width is =
    let size = degree * width in
    let parts : m * size ≡ m * size + 0 = omega arith in
    ap (λ k. k % size) (is ∙ parts) ∙ mod-mul-add m size 0 (some_words degree width some_degree some_width)

module _ {E : Type 0} (c : Checked E) (xs : List E) (words : List ℕ) (spell : AreElementsOf c xs words) where
  -- as many elements as the words say
  pub length_of_point : (m : ℕ) → ((x : E) → length (c.coefficients x) ≡ c.degree) → 0 < c.degree → 0 < c.spelled.width → length words ≡ m * element_words c → length xs ≡ m
  length_of_point m each some_degree some_width whole =
      let parts : m * (c.degree * c.spelled.width) ≡ m * c.degree * c.spelled.width = omega arith in
      let count : length xs * c.degree ≡ m * c.degree =
      sym (length_flat c.coefficients c.degree each xs) ∙ ap length (sym spell) ∙ length-numbers c.spelled.width words
      ∙ ap (λ n. n / c.spelled.width) (whole ∙ parts) ∙ count_of_words c.spelled.width (m * c.degree) some_width in
      sym (count_of_words c.degree (length xs) some_degree) ∙ ap (λ n. n / c.degree) count ∙ count_of_words c.degree m some_degree

-- the numbers of elements are below the modulus
pub point_below : {F E : Type 0} (f : Spelled) (p : ℕ) (number : F → ℕ) (coefficients : E → List F) (xs : List E) (words : List ℕ) → f.known.modulus ≡ p → ((x : F) → number x < p)
    → numbers f.width words ≡ flat_map (λ x. map number (coefficients x)) xs → AreReduced f words
point_below f p number coefficients xs words modulus below spell =
    subst₂ (λ q ns. All (λ n. n < q) ns) (sym modulus) (sym spell)
    (all_flat (λ n. n < p) (λ x. map number (coefficients x)) (λ x. all_below number below (coefficients x)) xs)

-- one element in words
pub one_spelled : {E : Type 0} (c : Checked E) (width : ℕ) (x y : E) (words : List ℕ) → c.spelled.width ≡ width → x ≡ y → numbers width words ≡ c.coefficients x → AreElementsOf c (y ∷ []) words
one_spelled c width x y words same is spell =
    ap (λ n. numbers n words) same ∙ spell ∙ ap c.coefficients is ∙ sym (append-nil (c.coefficients y))
