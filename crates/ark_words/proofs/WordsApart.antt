-- Words are apart: where the words of two lists are restored or found, so are those of both lists together.
use Rattle.std.proofs.Common.{◌≡◌, ℕ, ◌+◌, ◌-◌, ◌*◌, ◌/◌, ◌%◌, ◌<◌, ◌≤◌, List, ◌++◌, length, take, drop, get_or, slice_range, sym, ap, ap₂, subst, subst₂, ◌∙◌, ⊎_elim, arith, length-append}
use Rattle.std.proofs.lemmas.Bool.{cases_lt}
use Rattle.std.proofs.lemmas.List.{drop_all, drop-drop, drop-append-le, take-append-le, ext_get_or, get_or_append_left, get_or-append-add}
use Rattle.std.proofs.lemmas.Nat.{div-add-mod', div-mul-add, mod-mul-add}
use Rattle.std.proofs.lemmas.Slice.{between_is}
use Rattle.std.proofs.Math.Nat.{mod-lt}
use Rattle.ark_math.specs.Words.{number_of_words}
use Rattle.ark_math.proofs.Lists.Tabulated.{get_or-tabulate}
use Rattle.ark_words.specs.Numbers.{number_at, numbers}
use Rattle.ark_words.specs.Codes.{word_at}
use Rattle.ark_words.proofs.WordLists.{number_fits, length-numbers}

-- parts of n items each, one after another
module _ (n : ℕ) (some : 0 < n) (xs ys : List ℕ) (whole : length xs % n ≡ 0) where
  length_is : length xs ≡ length xs / n * n
  length_is =
      let parts : length xs / n * n + length xs % n ≡ length xs = div-add-mod' (length xs) n in
      omega arith

  pub count-append : length (xs ++ ys) / n ≡ length xs / n + length ys / n
  count-append =
      let m = length xs / n in
      let q = length ys / n in
      let parts : q * n + length ys % n ≡ length ys = div-add-mod' (length ys) n in
      let rest : length ys % n < n = mod-lt (length ys) some in
      let is : length (xs ++ ys) ≡ (m + q) * n + length ys % n = length-append xs ys ∙ omega (arith, parts, length_is) in
      ap (λ k. k / n) is ∙ div-mul-add (m + q) n (length ys % n) rest

  pub part-first : (i : ℕ) → i < length xs / n → word_at n (xs ++ ys) i ≡ word_at n xs i
  part-first i l =
      between_is (xs ++ ys) (i * n) ((i + 1) * n) ∙ ap (drop (i * n)) (take-append-le ((i + 1) * n) xs ys (number_fits n i xs l)) ∙ sym (between_is xs (i * n) ((i + 1) * n))

  pub part-rest : (i : ℕ) → word_at n (xs ++ ys) (length xs / n + i) ≡ word_at n ys i
  part-rest i =
      let m = length xs / n in
      let start : (m + i) * n ≡ length xs + i * n = omega (arith, length_is) in
      let end : (m + i + 1) * n ≡ length xs + (i + 1) * n = omega (arith, length_is) in
      let none : drop (length xs) (xs ++ ys) ≡ ys = drop-append-le (length xs) xs ys (omega arith) ∙ ap (λ t. t ++ ys) (drop_all (length xs) xs (omega arith)) in
      ap₂ (λ s e. slice_range (xs ++ ys) s e) start end
      ∙ ap₂ (λ k t. take k t) (let e : length xs + (i + 1) * n - (length xs + i * n) ≡ (i + 1) * n - i * n = omega arith in e)
      (sym (drop-drop (i * n) (length xs) (xs ++ ys)) ∙ ap (drop (i * n)) none)

-- the numbers of words one after another
pub numbers-append : (width : ℕ) → 0 < width → (xs ys : List ℕ) → length xs % width ≡ 0 → numbers width (xs ++ ys) ≡ numbers width xs ++ numbers width ys
numbers-append width some xs ys whole =
    let m = length xs / width in
    let q = length ys / width in
    let count = count-append width some xs ys whole in
    let left_length : length (numbers width xs) ≡ m = length-numbers width xs in
    let right_length : length (numbers width ys) ≡ q = length-numbers width ys in
    let both : length (numbers width xs ++ numbers width ys) ≡ m + q = length-append (numbers width xs) (numbers width ys) ∙ ap₂ (λ a b. a + b) left_length right_length in
    ext_get_or 0 (numbers width (xs ++ ys)) (numbers width xs ++ numbers width ys) (length-numbers width (xs ++ ys) ∙ count ∙ sym both)
    (λ i l.
    let inside : i < length (xs ++ ys) / width = subst (λ n. i < n) (length-numbers width (xs ++ ys)) l in
    get_or-tabulate (length (xs ++ ys) / width) (number_at width (xs ++ ys)) i 0 inside
    ∙ ⊎_elim
    (λ (first : i < m).
    ap number_of_words (part-first width some xs ys whole i first)
    ∙ sym (get_or-tabulate m (number_at width xs) i 0 first)
    ∙ sym (get_or_append_left (numbers width xs) (numbers width ys) 0 i (subst (λ n. i < n) (sym left_length) first)))
    (λ (rest : m ≤ i).
    let at_rest : i ≡ m + (i - m) = omega arith in
    let within : i - m < q = omega (arith, count) in
    ap (number_at width (xs ++ ys)) at_rest
    ∙ ap number_of_words (part-rest width some xs ys whole (i - m))
    ∙ sym (get_or-tabulate q (number_at width ys) (i - m) 0 within)
    ∙ sym (get_or-append-add (numbers width xs) (numbers width ys) (i - m) 0)
    ∙ ap (λ k. get_or (numbers width xs ++ numbers width ys) k 0) (ap (λ n. n + (i - m)) left_length ∙ sym at_rest))
    (cases_lt i m))

-- what is said of each word of two lists is said of each word of both: their words have n numbers, and what became of each k
module _ (width n k : ℕ) (some : 0 < width) (some_places : 0 < n) (some_numbers : 0 < k) (P : List ℕ → List ℕ → Type 0) (old more new made : List ℕ)
    (whole : length old % width ≡ 0) (words : (length old / width) % n ≡ 0) (whole_new : length new % width ≡ 0) (same : length new / width ≡ length old / width / n * k) where
  pub each_of_both : ((j : ℕ) → j < length old / width / n → P (word_at n (numbers width old) j) (word_at k (numbers width new) j))
      → ((j : ℕ) → j < length more / width / n → P (word_at n (numbers width more) j) (word_at k (numbers width made) j))
      → (j : ℕ) → j < length (old ++ more) / width / n → P (word_at n (numbers width (old ++ more)) j) (word_at k (numbers width (new ++ made)) j)
  each_of_both first rest j l =
      let m = length old / width / n in
      let xs = numbers width old in
      let ys = numbers width new in
      let len : length xs ≡ length old / width = length-numbers width old in
      let len_new : length ys ≡ m * k = length-numbers width new ∙ same in
      let count : length xs / n ≡ m = ap (λ t. t / n) len in
      let whole_words : length xs % n ≡ 0 = ap (λ t. t % n) len ∙ words in
      let count_new : length ys / k ≡ m = ap (λ t. t / k) len_new ∙ (let e : m * k ≡ m * k + 0 = omega arith in ap (λ t. t / k) e ∙ div-mul-add m k 0 some_numbers) in
      let whole_made : length ys % k ≡ 0 = ap (λ t. t % k) (len_new ∙ sym (let e : length ys / k * k ≡ m * k = ap (λ t. t * k) count_new in e)) ∙ multiple (length ys / k) in
      let of_old = numbers-append width some old more whole in
      let of_new = numbers-append width some new made whole_new in
      let all : length (old ++ more) / width / n ≡ m + length more / width / n = ap (λ t. t / n) (sym (length-numbers width (old ++ more)) ∙ ap length of_old)
      ∙ count-append n some_places xs (numbers width more) whole_words ∙ ap₂ (λ a b. a + b) count (ap (λ t. t / n) (length-numbers width more)) in
      subst₂ (λ us vs. P (word_at n us j) (word_at k vs j)) (sym of_old) (sym of_new)
      (⊎_elim
      (λ (early : j < m).
      subst₂ P (sym (part-first n some_places xs (numbers width more) whole_words j (subst (λ t. j < t) (sym count) early)))
      (sym (part-first k some_numbers ys (numbers width made) whole_made j (subst (λ t. j < t) (sym count_new) early))) (first j early))
      (λ (late : m ≤ j).
      let at_rest : j ≡ m + (j - m) = omega arith in
      let within : j - m < length more / width / n = omega (arith, all) in
      subst (λ t. P (word_at n (xs ++ numbers width more) t) (word_at k (ys ++ numbers width made) t)) (sym at_rest)
      (subst₂ (λ a b. P (word_at n (xs ++ numbers width more) (a + (j - m))) (word_at k (ys ++ numbers width made) (b + (j - m)))) count count_new
      (subst₂ P (sym (part-rest n some_places xs (numbers width more) whole_words (j - m))) (sym (part-rest k some_numbers ys (numbers width made) whole_made (j - m))) (rest (j - m) within))))
      (cases_lt j m))
    where
      multiple : (t : ℕ) → t * k % k ≡ 0
      multiple t = let e : t * k ≡ t * k + 0 = omega arith in ap (λ s. s % k) e ∙ mod-mul-add t k 0 some_numbers
