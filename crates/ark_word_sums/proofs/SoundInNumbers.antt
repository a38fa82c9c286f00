-- Sums of products of numbers, by elements that these stand for.
use Rattle.std.proofs.Common.{◌≡◌, ⊎_elim, ℕ, ◌+◌, ◌<◌, ◌≤◌, List, [], ◌∷◌, All, drop, get_or, length, take, refl, sym, ap, ap₂, subst, ◌∙◌, arith, mod-eq_of_lt}
use Rattle.std.specs.List.{AllByRecursion}
use Rattle.std.proofs.lemmas.Bool.{cases_lt}
use Rattle.std.proofs.lemmas.List.{get_or-take, get_or-drop, get_or_past, length-take}
use mathlib.Core.Path.{fun_ext}
use Rattle.ark_math.specs.Field.{FieldOn, natural, IsFieldEmbedding}
use Rattle.ark_base.specs.ResiduesLaws.{natural_number}
use Rattle.ark_numbers.specs.Fields.{operations}
use Rattle.ark_numbers.proofs.Values.{NumberField, number_carries, shown_field}
use Rattle.ark_sum_check.specs.Cube.{Product, SumOfProducts, cube_sum}
use Rattle.ark_sum_check.specs.Embedded.{embedded_products, embedded_sum}
use Rattle.ark_sum_check.specs.Rounds.{AreDifferent}
use Rattle.ark_sum_check.proofs.Embeddings.{cube_sum_kept}
use Rattle.ark_word_sums.proofs.Numbers.{natural_kept, number_of_cube_sum}

-- what is said of all items, and of what stands past the end, is said of an item wherever
pub wherever : (P : ℕ → Type 0) (xs : List ℕ) (d i : ℕ) → All P xs → P d → P (get_or xs i d)
wherever P xs d i all past = ⊎_elim
    (λ (l : i < length xs). all i d l)
    (λ (l : length xs ≤ i). subst P (sym (get_or_past xs i d l)) past)
    (cases_lt i (length xs))

-- and of one in a part
pub in_part : (P : ℕ → Type 0) (xs : List ℕ) (start n d i : ℕ) → All P xs → P d → P (get_or (take n (drop start xs)) i d)
in_part P xs start n d i all past = ⊎_elim
    (λ (l : i < n). subst P (sym (get_or-take n (drop start xs) i d l ∙ get_or-drop start xs i d)) (wherever P xs d (start + i) all past))
    (λ (l : n ≤ i). subst P (sym (get_or_past (take n (drop start xs)) i d (omega (arith, l, length-take n (drop start xs))))) past)
    (cases_lt i n)

module _ {F E : Type 0} (S : NumberField F) (L : FieldOn E) (w : F → E) (embeds : IsFieldEmbedding S.field L w) where
  abbrev element : ℕ → F
  element = natural S.field

  abbrev number : F → ℕ
  number = S.numbering.number

  number_of_element : (n : ℕ) → n < S.modulus → number (element n) ≡ n
  number_of_element n l =
      ap (λ K. number (natural K n)) S.field_is ∙ natural_number S.numbering S.prime n ∙ mod-eq_of_lt l

  -- numbers below the modulus stand for different elements
  pub different : (n : ℕ) → n ≤ S.modulus → AreDifferent L n
  different n most i some below e =
      let kept : w (element i) ≡ w S.field.zero = natural_kept S L w embeds i ∙ e ∙ sym embeds.zero_kept in
      let none : number (element i) ≡ 0 = ap number (embeds.one_to_one (element i) S.field.zero kept) ∙ (number_carries S).zero_kept in
      let is = number_of_element i (omega (arith, most, below)) in
      omega (arith, some, is, none)

  products_over : (ps : List (Product ℕ)) → embedded_products (natural L) ps ≡ embedded_products w (embedded_products element ps)
  products_over [] = refl
  products_over (a ∷ ps) =
      ap₂ (λ c qs. record { coefficient = c; factors = a.factors } ∷ qs) (sym (natural_kept S L w embeds a.coefficient)) (products_over ps)

  -- numbers stand for elements of the field of the challenges by those of the field below
  sum_over : (t : SumOfProducts ℕ) → embedded_sum (natural L) t ≡ embedded_sum w (embedded_sum element t)
  sum_over t = ap₂ (λ ts ps. record { tables = ts; addends = ps })
      (fun_ext (λ i. fun_ext (λ b. sym (natural_kept S L w embeds (t.tables i b)))))
      (products_over t.addends)

  products_back : (ps : List (Product ℕ)) → AllByRecursion (λ a. a.coefficient < S.modulus) ps → embedded_products number (embedded_products element ps) ≡ ps
  products_back [] below = refl
  products_back (a ∷ ps) below =
      ap₂ (λ c qs. record { coefficient = c; factors = a.factors } ∷ qs) (number_of_element a.coefficient below.0) (products_back ps below.1)

  -- numbers below the modulus are those of their elements
  sum_back : (t : SumOfProducts ℕ) → ((i b : ℕ) → t.tables i b < S.modulus) → AllByRecursion (λ a. a.coefficient < S.modulus) t.addends → embedded_sum number (embedded_sum element t) ≡ t
  sum_back t small below = ap₂ (λ ts ps. record { tables = ts; addends = ps })
      (fun_ext (λ i. fun_ext (λ b. number_of_element (t.tables i b) (small i b))))
      (products_back t.addends below)

  -- a number that stands for the sum above is the sum of the numbers
  pub sum_in_numbers : (m n : ℕ) (t : SumOfProducts ℕ) → n < S.modulus → ((i b : ℕ) → t.tables i b < S.modulus) → AllByRecursion (λ a. a.coefficient < S.modulus) t.addends
      → natural L n ≡ cube_sum L m (embedded_sum (natural L) t) → n ≡ cube_sum (operations (shown_field S)) m t
  sum_in_numbers m n t l small below is =
      let s = embedded_sum element t in
      let above : w (element n) ≡ w (cube_sum S.field m s) =
      natural_kept S L w embeds n ∙ is ∙ ap (cube_sum L m) (sum_over t) ∙ sym (cube_sum_kept S.field L w embeds m s) in
      sym (number_of_element n l)
      ∙ number_of_cube_sum S m s t (element n) (embeds.one_to_one (element n) (cube_sum S.field m s) above) (sum_back t small below)
