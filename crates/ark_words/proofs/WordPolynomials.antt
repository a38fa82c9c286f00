-- Polynomials over lists of words: what is written denotes a polynomial of elements, by their numbers.
use Rattle.std.proofs.Common.{◌≡◌, ◌+◌, ◌-◌, ◌/◌, ◌<◌, ◌≤◌, ℕ, List, All, length, map, sym, ap, ap₂, subst, ◌∙◌, ⊎_elim, arith}
use Rattle.std.proofs.lemmas.Bool.{cases_lt}
use mathlib.Core.Path.{fun_ext}
use Rattle.ark_math.specs.Field.{FieldOn}
use Rattle.ark_math.specs.Univariate.{of_list, product, nothing, IsBelow, IsQuotient}
use Rattle.ark_math.proofs.Lists.Tabulated.{get_or-tabulate}
use Rattle.ark_math_polynomials.proofs.Polynomials.Univariate.{IsBelow-more}
use Rattle.ark_math_polynomials.proofs.Polynomials.UnivariateLists.{of_list-past, of_list-below}
use Rattle.ark_math_polynomials.proofs.Polynomials.UnivariateProducts.{product-below}
use Rattle.ark_math_transforms.proofs.Transforms.Carried.{of_list-carried, product-carried, IsQuotient-carried}
use Rattle.ark_numbers.specs.Fields.{operations}
use Rattle.ark_numbers.proofs.Values.{NumberField, shown_field, field_laws, number_carries, is_zero}
use Rattle.ark_words.specs.Numbers.{number_at, numbers}
use Rattle.ark_words.proofs.QuotientLengths.{quotient_below, remainder_below}
use Rattle.ark_words.proofs.WordLists.{all_numbers, length_read, length-numbers}

module _ {F : Type 0} (S : NumberField F) (width : ℕ) where
  abbrev K : FieldOn F
  K = S.field

  abbrev L : FieldOn ℕ
  L = operations (shown_field S)

  abbrev number : F → ℕ
  number = S.numbering.number

  -- the words spell the numbers of the polynomial's coefficients, so many as have a place
  abbrev pub AreWritten : (ℕ → F) → List ℕ → Type 0
  AreWritten a words = (i : ℕ) → i < length words / width → number_at width words i ≡ number (a i)

  -- all its coefficients, where the others are zero
  pub written_denote : (a : ℕ → F) (words : List ℕ) → IsBelow K (length words / width) a → AreWritten a words → of_list L (numbers width words) ≡ λ i. number (a i)
  written_denote a words below written =
      fun_ext (λ i. ⊎_elim
      (λ (s : i < length words / width). get_or-tabulate (length words / width) (number_at width words) i L.zero s ∙ written i s)
      (λ (s : length words / width ≤ i).
      let n = length-numbers width words in
      let past : length (numbers width words) ≤ i = omega arith in
      of_list-past L (numbers width words) i past ∙ sym (ap number (below i s) ∙ (number_carries S).zero_kept))
      (cases_lt i (length words / width)))

  pub written_below : (a : ℕ → F) (words : List ℕ) → AreWritten a words → All (λ x. x < S.modulus) (numbers width words)
  written_below a words written =
      all_numbers (λ x. x < S.modulus) width words (λ i s. subst (λ x. x < S.modulus) (sym (written i s)) (S.numbering.below (a i)))

  -- words that are read denote what their elements do
  pub read_denote : (items : List F) (words : List ℕ) (a : ℕ → F) → map number items ≡ numbers width words → a ≡ of_list K items → (λ i. number (a i)) ≡ of_list L (numbers width words)
  read_denote items words a read e =
      ap (λ h i. number (h i)) e ∙ fun_ext (of_list-carried (number_carries S) items) ∙ ap (of_list L) read

  pub read_below : (items : List F) (words : List ℕ) (a : ℕ → F) → map number items ≡ numbers width words → a ≡ of_list K items → IsBelow K (length words / width) a
  read_below items words a read e =
      subst (IsBelow K (length words / width)) (sym e) (subst (λ n. IsBelow K n (of_list K items)) (length_read number width items words read) (of_list-below K items))

  pub product_written : (left right new : List ℕ) (a b : List F) (f g h : ℕ → F) → map number a ≡ numbers width left → map number b ≡ numbers width right
      → f ≡ of_list K a → g ≡ of_list K b → h ≡ product K f g → length left / width + length right / width ≤ length new / width + 1 → AreWritten h new
      → of_list L (numbers width new) ≡ product L (of_list L (numbers width left)) (of_list L (numbers width right))
  product_written left right new a b f g h read_a read_b is_f is_g whole room written =
      let m = length left / width in
      let n = length right / width in
      let short = subst (IsBelow K (m + n - 1)) (sym whole) (product-below K (field_laws S) m n f g (read_below a left f read_a is_f) (read_below b right g read_b is_g)) in
      written_denote h new (IsBelow-more K (m + n - 1) (length new / width) h (omega arith) short) written
      ∙ fun_ext (λ k. ap (λ p. number (p k)) whole ∙ product-carried (number_carries S) f g k)
      ∙ ap₂ (product L) (read_denote a left f read_a is_f) (read_denote b right g read_b is_g)

  pub quotient_written : (dividend divisor quotient remainder : List ℕ) (a b : List F) (f g q r : ℕ → F) → map number a ≡ numbers width dividend → map number b ≡ numbers width divisor
      → f ≡ of_list K a → g ≡ of_list K b → IsQuotient K f g q r → length quotient ≡ length dividend → length remainder ≡ length divisor
      → AreWritten q quotient → AreWritten r remainder
      → IsQuotient L (of_list L (numbers width dividend)) (of_list L (numbers width divisor)) (of_list L (numbers width quotient)) (of_list L (numbers width remainder))
  quotient_written dividend divisor quotient remainder a b f g q r read_a read_b is_f is_g Q same_q same_r written_q written_r =
      let short_q = quotient_below K (field_laws S) f g q r (length dividend / width) Q (read_below a dividend f read_a is_f) in
      let short_r = remainder_below K (field_laws S) f g q r (length divisor / width) Q (read_below b divisor g read_b is_g) in
      let quotient_is = written_denote q quotient (subst (λ n. IsBelow K (n / width) q) (sym same_q) short_q) written_q in
      let remainder_is = written_denote r remainder (subst (λ n. IsBelow K (n / width) r) (sym same_r) short_r) written_r in
      let carried_over = IsQuotient-carried (number_carries S) (is_zero S) f g q r Q in
      subst (λ d. IsQuotient L d (of_list L (numbers width divisor)) (of_list L (numbers width quotient)) (of_list L (numbers width remainder))) (read_denote a dividend f read_a is_f)
      (subst (λ d. IsQuotient L (λ i. number (f i)) d (of_list L (numbers width quotient)) (of_list L (numbers width remainder))) (read_denote b divisor g read_b is_g)
      (subst (λ d. IsQuotient L (λ i. number (f i)) (λ i. number (g i)) d (of_list L (numbers width remainder))) (sym quotient_is)
      (subst (λ d. IsQuotient L (λ i. number (f i)) (λ i. number (g i)) (λ i. number (q i)) d) (sym remainder_is) carried_over)))

  -- the zero polynomial has zeros alone
  pub nothing_zeros : (items : List F) (words : List ℕ) (a : ℕ → F) → map number items ≡ numbers width words → a ≡ of_list K items → a ≡ nothing K → All (λ x. x ≡ 0) (numbers width words)
  nothing_zeros items words a read e none =
      all_numbers (λ x. x ≡ 0) width words
      (λ i s.
      sym (get_or-tabulate (length words / width) (number_at width words) i L.zero s)
      ∙ sym (ap (λ h. h i) (read_denote items words a read e))
      ∙ ap (λ h. number (h i)) none ∙ (number_carries S).zero_kept)
