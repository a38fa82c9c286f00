-- Elements and their words, as the proofs of a field's calls cite them.
use Rattle.std.proofs.Common.{◌≡◌, ℕ, ◌+◌, ◌-◌, ◌*◌, ◌%◌, ◌^◌, ◌<◌, sym, ap, ap₂, ◌∙◌, le_of_lt, mod-lt, mod-eq_of_lt, mul_comm, zero-mul}
use Rattle.std.specs.Prelude.{nat_eq, ◌==◌}
use Rattle.std.specs.Ordering.{on}
use Rattle.std.specs.Cmp.{both_ways}
use Rattle.std.proofs.lemmas.Bool.{eqb-true, eq-eqb}
use Rattle.std.proofs.Math.Nat.{zero-mod}
use Rattle.ark_math.specs.Field.{minus}
use Rattle.std.proofs.lemmas.Nat.{mul-mod_second}
use Rattle.ark_base.specs.Montgomery.{inverse_of_power, form_back, form_of_number, from_form, sum_of_forms, difference_of_forms, negated_form, form_of_reduced, product_of_forms, sum_of_products_of_forms}
use Rattle.ark_base.specs.Residues.{residue_of}
use Rattle.ark_base.specs.ResiduesLaws.{number_of_residue, number_of_zero, minus_number}
use Rattle.ark_base.specs.Element32.{Shown, number, element, number_of_element, numbering, field_of, one_of_power, same_by_number, same_by_word, unit}
use Rattle.ark_base.specs.declared.prime_field32.PrimeField32.{PrimeField32}
use Rattle.ark_base.specs.declared.prime_field32.PrimeModulus32.{Ghosts}

module _ {M : Type 0} {g : Ghosts M} (S : Shown g) where
  pub number_of_form : (x : PrimeField32 M g) (v : ℕ) → x.word ≡ (v % g.MODULUS * 2 ^ 32) % g.MODULUS → number x ≡ v % g.MODULUS
  unfolding number
  number_of_form x v e =
      ap (λ w. (w * inverse_of_power g.MODULUS 32) % g.MODULUS) e
      ∙ form_back g.MODULUS (2 ^ 32) (inverse_of_power g.MODULUS 32) (v % g.MODULUS) (one_of_power g S) (mod-lt v (le_of_lt S.numbers.prime.above_one))

  -- a word is the number of the element with this word, times 2 ^ 32
  pub word_of_number : (x y : PrimeField32 M g) → number y ≡ 2 ^ 32 % g.MODULUS → (number x * number y) % g.MODULUS ≡ x.word
  unfolding number
  word_of_number x y e =
      ap (λ n. (number x * n) % g.MODULUS) e
      ∙ mul-mod_second (number x) (2 ^ 32) g.MODULUS
      ∙ form_of_number g.MODULUS (2 ^ 32) (inverse_of_power g.MODULUS 32) x.word (one_of_power g S) x.reduced

  -- and that of the unit's multiple by the element
  pub unit_times : (x : PrimeField32 M g) → number {M = M} {g = g} ((field_of {M = M} {g = g} S).times (unit {M = M} {g = g} S) x) ≡ x.word
  unit_times x =
      number_of_residue (numbering {M = M} {g = g} S) S.numbers.prime _
      ∙ ap (λ n. n % g.MODULUS) (mul_comm (number {g = g} (unit {M = M} {g = g} S)) (number x))
      ∙ word_of_number x (unit {M = M} {g = g} S) (number_of_residue (numbering {M = M} {g = g} S) S.numbers.prime (2 ^ 32))

  pub word_is_number : (x : PrimeField32 M g) (w : ℕ) → w < g.MODULUS → (2 ^ 32 * w) % g.MODULUS ≡ (x.word * 1) % g.MODULUS → w ≡ number x
  unfolding number
  word_is_number x w below e = from_form g.MODULUS (2 ^ 32) (inverse_of_power g.MODULUS 32) x.word w (one_of_power g S) below e

  pub element_is : (x : PrimeField32 M g) (v : ℕ) (l : v < g.MODULUS) → number x ≡ v % g.MODULUS → x ≡ element {M = M} {g = g} S v l
  element_is x v l e = same_by_number S _ _ (e ∙ mod-eq_of_lt l ∙ sym (number_of_element g S v l))

  -- an operation's number, and with it the operation
  number_of_sum : (x y z : PrimeField32 M g) → z.word ≡ (x.word + y.word) % g.MODULUS → number z ≡ (number x + number y) % g.MODULUS
  unfolding number
  number_of_sum x y z e = sum_of_forms g.MODULUS (inverse_of_power g.MODULUS 32) x.word y.word z.word e

  number_of_difference : (x y z : PrimeField32 M g) → z.word ≡ (x.word + (g.MODULUS - y.word)) % g.MODULUS → number z ≡ (number x + (g.MODULUS - number y)) % g.MODULUS
  unfolding number
  number_of_difference x y z e =
      difference_of_forms g.MODULUS (inverse_of_power g.MODULUS 32) x.word y.word z.word (le_of_lt S.numbers.prime.above_one) (le_of_lt y.reduced) e

  number_of_negated : (x z : PrimeField32 M g) → z.word ≡ (g.MODULUS - x.word) % g.MODULUS → number z ≡ (g.MODULUS - number x) % g.MODULUS
  unfolding number
  number_of_negated x z e =
      negated_form g.MODULUS (inverse_of_power g.MODULUS 32) x.word z.word (le_of_lt S.numbers.prime.above_one) (le_of_lt x.reduced) e

  pub residue_is : (x : PrimeField32 M g) (v : ℕ) → number x ≡ v % g.MODULUS → x ≡ residue_of (numbering {M = M} {g = g} S) S.numbers.prime v
  residue_is x v e = same_by_number S _ _ (e ∙ sym (number_of_residue (numbering {M = M} {g = g} S) S.numbers.prime v))

  pub sum_is : (x y z : PrimeField32 M g) → z.word ≡ (x.word + y.word) % g.MODULUS → z ≡ (field_of {M = M} {g = g} S).plus x y
  sum_is x y z e = residue_is z (number x + number y) (number_of_sum x y z e)

  pub difference_is : (x y z : PrimeField32 M g) → z.word ≡ (x.word + (g.MODULUS - y.word)) % g.MODULUS → z ≡ minus (field_of {M = M} {g = g} S) x y
  difference_is x y z e =
      same_by_number S _ _ (number_of_difference x y z e ∙ sym (minus_number (numbering {M = M} {g = g} S) S.numbers.prime x y))

  pub negated_is : (x z : PrimeField32 M g) → z.word ≡ (g.MODULUS - x.word) % g.MODULUS → z ≡ (field_of {M = M} {g = g} S).negated x
  negated_is x z e = residue_is z (g.MODULUS - number x) (number_of_negated x z e)

  -- ---- sums of products that are reduced once

  -- the element that a sum of products of words is reduced to
  abbrev reduced : ℕ → PrimeField32 M g
  reduced v = residue_of (numbering {M = M} {g = g} S) S.numbers.prime (v * inverse_of_power g.MODULUS 32 * inverse_of_power g.MODULUS 32)

  reduced_is : (z : PrimeField32 M g) (v : ℕ) → (2 ^ 32 * z.word) % g.MODULUS ≡ v % g.MODULUS → z ≡ reduced v
  unfolding number
  reduced_is z v e = residue_is z _ (form_of_reduced g.MODULUS (2 ^ 32) (inverse_of_power g.MODULUS 32) v z.word (one_of_power g S) z.reduced e)

  product_reduced : (x y : PrimeField32 M g) → reduced (x.word * y.word) ≡ (field_of {M = M} {g = g} S).times x y
  unfolding number
  product_reduced x y = residue_is (reduced (x.word * y.word)) (number x * number y)
      (number_of_residue (numbering {M = M} {g = g} S) S.numbers.prime _ ∙ product_of_forms g.MODULUS (inverse_of_power g.MODULUS 32) x.word y.word)

  sum_reduced : (v w : ℕ) → reduced (v + w) ≡ (field_of {M = M} {g = g} S).plus (reduced v) (reduced w)
  sum_reduced v w = residue_is (reduced (v + w)) (number {g = g} (reduced v) + number {g = g} (reduced w))
      (number_of_residue (numbering {M = M} {g = g} S) S.numbers.prime _
      ∙ sum_of_products_of_forms g.MODULUS (inverse_of_power g.MODULUS 32) v w
      ∙ sym (ap₂ (λ m n. (m + n) % g.MODULUS) (number_of_residue (numbering {M = M} {g = g} S) S.numbers.prime _) (number_of_residue (numbering {M = M} {g = g} S) S.numbers.prime _)))

  pub product_is : (x y z : PrimeField32 M g) → (2 ^ 32 * z.word) % g.MODULUS ≡ (x.word * y.word) % g.MODULUS → z ≡ (field_of {M = M} {g = g} S).times x y
  product_is x y z e = reduced_is z (x.word * y.word) e ∙ product_reduced x y

  two_products : (x y z w : PrimeField32 M g) → reduced (x.word * y.word + z.word * w.word)
      ≡ (field_of {M = M} {g = g} S).plus ((field_of {M = M} {g = g} S).times x y) ((field_of {M = M} {g = g} S).times z w)
  two_products x y z w =
      sum_reduced (x.word * y.word) (z.word * w.word) ∙ ap₂ (field_of {M = M} {g = g} S).plus (product_reduced x y) (product_reduced z w)

  pub four_products_are : (a b c d : PrimeField32 M g × PrimeField32 M g) (z : PrimeField32 M g) →
      (2 ^ 32 * z.word) % g.MODULUS ≡ (a.0.word * a.1.word + b.0.word * b.1.word + (c.0.word * c.1.word + d.0.word * d.1.word)) % g.MODULUS →
      z ≡ (field_of {M = M} {g = g} S).plus
      ((field_of {M = M} {g = g} S).plus ((field_of {M = M} {g = g} S).times a.0 a.1) ((field_of {M = M} {g = g} S).times b.0 b.1))
      ((field_of {M = M} {g = g} S).plus ((field_of {M = M} {g = g} S).times c.0 c.1) ((field_of {M = M} {g = g} S).times d.0 d.1))
  four_products_are a b c d z e =
      reduced_is z _ e
      ∙ sum_reduced (a.0.word * a.1.word + b.0.word * b.1.word) (c.0.word * c.1.word + d.0.word * d.1.word)
      ∙ ap₂ (field_of {M = M} {g = g} S).plus (two_products a.0 a.1 b.0 b.1) (two_products c.0 c.1 d.0 d.1)

  number_of_nothing : (x : PrimeField32 M g) → x.word ≡ 0 → number x ≡ 0
  unfolding number
  number_of_nothing x e =
      ap (λ v. (v * inverse_of_power g.MODULUS 32) % g.MODULUS) e ∙ ap (λ v. v % g.MODULUS) (zero-mul (inverse_of_power g.MODULUS 32)) ∙ zero-mod g.MODULUS

  pub zero_is : (x : PrimeField32 M g) → x.word ≡ 0 → x ≡ (field_of {M = M} {g = g} S).zero
  zero_is x e = same_by_number S _ _ (number_of_nothing x e ∙ sym (number_of_zero (numbering {M = M} {g = g} S) S.numbers.prime))

  -- words are equal where numbers are
  pub same_words_or_numbers : (x y : PrimeField32 M g) → (x.word == y.word) ≡ on number nat_eq x y
  same_words_or_numbers x y =
      both_ways (x.word == y.word) (on number nat_eq x y)
      (λ t. eq-eqb (number x) (number y) (ap number (same_by_word x y (eqb-true x.word y.word t))))
      (λ t. eq-eqb x.word y.word (ap (λ z. z.word) (same_by_number S x y (eqb-true (number x) (number y) t))))
