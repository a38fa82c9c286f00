-- Elements and their words, as the proofs of a field's calls cite them.
use Rattle.std.proofs.Common.{◌≡◌, ℕ, ◌+◌, ◌-◌, ◌*◌, ◌%◌, ◌^◌, ◌<◌, sym, ap, subst, ◌∙◌, mod-lt, le_of_lt, mul_comm, zero-mul}
use Rattle.std.specs.Prelude.{Bool, true, nat_eq, ◌==◌, ◌&&◌}
use Rattle.std.specs.Ordering.{on}
use Rattle.std.specs.Cmp.{both_ways}
use Rattle.std.proofs.lemmas.Bool.{and_parts, and_from, eqb-true, eq-eqb}
use Rattle.std.proofs.Math.Nat.{zero-mod}
use Rattle.std.proofs.lemmas.Nat.{mul-mod_first, mul-mod_second}
use Rattle.ark_prime256.specs.Words.{integer, IsMontgomery}
use Rattle.ark_base.specs.Montgomery.{inverse_of_power, form_of_number, to_form, from_form, sum_of_forms, difference_of_forms, negated_form, form_of_reduced, product_of_forms}
use Rattle.ark_prime256.specs.Modulus256Laws.{integer_of_modulus, integer_of_r, integer_of_r_squared, montgomery}
use Rattle.ark_math.specs.Field.{minus}
use Rattle.ark_base.specs.Residues.{residue_of}
use Rattle.ark_base.specs.ResiduesLaws.{number_of_residue, number_of_zero, number_of_one, minus_number}
use Rattle.ark_prime256.specs.Element.{Shown, number, numbering, field_of, one_of_power, same_by_number, same_by_words, unit}
use Rattle.ark_prime256.specs.declared.words.BigInteger256.{BigInteger256}
use Rattle.ark_prime256.specs.declared.prime_field.PrimeField256.{PrimeField256}
use Rattle.ark_prime256.specs.declared.prime_field.PrimeModulus256.{Ghosts}

-- the modulus as it is read, and with it what a product asks
pub read_modulus : {M : Type 0} (g : Ghosts M) (S : Shown g) (m : BigInteger256) → m ≡ g.MODULUS_WORDS → integer m ≡ g.MODULUS
read_modulus g S m e = ap integer e ∙ integer_of_modulus S

pub read_montgomery : {M : Type 0} (g : Ghosts M) (S : Shown g) (m : BigInteger256) (i : ℕ) → m ≡ g.MODULUS_WORDS → i ≡ g.NEGATED_INVERSE → IsMontgomery m i
read_montgomery g S m i e f = subst (λ w. IsMontgomery w i) (sym e) (subst (λ j. IsMontgomery g.MODULUS_WORDS j) (sym f) (montgomery S))

pub below_read : {M : Type 0} (g : Ghosts M) (S : Shown g) (m : BigInteger256) (v : ℕ) → m ≡ g.MODULUS_WORDS → v < g.MODULUS → v < integer m
below_read g S m v e h = subst (λ n. v < n) (sym (read_modulus g S m e)) h

pub below_modulus : {M : Type 0} (g : Ghosts M) (S : Shown g) (m : BigInteger256) (v : ℕ) → m ≡ g.MODULUS_WORDS → v < integer m → v < g.MODULUS
below_modulus g S m v e h = subst (λ n. v < n) (read_modulus g S m e) h

pub small_read : {M : Type 0} (g : Ghosts M) (S : Shown g) (m : BigInteger256) → m ≡ g.MODULUS_WORDS → integer m < 2 ^ 255
small_read g S m e = subst (λ n. n < 2 ^ 255) (sym (read_modulus g S m e)) S.numbers.small

pub square_below : {M : Type 0} (g : Ghosts M) (S : Shown g) (r : BigInteger256) → r ≡ g.R_SQUARED → integer r < g.MODULUS
square_below g S r e =
    subst (λ v. v < g.MODULUS) (sym (ap integer e ∙ integer_of_r_squared S)) (mod-lt _ (le_of_lt S.numbers.prime.above_one))

module _ {M : Type 0} {g : Ghosts M} (S : Shown g) where
  pub number_of_reduced : (x : PrimeField256 M g) (r : BigInteger256) (v : ℕ) → r ≡ g.R_SQUARED →
      (2 ^ 256 * integer x.words) % g.MODULUS ≡ (integer r * v) % g.MODULUS → number x ≡ v % g.MODULUS
  unfolding number
  number_of_reduced x r v e f =
      to_form g.MODULUS (2 ^ 256) (inverse_of_power g.MODULUS 256) (integer r) v (integer x.words) (one_of_power g S) x.reduced
      (ap integer e ∙ integer_of_r_squared S) f

  pub words_are_number : (x : PrimeField256 M g) (w one : BigInteger256) → integer w < g.MODULUS → integer one ≡ 1 →
      (2 ^ 256 * integer w) % g.MODULUS ≡ (integer x.words * integer one) % g.MODULUS → integer w ≡ number x
  unfolding number
  words_are_number x w one below e f =
      from_form g.MODULUS (2 ^ 256) (inverse_of_power g.MODULUS 256) (integer x.words) (integer w) (one_of_power g S) below
      (f ∙ ap (λ y. (integer x.words * y) % g.MODULUS) e)

  pub number_of_sum : (x y z : PrimeField256 M g) → integer z.words ≡ (integer x.words + integer y.words) % g.MODULUS →
      number z ≡ (number x + number y) % g.MODULUS
  unfolding number
  number_of_sum x y z e = sum_of_forms g.MODULUS (inverse_of_power g.MODULUS 256) (integer x.words) (integer y.words) (integer z.words) e

  pub number_of_difference : (x y z : PrimeField256 M g) → integer z.words ≡ (integer x.words + (g.MODULUS - integer y.words)) % g.MODULUS →
      number z ≡ (number x + (g.MODULUS - number y)) % g.MODULUS
  unfolding number
  number_of_difference x y z e =
      difference_of_forms g.MODULUS (inverse_of_power g.MODULUS 256) (integer x.words) (integer y.words) (integer z.words)
      (le_of_lt S.numbers.prime.above_one) (le_of_lt y.reduced) e

  pub number_of_negated : (x z : PrimeField256 M g) → integer z.words ≡ (g.MODULUS - integer x.words) % g.MODULUS →
      number z ≡ (g.MODULUS - number x) % g.MODULUS
  unfolding number
  number_of_negated x z e =
      negated_form g.MODULUS (inverse_of_power g.MODULUS 256) (integer x.words) (integer z.words)
      (le_of_lt S.numbers.prime.above_one) (le_of_lt x.reduced) e

  pub number_of_product : (x y z : PrimeField256 M g) → (2 ^ 256 * integer z.words) % g.MODULUS ≡ (integer x.words * integer y.words) % g.MODULUS →
      number z ≡ (number x * number y) % g.MODULUS
  unfolding number
  number_of_product x y z e =
      form_of_reduced g.MODULUS (2 ^ 256) (inverse_of_power g.MODULUS 256) (integer x.words * integer y.words) (integer z.words)
      (one_of_power g S) z.reduced e
      ∙ product_of_forms g.MODULUS (inverse_of_power g.MODULUS 256) (integer x.words) (integer y.words)

  -- the number of the unit's multiple by an element
  pub unit_times : (x : PrimeField256 M g) → number {M = M} {g = g} ((field_of {M = M} {g = g} S).times (unit {M = M} {g = g} S) x) ≡ integer x.words
  unfolding number
  unit_times x =
      number_of_residue (numbering {M = M} {g = g} S) S.numbers.prime _
      ∙ ap (λ n. n % g.MODULUS) (mul_comm (number {g = g} (unit {M = M} {g = g} S)) (number x))
      ∙ ap (λ n. (number x * n) % g.MODULUS) (number_of_residue (numbering {M = M} {g = g} S) S.numbers.prime (2 ^ 256))
      ∙ mul-mod_second (number x) (2 ^ 256) g.MODULUS
      ∙ form_of_number g.MODULUS (2 ^ 256) (inverse_of_power g.MODULUS 256) (integer x.words) (one_of_power g S) x.reduced

  -- what operations on forms give, where the modulus is read
  pub sum_is : (x y z : PrimeField256 M g) (m : BigInteger256) → m ≡ g.MODULUS_WORDS →
      integer z.words ≡ (integer x.words + integer y.words) % integer m → z ≡ (field_of {M = M} {g = g} S).plus x y
  sum_is x y z m e f =
      same_by_number S _ _ (number_of_sum x y z (f ∙ ap (λ n. (integer x.words + integer y.words) % n) (read_modulus g S m e))
      ∙ sym (number_of_residue (numbering {M = M} {g = g} S) S.numbers.prime (number x + number y)))

  pub difference_is : (x y z : PrimeField256 M g) (m : BigInteger256) → m ≡ g.MODULUS_WORDS →
      integer z.words ≡ (integer x.words + (integer m - integer y.words)) % integer m → z ≡ minus (field_of {M = M} {g = g} S) x y
  difference_is x y z m e f =
      same_by_number S _ _ (number_of_difference x y z (f ∙ ap (λ n. (integer x.words + (n - integer y.words)) % n) (read_modulus g S m e))
      ∙ sym (minus_number (numbering {M = M} {g = g} S) S.numbers.prime x y))

  pub negated_is : (x z : PrimeField256 M g) (m : BigInteger256) → m ≡ g.MODULUS_WORDS →
      integer z.words ≡ (integer m - integer x.words) % integer m → z ≡ (field_of {M = M} {g = g} S).negated x
  negated_is x z m e f =
      same_by_number S _ _ (number_of_negated x z (f ∙ ap (λ n. (n - integer x.words) % n) (read_modulus g S m e))
      ∙ sym (number_of_residue (numbering {M = M} {g = g} S) S.numbers.prime (g.MODULUS - number x)))

  pub product_is : (x y z : PrimeField256 M g) → (2 ^ 256 * integer z.words) % g.MODULUS ≡ (integer x.words * integer y.words) % g.MODULUS →
      z ≡ (field_of {M = M} {g = g} S).times x y
  product_is x y z f =
      same_by_number S _ _ (number_of_product x y z f ∙ sym (number_of_residue (numbering {M = M} {g = g} S) S.numbers.prime (number x * number y)))

  -- zero and one
  pub zero_is : (x : PrimeField256 M g) → integer x.words ≡ 0 → x ≡ (field_of {M = M} {g = g} S).zero
  unfolding number
  zero_is x e =
      same_by_number S _ _ (ap (λ v. (v * inverse_of_power g.MODULUS 256) % g.MODULUS) e
      ∙ ap (λ v. v % g.MODULUS) (zero-mul (inverse_of_power g.MODULUS 256)) ∙ zero-mod g.MODULUS
      ∙ sym (number_of_zero (numbering {M = M} {g = g} S) S.numbers.prime))

  pub one_is : (x : PrimeField256 M g) → x.words ≡ g.R → x ≡ (field_of {M = M} {g = g} S).one
  unfolding number
  one_is x e =
      same_by_number S _ _ (ap (λ v. (v * inverse_of_power g.MODULUS 256) % g.MODULUS) (ap integer e ∙ integer_of_r S)
      ∙ mul-mod_first (2 ^ 256) (inverse_of_power g.MODULUS 256) g.MODULUS ∙ one_of_power g S
      ∙ sym (number_of_one (numbering {M = M} {g = g} S) S.numbers.prime))

  pub residue_is : (x : PrimeField256 M g) (v : ℕ) → number x ≡ v % g.MODULUS → x ≡ residue_of (numbering {M = M} {g = g} S) S.numbers.prime v
  residue_is x v e = same_by_number S _ _ (e ∙ sym (number_of_residue (numbering {M = M} {g = g} S) S.numbers.prime v))

-- ---- equal words

fields_same : (a b : BigInteger256) → a.w0 ≡ b.w0 → a.w1 ≡ b.w1 → a.w2 ≡ b.w2 → a.w3 ≡ b.w3 → a ≡ b
fields_same a b e0 e1 e2 e3 = λ i. record { w0 = e0 i; w1 = e1 i; w2 = e2 i; w3 = e3 i }

abbrev are_same : BigInteger256 → BigInteger256 → Bool
are_same a b = a.w0 == b.w0 && (a.w1 == b.w1 && (a.w2 == b.w2 && a.w3 == b.w3))

same_from_test : (a b : BigInteger256) → are_same a b ≡ true → a ≡ b
same_from_test a b t =
    let t₁ = and_parts _ _ t in
    let t₂ = and_parts _ _ t₁.1 in
    let t₃ = and_parts _ _ t₂.1 in
    fields_same a b (eqb-true _ _ t₁.0) (eqb-true _ _ t₂.0) (eqb-true _ _ t₃.0) (eqb-true _ _ t₃.1)

test_from_same : (a b : BigInteger256) → a ≡ b → are_same a b ≡ true
test_from_same a b e =
    and_from _ _ (eq-eqb _ _ (ap (λ w. w.w0) e)) (and_from _ _ (eq-eqb _ _ (ap (λ w. w.w1) e))
    (and_from _ _ (eq-eqb _ _ (ap (λ w. w.w2) e)) (eq-eqb _ _ (ap (λ w. w.w3) e))))

pub same_words_or_numbers : {M : Type 0} {g : Ghosts M} (S : Shown g) (x y : PrimeField256 M g) → are_same x.words y.words ≡ on number nat_eq x y
same_words_or_numbers S x y =
    both_ways (are_same x.words y.words) (on number nat_eq x y)
    (λ t. eq-eqb (number x) (number y) (ap number (same_by_words x y (same_from_test x.words y.words t))))
    (λ t. test_from_same x.words y.words (ap (λ z. z.words) (same_by_number S x y (eqb-true (number x) (number y) t))))
