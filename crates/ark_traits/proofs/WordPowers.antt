-- Powers by squaring, a word of the exponent at a time.
use Rattle.std.proofs.Common.{◌≡◌, ◌≢◌, ℕ, zero, suc, ◌+◌, ◌-◌, ◌*◌, ◌/◌, ◌%◌, ◌^◌, ◌<◌, ◌≤◌, List, [], ◌∷◌, refl, length, drop, get_or, drop-cons, arith, sym, ap, subst, ◌∙◌, pow-suc}
use Rattle.std.proofs.Math.Nat.{pow-zero}
use Rattle.ark_math.specs.Field.{FieldOn, IsField, power}
use Rattle.ark_math.proofs.Algebra.Powers.{power_even, power_odd}
use Rattle.ark_math.specs.Words.{number_of_words}

-- what is left of a word, and what follows it: halved
halves : (left m n : ℕ) → (left + (m * 2) * n) / 2 ≡ left / 2 + m * n
halves left m n = omega arith

parity : (left m n : ℕ) → (left + (m * 2) * n) % 2 ≡ left % 2
parity left m n = omega arith

-- the bits of a word from the i-th on, with the words that follow
pub record IsWithin (left i : ℕ) : Type 0 where
  pub few : left < 2 ^ (64 - i)

module _ {F : Type 0} (K : FieldOn F) (L : IsField K) where
  one_more : (k : ℕ) → 2 ^ suc k ≡ 2 ^ k * 2
  one_more k = pow-suc 2 k

  pub odd_step : (r s : F) (left k n : ℕ) → left % 2 ≡ 1 →
      K.times (K.times r s) (power K (K.times s s) (left / 2 + 2 ^ k * n)) ≡ K.times r (power K s (left + 2 ^ suc k * n))
  odd_step r s left k n odd =
      let e = left + (2 ^ k * 2) * n in
      ap (λ m. K.times (K.times r s) (power K (K.times s s) m)) (sym (halves left (2 ^ k) n))
      ∙ power_odd K L r s e (parity left (2 ^ k) n ∙ odd)
      ∙ ap (λ m. K.times r (power K s (left + m * n))) (sym (one_more k))

  pub even_step : (r s : F) (left k n : ℕ) → left % 2 ≢ 1 →
      K.times r (power K (K.times s s) (left / 2 + 2 ^ k * n)) ≡ K.times r (power K s (left + 2 ^ suc k * n))
  even_step r s left k n even =
      let e = left + (2 ^ k * 2) * n in
      ap (λ m. K.times r (power K (K.times s s) m)) (sym (halves left (2 ^ k) n))
      ∙ ap (K.times r) (power_even K L s e (λ odd. even (sym (parity left (2 ^ k) n) ∙ odd)))
      ∙ ap (λ m. K.times r (power K s (left + m * n))) (sym (one_more k))

  -- ---- a bit of the loop

  pub odd_bit : (r s r' s' : F) (left i n : ℕ) → i < 64 → r' ≡ K.times r s → s' ≡ K.times s s → left % 2 ≡ 1 →
      K.times r' (power K s' (left / 2 + 2 ^ (64 - (i + 1)) * n)) ≡ K.times r (power K s (left + 2 ^ (64 - i) * n))
  odd_bit r s r' s' left i n l e f odd =
      let k = 64 - (i + 1) in
      let next : suc k ≡ 64 - i = omega arith in
      ap (λ y. K.times y (power K s' (left / 2 + 2 ^ k * n))) e
      ∙ ap (λ y. K.times (K.times r s) (power K y (left / 2 + 2 ^ k * n))) f
      ∙ odd_step r s left k n odd
      ∙ ap (λ j. K.times r (power K s (left + 2 ^ j * n))) next

  pub even_bit : (r s r' s' : F) (left i n : ℕ) → i < 64 → r' ≡ r → s' ≡ K.times s s → left % 2 ≢ 1 →
      K.times r' (power K s' (left / 2 + 2 ^ (64 - (i + 1)) * n)) ≡ K.times r (power K s (left + 2 ^ (64 - i) * n))
  even_bit r s r' s' left i n l e f even =
      let k = 64 - (i + 1) in
      let next : suc k ≡ 64 - i = omega arith in
      ap (λ y. K.times y (power K s' (left / 2 + 2 ^ k * n))) e
      ∙ ap (λ y. K.times r (power K y (left / 2 + 2 ^ k * n))) f
      ∙ even_step r s left k n even
      ∙ ap (λ j. K.times r (power K s (left + 2 ^ j * n))) next

  -- what a bit keeps, whatever the product and the square began with
  pub odd_kept : (r s r' s' whole : F) (left i n : ℕ) → i < 64 → r' ≡ K.times r s → s' ≡ K.times s s → left % 2 ≡ 1 →
      K.times r (power K s (left + 2 ^ (64 - i) * n)) ≡ whole → K.times r' (power K s' (left / 2 + 2 ^ (64 - (i + 1)) * n)) ≡ whole
  odd_kept r s r' s' whole left i n l e f odd h = odd_bit r s r' s' left i n l e f odd ∙ h

  pub even_kept : (r s r' s' whole : F) (left i n : ℕ) → i < 64 → r' ≡ r → s' ≡ K.times s s → left % 2 ≢ 1 →
      K.times r (power K s (left + 2 ^ (64 - i) * n)) ≡ whole → K.times r' (power K s' (left / 2 + 2 ^ (64 - (i + 1)) * n)) ≡ whole
  even_kept r s r' s' whole left i n l e f even h = even_bit r s r' s' left i n l e f even ∙ h

pub halved_within : (left i : ℕ) → i < 64 → IsWithin left i → IsWithin (left / 2) (i + 1)
halved_within left i l h =
    let k = 64 - (i + 1) in
    let next : 64 - i ≡ suc k = omega arith in
    let few : left < 2 ^ k * 2 = subst (λ m. left < m) (ap (λ j. 2 ^ j) next ∙ pow-suc 2 k) h.few in
    record { few = omega (arith, few) }

-- after the last bit
pub all_bits : (left i n : ℕ) → 64 ≤ i → IsWithin left i → left + 2 ^ (64 - i) * n ≡ n
all_bits left i n l h =
    let none : 64 - i ≡ 0 = omega arith in
    let one : 2 ^ (64 - i) ≡ 1 = ap (λ j. 2 ^ j) none ∙ pow-zero 2 in
    let few : left < 1 = subst (λ m. left < m) one h.few in
    ap (λ m. left + m * n) one ∙ omega (arith, few)

-- ---- words

pub words_split : (words : List ℕ) (i : ℕ) → i < length words →
    number_of_words (drop i words) ≡ get_or words i 0 + 18446744073709551616 * number_of_words (drop (i + 1) words)
words_split words i l =
    let next : suc i ≡ i + 1 = omega arith in
    ap number_of_words (drop-cons words i 0 l) ∙ ap (λ j. get_or words i 0 + 18446744073709551616 * number_of_words (drop j words)) next

pub no_words : (words : List ℕ) (i : ℕ) → length words ≤ i → number_of_words (drop i words) ≡ 0
no_words [] zero h = refl
no_words [] (suc i) h = refl
no_words (word ∷ words) zero h = absurd (omega (arith, h))
no_words (word ∷ words) (suc i) h = no_words words i (omega (arith, h))
