-- Two levels of butterflies on four items one after the other.
use Rattle.std.proofs.Common.{◌≡◌, ◌≢◌, ◌⊎◌, ℕ, zero, suc, ◌+◌, ◌*◌, ◌<◌, ◌≤◌, List, length, get_or, set, length-set, get_or-set_same, get_or-set_other, ap, ◌∙◌, refl, arith, ⊎_elim}
use Rattle.ark_math.specs.Field.{FieldOn, IsField}
use Rattle.ark_math.specs.Univariate.{of_list, value_below}
use Rattle.ark_bit_reversed.specs.Blocks.{AreReversed, AreTurned}
use Rattle.ark_bit_reversed.proofs.Elements.{root_of_low, second_of_low, root_of_high, second_of_high}
use Rattle.ark_bit_reversed.proofs.Callers.Splits.{first_turned, second_turned, third_turned, fourth_turned, value_of_one}

-- of the same items and roots
turned_same : {F : Type 0} (K : FieldOn F) {t u v a b c d e f g h t' u' v' a' b' c' d' e' f' g' h' : F} → AreTurned K t u v a b c d e f g h → t ≡ t' → u ≡ u' → v ≡ v' → a ≡ a' → b ≡ b' → c ≡ c' → d ≡ d' → e' ≡ e → f' ≡ f → g' ≡ g → h' ≡ h → AreTurned K t' u' v' a' b' c' d' e' f' g' h'
turned_same K T et eu ev ea eb ec ed ee ef eg eh =
    let first = T.first in
    let second = T.second in
    let third = T.third in
    let fourth = T.fourth in
    record { first = cc; second = cc; third = cc; fourth = cc }

module _ {X : Type 0} (xs : List X) (n : ℕ) (a b c d z : X) (inside : n + 3 < length xs) where
  -- four items written one after the other
  abbrev first_written : List X
  first_written = set xs n a

  abbrev second_written : List X
  second_written = set first_written (n + 1) b

  abbrev third_written : List X
  third_written = set second_written (n + 2) c

  abbrev pub four_written : List X
  four_written = set third_written (n + 3) d

  first_len : length first_written ≡ length xs
  first_len = length-set xs n a

  second_len : length second_written ≡ length xs
  second_len = length-set first_written (n + 1) b ∙ first_len

  third_len : length third_written ≡ length xs
  third_len = length-set second_written (n + 2) c ∙ second_len

  -- as many items as before
  pub four_len : length four_written ≡ length xs
  four_len = length-set third_written (n + 3) d ∙ third_len

  -- each of the four is what was written there
  pub written_first : get_or four_written n z ≡ a
  written_first =
      get_or-set_other third_written (n + 3) n d z (omega arith)
      ∙ get_or-set_other second_written (n + 2) n c z (omega arith)
      ∙ get_or-set_other first_written (n + 1) n b z (omega arith)
      ∙ get_or-set_same xs n a z (omega (arith, inside))

  pub written_second : get_or four_written (n + 1) z ≡ b
  written_second =
      get_or-set_other third_written (n + 3) (n + 1) d z (omega arith)
      ∙ get_or-set_other second_written (n + 2) (n + 1) c z (omega arith)
      ∙ get_or-set_same first_written (n + 1) b z (omega (arith, inside, first_len))

  pub written_third : get_or four_written (n + 2) z ≡ c
  written_third =
      get_or-set_other third_written (n + 3) (n + 2) d z (omega arith)
      ∙ get_or-set_same second_written (n + 2) c z (omega (arith, inside, second_len))

  pub written_fourth : get_or four_written (n + 3) z ≡ d
  written_fourth = get_or-set_same third_written (n + 3) d z (omega (arith, inside, third_len))

  -- and what is before and after them stays
  pub written_nowhere_else : (k : ℕ) → (k < n) ⊎ (n + 4 ≤ k) → get_or four_written k z ≡ get_or xs k z
  written_nowhere_else k out =
      let ne : (j : ℕ) → j < 4 → k ≢ n + j = λ j l e. ⊎_elim (λ (h : k < n). absurd (omega arith)) (λ (h : n + 4 ≤ k). absurd (omega arith)) out in
      let ne0 : k ≢ n = λ e. ne 0 (omega arith) (omega arith) in
      get_or-set_other third_written (n + 3) k d z (ne 3 (omega arith))
      ∙ get_or-set_other second_written (n + 2) k c z (ne 2 (omega arith))
      ∙ get_or-set_other first_written (n + 1) k b z (ne 1 (omega arith))
      ∙ get_or-set_other xs n k a z ne0

module _ {F : Type 0} (K : FieldOn F) (N : IsField K) (n : ℕ) (x : ℕ → F) (R : AreReversed K n x) where
  -- four coefficients become the values at a block's four elements
  four_values : (b : ℕ) (a v : ℕ → F) → 4 * b + 3 < n → AreTurned K (x (2 * b)) (x (4 * b)) (x (4 * b + 2)) (a 0) (a 1) (a 2) (a 3) (v 0) (v 1) (v 2) (v 3) → (i : ℕ) → i < 4 → v i ≡ value_below K 4 a (x (4 * b + i))
  four_values b a v within T = at
    where
      one : (y z : F) → y ≡ value_below K 1 (λ i. y) z
      one y z = value_of_one K N 1 (λ i. y) z 0 refl (omega arith)

      turned : (i : ℕ) → i < 1 → AreTurned K (x (2 * b)) (x (4 * b)) (x (4 * b + 2)) (a i) (a (1 + i)) (a (2 * 1 + i)) (a (3 * 1 + i)) (v 0) (v 1) (v 2) (v 3)
      turned zero l = T
      turned (suc i) l = absurd (omega arith)

      at : (i : ℕ) → i < 4 → v i ≡ value_below K 4 a (x (4 * b + i))
      at zero l =
          let z = x (4 * b + 0) in
          let e : 4 * b + 0 ≡ 4 * b = omega arith in
          one (v 0) z ∙ first_turned K N 1 a (λ i. v 0) (λ i. v 1) (λ i. v 2) (λ i. v 3) (x (2 * b)) (x (4 * b)) (x (4 * b + 2)) z turned
          (N.times_one z ∙ ap x e) (root_of_low K N n x R b (omega (arith, within)))
      at (suc zero) l =
          let z = x (4 * b + 1) in
          one (v 1) z ∙ second_turned K N 1 a (λ i. v 0) (λ i. v 1) (λ i. v 2) (λ i. v 3) (x (2 * b)) (x (4 * b)) (x (4 * b + 2)) z turned
          (N.times_one z ∙ second_of_low K N n x R b (omega (arith, within))) (root_of_low K N n x R b (omega (arith, within)))
      at (suc (suc zero)) l =
          let z = x (4 * b + 2) in
          one (v 2) z ∙ third_turned K N 1 a (λ i. v 0) (λ i. v 1) (λ i. v 2) (λ i. v 3) (x (2 * b)) (x (4 * b)) (x (4 * b + 2)) z turned
          (N.times_one z) (root_of_high K N n x R b (omega (arith, within)))
      at (suc (suc (suc zero))) l =
          let z = x (4 * b + 3) in
          one (v 3) z ∙ fourth_turned K N 1 a (λ i. v 0) (λ i. v 1) (λ i. v 2) (λ i. v 3) (x (2 * b)) (x (4 * b)) (x (4 * b + 2)) z turned
          (N.times_one z ∙ second_of_high K N n x R b within) (root_of_high K N n x R b (omega (arith, within)))
      at (suc (suc (suc (suc i)))) l = absurd (omega arith)

  -- the same, written in their place
  pub four_values_written : (b p : ℕ) (a : ℕ → F) (xs : List F) (t u v a0 a1 a2 a3 e f g h : F) (inside : p + 3 < length xs) → 4 * b + 3 < n → AreTurned K t u v a0 a1 a2 a3 e f g h → t ≡ x (2 * b) → u ≡ x (4 * b) → v ≡ x (4 * b + 2) → a0 ≡ a 0 → a1 ≡ a 1 → a2 ≡ a 2 → a3 ≡ a 3 → (i : ℕ) → i < 4 → of_list K (four_written xs p e f g h K.zero inside) (p + i) ≡ value_below K 4 a (x (4 * b + i))
  four_values_written b p a xs t u v a0 a1 a2 a3 e f g h inside within T is_t is_u is_v is0 is1 is2 is3 =
      let z = K.zero in
      let new = four_written xs p e f g h z inside in
      let here : p + 0 ≡ p = omega arith in
      four_values b a (λ i. of_list K new (p + i)) within
      (turned_same K T is_t is_u is_v is0 is1 is2 is3
      (ap (of_list K new) here ∙ written_first xs p e f g h z inside)
      (written_second xs p e f g h z inside)
      (written_third xs p e f g h z inside)
      (written_fourth xs p e f g h z inside))
