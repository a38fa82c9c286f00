-- What levels of butterflies with the inverses of the roots leave of the values of a polynomial of two or four coefficients.
use Rattle.std.proofs.Common.{◌≡◌, ℕ, zero, suc, ◌+◌, ◌*◌, ◌/◌, ◌<◌, List, length, refl, sym, ◌∙◌, ap, ap₂, arith}
use Rattle.ark_math.specs.Field.{FieldOn, IsField, minus, power}
use Rattle.ark_math.specs.Univariate.{of_list, value_below}
use Rattle.ark_math.proofs.Algebra.Groups.{one_times}
use Rattle.ark_math.proofs.Algebra.Solve.{◌⊗◌, ◌⊕◌, ◌⊖◌, negative, unit, nought, raised}
use Rattle.ark_math.proofs.Algebra.Ring.{ring2, ring3, ring4, ring5}
use Rattle.ark_bit_reversed.specs.Blocks.{AreInverseRoots, AreTurnedBack}

-- what holds of four numbers holds of each below four
pub of_four : (P : ℕ → Type 0) → P 0 → P 1 → P 2 → P 3 → (j : ℕ) → j < 4 → P j
of_four P a b c d zero l = a
of_four P a b c d (suc zero) l = b
of_four P a b c d (suc (suc zero)) l = c
of_four P a b c d (suc (suc (suc zero))) l = d
of_four P a b c d (suc (suc (suc (suc j)))) l = absurd (omega arith)

module _ {F : Type 0} (K : FieldOn F) where
  -- one and one
  abbrev pub two : F
  two = K.plus K.one K.one

  -- two levels back of the same values by the same inverses
  pub turned_back_same : (t u v a b c d e f g h t' u' v' a' b' c' d' e' f' g' h' : F) → t ≡ t' → u ≡ u' → v ≡ v' → a ≡ a' → b ≡ b' → c ≡ c' → d ≡ d' → e ≡ e' → f ≡ f' → g ≡ g' → h ≡ h' → AreTurnedBack K t u v a b c d e f g h → AreTurnedBack K t' u' v' a' b' c' d' e' f' g' h'
  turned_back_same t u v a b c d e f g h t' u' v' a' b' c' d' e' f' g' h' pt pu pv pa pb pc pd pe pf pg ph is = rw (← pt, ← pu, ← pv, ← pa, ← pb, ← pc, ← pd, ← pe, ← pf, ← pg, ← ph) is

module _ {F : Type 0} (K : FieldOn F) (N : IsField K) where
  -- the sum of two values that lie as far from a middle is twice that
  sum_back : (t p q e f : F) → e ≡ K.plus p (K.times t q) → f ≡ K.plus p (K.times (K.negated t) q) → K.plus e f ≡ K.times (two K) p
  sum_back t p q e f first second =
      ap₂ K.plus first second
      ∙ ring3 K N (λ t p q. ((p ⊕ t ⊗ q) ⊕ (p ⊕ negative t ⊗ q), (unit ⊕ unit) ⊗ p)) refl t p q

  -- and their difference is twice how far, by the root
  difference_back : (s t p q e f : F) → K.times s t ≡ K.one → e ≡ K.plus p (K.times t q) → f ≡ K.plus p (K.times (K.negated t) q) → K.times s (minus K e f) ≡ K.times (two K) q
  difference_back s t p q e f inverse first second =
      ap₂ (λ x y. K.times s (minus K x y)) first second
      ∙ ring4 K N (λ s t p q. (s ⊗ ((p ⊕ t ⊗ q) ⊖ (p ⊕ negative t ⊗ q)), (s ⊗ t) ⊗ ((unit ⊕ unit) ⊗ q))) refl s t p q
      ∙ ap (λ x. K.times x (K.times (two K) q)) inverse
      ∙ one_times K N (K.times (two K) q)

  -- a value of four coefficients by those of two
  value_of_four : (c : ℕ → F) (z w : F) → K.times z z ≡ w → value_below K 4 c z ≡ K.plus (K.plus (c 0) (K.times w (c 2))) (K.times z (K.plus (c 1) (K.times w (c 3))))
  value_of_four c z w square =
      ring5 K N (λ z a b d e. (nought ⊕ raised z 0 ⊗ a ⊕ raised z 1 ⊗ b ⊕ raised z 2 ⊗ d ⊕ raised z 3 ⊗ e, (a ⊕ (z ⊗ z) ⊗ d) ⊕ z ⊗ (b ⊕ (z ⊗ z) ⊗ e))) refl z (c 0) (c 1) (c 2) (c 3)
      ∙ ap (λ t. K.plus (K.plus (c 0) (K.times t (c 2))) (K.times z (K.plus (c 1) (K.times t (c 3))))) square

  -- a value of two coefficients
  value_of_two : (c : ℕ → F) (z : F) → value_below K 2 c z ≡ K.plus (c 0) (K.times z (c 1))
  value_of_two c z = ring3 K N (λ z a b. (nought ⊕ raised z 0 ⊗ a ⊕ raised z 1 ⊗ b, a ⊕ z ⊗ b)) refl z (c 0) (c 1)

  -- the sum of twice two values, whose own sum is twice a third one, is four times that
  twice : (p q c d : F) → p ≡ K.times (two K) c → q ≡ K.times (two K) d → (s : F) → K.plus c d ≡ K.times (two K) s → K.plus p q ≡ K.times (power K (two K) 2) s
  twice p q c d first second s sum =
      ap₂ K.plus first second
      ∙ sym (N.times_plus (two K) c d)
      ∙ ap (K.times (two K)) sum
      ∙ ring2 K N (λ t s. (t ⊗ (t ⊗ s), raised t 2 ⊗ s)) refl (two K) s

  -- and their difference by an inverse of a root, as far as that is twice a third one
  twice_by : (p q c d t : F) → p ≡ K.times (two K) c → q ≡ K.times (two K) d → (s : F) → K.times t (minus K c d) ≡ K.times (two K) s → K.times t (minus K p q) ≡ K.times (power K (two K) 2) s
  twice_by p q c d t first second s difference =
      ap₂ (λ x y. K.times t (minus K x y)) first second
      ∙ ring4 K N (λ h t c d. (t ⊗ (h ⊗ c ⊖ h ⊗ d), h ⊗ (t ⊗ (c ⊖ d)))) refl (two K) t c d
      ∙ ap (K.times (two K)) difference
      ∙ ring2 K N (λ t s. (t ⊗ (t ⊗ s), raised t 2 ⊗ s)) refl (two K) s

  -- two levels back leave four times the coefficients
  pub four_back : (x : ℕ → F) (inverses : List F) → AreInverseRoots K x inverses → (b : ℕ) → 4 * b + 3 < length inverses + length inverses → (c : ℕ → F) (p q r s d e f g : F)
      → p ≡ value_below K 4 c (x (4 * b)) → q ≡ value_below K 4 c (x (4 * b + 1)) → r ≡ value_below K 4 c (x (4 * b + 2)) → s ≡ value_below K 4 c (x (4 * b + 3))
      → AreTurnedBack K (of_list K inverses b) (of_list K inverses (2 * b)) (of_list K inverses (2 * b + 1)) p q r s d e f g
      → (d ≡ K.times (power K (two K) 2) (c 0)) × (e ≡ K.times (power K (two K) 2) (c 1)) × (f ≡ K.times (power K (two K) 2) (c 2)) × (g ≡ K.times (power K (two K) 2) (c 3))
  four_back x inverses known b within c p q r s d e f g first second third fourth turned =
      let R = known.reversed in
      let T = x (b + b) in
      let U = x (2 * b + 2 * b) in
      let V = x ((2 * b + 1) + (2 * b + 1)) in
      let t = of_list K inverses b in
      let u = of_list K inverses (2 * b) in
      let v = of_list K inverses (2 * b + 1) in
      let i0 : 4 * b ≡ 2 * b + 2 * b = omega arith in
      let i1 : 4 * b + 1 ≡ suc (2 * b + 2 * b) = omega arith in
      let i2 : 4 * b + 2 ≡ (2 * b + 1) + (2 * b + 1) = omega arith in
      let i3 : 4 * b + 3 ≡ suc ((2 * b + 1) + (2 * b + 1)) = omega arith in
      let h0 : (2 * b + 2 * b) / 2 ≡ b + b = omega arith in
      let h2 : ((2 * b + 1) + (2 * b + 1)) / 2 ≡ suc (b + b) = omega arith in
      let square : K.times U U ≡ T = R.squares (2 * b + 2 * b) (omega (arith, within)) ∙ ap x h0 in
      let other : K.times V V ≡ K.negated T = R.squares ((2 * b + 1) + (2 * b + 1)) (omega (arith, within)) ∙ ap x h2 ∙ R.opposites b (omega (arith, within)) in
      let minus_square : (z : F) → K.times (K.negated z) (K.negated z) ≡ K.times z z = λ z. ring2 K N (λ z y. (negative z ⊗ negative z, z ⊗ z)) refl z z in
      let P0 = K.plus (c 0) (K.times T (c 2)) in
      let Q0 = K.plus (c 1) (K.times T (c 3)) in
      let P1 = K.plus (c 0) (K.times (K.negated T) (c 2)) in
      let Q1 = K.plus (c 1) (K.times (K.negated T) (c 3)) in
      let p_is : p ≡ K.plus P0 (K.times U Q0) = first ∙ ap (λ k. value_below K 4 c (x k)) i0 ∙ value_of_four c U T square in
      let q_is : q ≡ K.plus P0 (K.times (K.negated U) Q0) = second ∙ ap (λ k. value_below K 4 c (x k)) i1 ∙ ap (value_below K 4 c) (R.opposites (2 * b) (omega (arith, within))) ∙ value_of_four c (K.negated U) T (minus_square U ∙ square) in
      let r_is : r ≡ K.plus P1 (K.times V Q1) = third ∙ ap (λ k. value_below K 4 c (x k)) i2 ∙ value_of_four c V (K.negated T) other in
      let s_is : s ≡ K.plus P1 (K.times (K.negated V) Q1) = fourth ∙ ap (λ k. value_below K 4 c (x k)) i3 ∙ ap (value_below K 4 c) (R.opposites (2 * b + 1) (omega (arith, within))) ∙ value_of_four c (K.negated V) (K.negated T) (minus_square V ∙ other) in
      let inverse_t : K.times t T ≡ K.one = known.each b (omega (arith, within)) in
      let inverse_u : K.times u U ≡ K.one = known.each (2 * b) (omega (arith, within)) in
      let inverse_v : K.times v V ≡ K.one = known.each (2 * b + 1) (omega (arith, within)) in
      let low_sum = sum_back U P0 Q0 p q p_is q_is in
      let low = difference_back u U P0 Q0 p q inverse_u p_is q_is in
      let high_sum = sum_back V P1 Q1 r s r_is s_is in
      let high = difference_back v V P1 Q1 r s inverse_v r_is s_is in (
        turned.first ∙ twice _ _ P0 P1 low_sum high_sum (c 0) (sum_back T (c 0) (c 2) P0 P1 refl refl),
        turned.second ∙ twice _ _ Q0 Q1 low high (c 1) (sum_back T (c 1) (c 3) Q0 Q1 refl refl),
        turned.third ∙ twice_by _ _ P0 P1 t low_sum high_sum (c 2) (difference_back t T (c 0) (c 2) P0 P1 inverse_t refl refl),
        turned.fourth ∙ twice_by _ _ Q0 Q1 t low high (c 3) (difference_back t T (c 1) (c 3) Q0 Q1 inverse_t refl refl),
      )

  -- and one level twice the coefficients
  pub two_back : (x : ℕ → F) (inverses : List F) → AreInverseRoots K x inverses → (b : ℕ) → 2 * b + 1 < length inverses + length inverses → (c : ℕ → F) (p q : F) → p ≡ value_below K 2 c (x (2 * b)) → q ≡ value_below K 2 c (x (2 * b + 1))
      → (K.plus p q ≡ K.times (two K) (c 0)) × (K.times (of_list K inverses b) (minus K p q) ≡ K.times (two K) (c 1))
  two_back x inverses known b within c p q first second =
      let T = x (b + b) in
      let i0 : 2 * b ≡ b + b = omega arith in
      let i1 : 2 * b + 1 ≡ suc (b + b) = omega arith in
      let p_is : p ≡ K.plus (c 0) (K.times T (c 1)) = first ∙ ap (λ k. value_below K 2 c (x k)) i0 ∙ value_of_two c T in
      let q_is : q ≡ K.plus (c 0) (K.times (K.negated T) (c 1)) = second ∙ ap (λ k. value_below K 2 c (x k)) i1 ∙ ap (value_below K 2 c) (known.reversed.opposites b (omega (arith, within))) ∙ value_of_two c (K.negated T) in (
        sum_back T (c 0) (c 1) p q p_is q_is,
        difference_back (of_list K inverses b) T (c 0) (c 1) p q (known.each b (omega (arith, within))) p_is q_is,
      )
