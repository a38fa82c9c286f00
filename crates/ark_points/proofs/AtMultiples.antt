-- Polynomials at points moved by a factor: their values, and the polynomial through moved pairs.
use Rattle.std.proofs.Common.{◌≡◌, ◌≢◌, ℕ, ◌<◌, List, length, sym, ◌∙◌, ap, subst, subst₂, arith}
use Rattle.ark_math.specs.Field.{FieldOn, IsField, power}
use Rattle.ark_math.specs.Module.{itself}
use Rattle.ark_math.specs.Univariate.{IsBelow, IsValue, value_below}
use Rattle.ark_math.proofs.Algebra.Powers.{power-times, times_zero}
use Rattle.ark_math.proofs.Algebra.Sums.{sum_below-same}
use Rattle.ark_math_points.specs.AtPoints.{AreDifferent, HasRepeated, HasValues, IsThrough, x_of, y_of}
use Rattle.ark_points.specs.Steps.{ArePairsMoved, at_multiple}
use Rattle.ark_math_points.proofs.AtPoints.Newton.{only_interpolation}

module _ {F : Type 0} (K : FieldOn F) (N : IsField K) where
  at_multiple-below : (c : F) (n : ℕ) (a : ℕ → F) → IsBelow K n a → IsBelow K n (at_multiple K c a)
  at_multiple-below c n a b i l = ap (K.times (power K c i)) (b i l) ∙ times_zero K N (power K c i)

  value_below-at_multiple : (c : F) (n : ℕ) (a : ℕ → F) (x : F) → value_below K n a (K.times x c) ≡ value_below K n (at_multiple K c a) x
  value_below-at_multiple c n a x =
      sum_below-same (itself K) n (λ i. K.times (power K (K.times x c) i) (a i)) (λ i. K.times (power K x i) (K.times (power K c i) (a i)))
      (λ i l. ap (λ t. K.times t (a i)) (power-times K N x c i) ∙ N.times_assoc (power K x i) (power K c i) (a i))

  -- the value at x times c of what is moved by c is that at x
  pub value-at_multiple : (c : F) (a : ℕ → F) (x y : F) → IsValue K a (K.times x c) y → IsValue K (at_multiple K c a) x y
  value-at_multiple c a x y h = (h.0, at_multiple-below c h.0 a h.1, h.2 ∙ value_below-at_multiple c h.0 a x)

  -- the polynomial through moved pairs, moved back, is the one through the pairs
  pub through_moved : (c : F) (pairs moved : List (F × F)) (a : ℕ → F) → ArePairsMoved K c pairs moved → IsThrough K moved a → IsThrough K pairs (at_multiple K c a)
  through_moved c pairs moved a m h =
      let x = x_of K pairs in
      let y = y_of K pairs in
      let below : IsBelow K (length pairs) (at_multiple K c a) = at_multiple-below c (length pairs) a (subst (λ n. IsBelow K n a) m.len h.below) in
      let values : HasValues K (length pairs) x y (at_multiple K c a) = λ i l.
      value-at_multiple c a (x i) (y i) (subst₂ (IsValue K a) (m.x i l) (m.y i l) (h.values i (omega (arith, l, m.len)))) in
      let different : AreDifferent (length pairs) x = λ i j l b e.
      h.different i j l (omega (arith, b, m.len)) (m.x i (omega (arith, l, b)) ∙ ap (λ t. K.times t c) e ∙ sym (m.x j b)) in
      record {
        below = below;
        values = values;
        only = λ b short given. only_interpolation K N x y (length pairs) different b (at_multiple K c a) short below given values;
        different = different;
      }

  same_factor : (c s t : F) → c ≢ K.zero → K.times s c ≡ K.times t c → s ≡ t
  same_factor c s t some e =
      let v = N.inverts c some in
      let back : (z : F) → K.times (K.times z c) v.0 ≡ z = λ z. N.times_assoc z c v.0 ∙ ap (K.times z) v.1 ∙ N.times_one z in
      sym (back s) ∙ ap (λ u. K.times u v.0) e ∙ back t

  -- two moved x are one only where the x are
  pub repeated_moved : (c : F) (pairs moved : List (F × F)) → c ≢ K.zero → ArePairsMoved K c pairs moved → HasRepeated (length moved) (x_of K moved) → HasRepeated (length pairs) (x_of K pairs)
  repeated_moved c pairs moved some m h =
      let j : h.1 < length pairs = omega (arith, h.3, m.len) in
      let i : h.0 < length pairs = omega (arith, h.2, j) in
      (h.0, h.1, h.2, j, same_factor c (x_of K pairs h.0) (x_of K pairs h.1) some (sym (m.x h.0 i) ∙ h.4 ∙ m.x h.1 j))
