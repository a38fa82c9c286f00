-- A secret beside its shares: the points with zero before them.
use Rattle.std.proofs.Common.{◌≡◌, ℕ, zero, suc, ◌+◌, ◌<◌, ◌≤◌, sym, ◌∙◌, subst, arith, add-one, List, ◌∷◌, length, refl}
use Rattle.ark_math.specs.Field.{FieldOn, IsField}
use Rattle.ark_math.specs.Module.{itself, sum_below}
use Rattle.ark_math.specs.Univariate.{IsBelow, IsValue, of_list, value_below}
use Rattle.ark_math.proofs.Algebra.Ring.{ring2}
use Rattle.ark_math.proofs.Algebra.Solve.{◌⊗◌, ◌⊕◌, nought}
use Rattle.ark_math_polynomials.proofs.Polynomials.Univariate.{IsBelow-more}
use Rattle.ark_math_polynomials.proofs.Polynomials.UnivariateLists.{of_list-below}
use Rattle.ark_math_polynomials.proofs.Polynomials.UnivariateValues.{one_value, value_below-first}
use Rattle.ark_math_points.specs.AtPoints.{AreDifferent, AreWeightsAt, HasValues}
use Rattle.ark_math_points.proofs.AtPoints.Newton.{only_interpolation, some_interpolation}
use Rattle.ark_math_points.proofs.AtPoints.Lagrange.{weighted_values}
use Rattle.ark_sharing.specs.Sharing.{AreNotZero, IsSharing}

-- one value before others
abbrev after : {F : Type 0} → F → (ℕ → F) → ℕ → F
after z x zero = z
after z x (suc i) = x i

module _ {F : Type 0} (K : FieldOn F) (N : IsField K) where
  different_after : (n : ℕ) (x : ℕ → F) → AreDifferent n x → AreNotZero K n x → AreDifferent (suc n) (after K.zero x)
  different_after n x different some zero zero l b e = absurd (omega (arith, l))
  different_after n x different some zero (suc j) l b e = some j (omega (arith, b)) (sym e)
  different_after n x different some (suc i) zero l b e = absurd (omega (arith, l))
  different_after n x different some (suc i) (suc j) l b e = different i j (omega (arith, l)) (omega (arith, b)) e

  values_after : (n : ℕ) (x y : ℕ → F) (s : F) (a : ℕ → F) → IsValue K a K.zero s → HasValues K n x y a → (i : ℕ) → i < suc n → IsValue K a (after K.zero x i) (after s y i)
  values_after n x y s a at values zero l = at
  values_after n x y s a at values (suc i) l = values i (omega (arith, l))

  -- with a secret there is a polynomial that has given shares
  pub some_sharing : (n : ℕ) (x y : ℕ → F) (s : F) → AreDifferent n x → AreNotZero K n x → (a : ℕ → F) × IsSharing K (n + 1) s a × HasValues K n x y a
  some_sharing n x y s different some =
      let h = some_interpolation K N (after K.zero x) (after s y) (suc n) (different_after n x different some) in
      (h.0, record { below = subst (λ m. IsBelow K m h.0) (sym (add-one n)) h.1; at_zero = h.2 0 (omega arith) }, λ i l. h.2 (suc i) (omega (arith, l)))

  -- and only one
  pub only_sharing : (n : ℕ) (x y : ℕ → F) (s : F) → AreDifferent n x → AreNotZero K n x → (a b : ℕ → F) → IsSharing K (n + 1) s a → HasValues K n x y a → IsSharing K (n + 1) s b → HasValues K n x y b → a ≡ b
  only_sharing n x y s different some a b h values k others =
      only_interpolation K N (after K.zero x) (after s y) (suc n) (different_after n x different some) a b
      (subst (λ m. IsBelow K m a) (add-one n) h.below) (subst (λ m. IsBelow K m b) (add-one n) k.below)
      (values_after n x y s a h.at_zero values) (values_after n x y s b k.at_zero others)

  -- the weights at zero give the secret
  pub secret_is : (n k : ℕ) (x y : ℕ → F) (weights : List F) (s t : F) (a : ℕ → F) → AreWeightsAt K n x K.zero weights → k ≤ n → IsSharing K k s a → HasValues K n x y a → t ≡ sum_below (itself K) n (λ i. K.times (of_list K weights i) (y i)) → t ≡ s
  secret_is n k x y weights s t a w l h values is =
      is ∙ one_value K N a K.zero (sum_below (itself K) n (λ i. K.times (of_list K weights i) (y i))) s
      (weighted_values K N x n y K.zero weights a w (IsBelow-more K k n a l h.below) values) h.at_zero

  -- the value at zero is the first coefficient
  pub first_at_zero : (c : List F) (s : F) → s ≡ of_list K c 0 → IsValue K (of_list K c) K.zero s
  first_at_zero c s is =
      let a = of_list K c in
      let n = length c in
      let long : IsBelow K (suc n) a = IsBelow-more K n (suc n) a (omega arith) (of_list-below K c) in (
        suc n,
        long,
        is
            ∙ ring2 K N (λ a r. (a, a ⊕ nought ⊗ r)) refl (a 0) (value_below K n (λ i. a (suc i)) K.zero)
            ∙ sym (value_below-first K N n a K.zero),
      )

  -- a sharing for fewer shares is one for more
  pub sharing_more : (k n : ℕ) (s : F) (a : ℕ → F) → k ≤ n → IsSharing K k s a → IsSharing K n s a
  sharing_more k n s a l h = record { below = IsBelow-more K k n a l h.below; at_zero = h.at_zero }

  -- a secret before coefficients
  pub sharing_of_list : (s : F) (c : List F) → IsSharing K (length c + 1) s (of_list K (s ∷ c))
  sharing_of_list s c =
      record {
        below = subst (λ n. IsBelow K n (of_list K (s ∷ c))) (sym (add-one (length c))) (of_list-below K (s ∷ c));
        at_zero = first_at_zero (s ∷ c) s refl;
      }
