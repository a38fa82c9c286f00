-- Sums, differences and multiples of sharings, and what that says of how many there are.
use Rattle.std.proofs.Common.{◌≡◌, ℕ, ◌+◌, ◌<◌, List, length, map, zip, get_or, sym, ap, subst, subst₂, ◌∙◌, arith, refl}
use Rattle.std.proofs.lemmas.List.{get_or-map, length-map}
use Rattle.std.proofs.lemmas.Slice.Zip.{get_or-zip, length-zip}
use mathlib.Core.Path.{fun_ext}
use Rattle.ark_math.specs.Field.{FieldOn, IsField, minus}
use Rattle.ark_math.specs.Univariate.{IsValue, added, difference, of_list, scaled}
use Rattle.ark_math.proofs.Algebra.Ring.{ring1, ring2}
use Rattle.ark_math.proofs.Algebra.Solve.{◌⊕◌, ◌⊖◌, nought}
use Rattle.ark_math_polynomials.proofs.Polynomials.Univariate.{added-below, difference-below, scaled-below}
use Rattle.ark_math_polynomials.proofs.Polynomials.UnivariateValues.{value-added, value-difference, value-scaled}
use Rattle.ark_math_points.specs.AtPoints.{AreDifferent, x_of, y_of}
use Rattle.ark_math_points.proofs.AtPoints.PairParts.{x_of_is}
use Rattle.ark_sharing.specs.Sharing.{AreNotZero, AreOneToOne, AreShares, IsSharing, IsSharingWith, added_shares, scaled_shares}
use Rattle.ark_sharing.proofs.Secrets.{sharing_more, some_sharing}

module _ {F : Type 0} (K : FieldOn F) (N : IsField K) where
  pub sharing_added : (k : ℕ) (s t : F) (a b : ℕ → F) → IsSharing K k s a → IsSharing K k t b → IsSharing K k (K.plus s t) (added K a b)
  sharing_added k s t a b g h =
      record {
        below = added-below K N k a b g.below h.below;
        at_zero = value-added K N a b K.zero s t g.at_zero h.at_zero;
      }

  sharing_difference : (k : ℕ) (s t : F) (a b : ℕ → F) → IsSharing K k s a → IsSharing K k t b → IsSharing K k (minus K s t) (difference K a b)
  sharing_difference k s t a b g h =
      record {
        below = difference-below K N k a b g.below h.below;
        at_zero = value-difference K N a b K.zero s t g.at_zero h.at_zero;
      }

  pub sharing_scaled : (k : ℕ) (c s : F) (a : ℕ → F) → IsSharing K k s a → IsSharing K k (K.times c s) (scaled K c a)
  sharing_scaled k c s a h =
      record {
        below = scaled-below K N k a c h.below;
        at_zero = value-scaled K N c a K.zero s h.at_zero;
      }

  pub length-added_shares : (left right : List (F × F)) → length right ≡ length left → length (added_shares K left right) ≡ length left
  length-added_shares left right same =
      let f : (F × F) × (F × F) → F × F = λ s. (s.0.0, K.plus s.0.1 s.1.1) in
      omega (arith, length-map (zip left right) f, length-zip left right, same)

  pub get_or-added_shares : (left right : List (F × F)) (i : ℕ) (d : F × F) → length right ≡ length left → i < length left → get_or (added_shares K left right) i d ≡ ((get_or left i d).0, K.plus (get_or left i d).1 (get_or right i d).1)
  get_or-added_shares left right i d same l =
      let f : (F × F) × (F × F) → F × F = λ s. (s.0.0, K.plus s.0.1 s.1.1) in
      get_or-map f (zip left right) i (d, d) d (omega (arith, l, length-zip left right, same)) ∙ ap f (get_or-zip left right i (d, d) l (omega (arith, l, same)))

  pub shares_added : (left right : List (F × F)) (a b : ℕ → F) → map (λ s. s.0) left ≡ map (λ s. s.0) right → AreShares K a left → AreShares K b right → AreShares K (added K a b) (added_shares K left right)
  shares_added left right a b same g h i l =
      let d : F × F = (K.zero, K.zero) in
      let count : length right ≡ length left = sym (length-map right (λ s. s.0)) ∙ ap length (sym same) ∙ length-map left (λ s. s.0) in
      let inside : i < length left = omega (arith, l, length-added_shares left right count) in
      let place = get_or-added_shares left right i d count inside in
      let xs : x_of K right ≡ x_of K left = sym (x_of_is K right) ∙ ap (of_list K) (sym same) ∙ x_of_is K left in
      subst₂ (IsValue K (added K a b)) (ap (λ s. s.0) (sym place)) (ap (λ s. s.1) (sym place))
      (value-added K N a b (x_of K left i) (y_of K left i) (y_of K right i) (g i inside)
      (subst (λ x. IsValue K b (x i) (y_of K right i)) xs (h i (omega (arith, inside, count)))))

  pub shares_scaled : (c : F) (shares : List (F × F)) (a : ℕ → F) → AreShares K a shares → AreShares K (scaled K c a) (scaled_shares K c shares)
  shares_scaled c shares a h i l =
      let f : F × F → F × F = λ s. (s.0, K.times c s.1) in
      let d : F × F = (K.zero, K.zero) in
      let inside : i < length shares = omega (arith, l, length-map shares f) in
      let place : get_or (map f shares) i d ≡ f (get_or shares i d) = get_or-map f shares i d d inside in
      subst₂ (IsValue K (scaled K c a)) (ap (λ s. s.0) (sym place)) (ap (λ s. s.1) (sym place))
      (value-scaled K N c a (x_of K shares i) (y_of K shares i) (h i inside))

  -- what is added is zero at all points, and the difference of the secrets at zero
  pub as_many : (shares : List (F × F)) (k : ℕ) (s t : F) → AreDifferent (length shares) (x_of K shares) → AreNotZero K (length shares) (x_of K shares) → length shares < k → AreOneToOne (IsSharingWith K k s shares) (IsSharingWith K k t shares)
  as_many shares k s t different some l =
      let n = length shares in
      let x = x_of K shares in
      let y = y_of K shares in
      let zeros = some_sharing K N n x (λ i. K.zero) (minus K t s) different some in
      let e = zeros.0 in
      let long : IsSharing K k (minus K t s) e = sharing_more K N (n + 1) k (minus K t s) e (omega (arith, l)) zeros.1 in
      record {
        there = λ a. added K a e;
        back = λ b. difference K b e;
        has_q =
            λ a h. (
              subst (λ u. IsSharing K k u (added K a e)) (ring2 K N (λ s t. (s ⊕ (t ⊖ s), t)) refl s t) (sharing_added k s (minus K t s) a e h.0 long),
              λ i l. subst (IsValue K (added K a e) (x i)) (N.plus_zero (y i)) (value-added K N a e (x i) (y i) K.zero (h.1 i l) (zeros.2 i l)),
            );
        has_p =
            λ b h. (
              subst (λ u. IsSharing K k u (difference K b e)) (ring2 K N (λ s t. (t ⊖ (t ⊖ s), s)) refl s t) (sharing_difference k t (minus K t s) b e h.0 long),
              λ i l. subst (IsValue K (difference K b e) (x i)) (ring1 K N (λ y. (y ⊖ nought, y)) refl (y i)) (value-difference K N b e (x i) (y i) K.zero (h.1 i l) (zeros.2 i l)),
            );
        undone_there = λ a h. fun_ext (λ i. ring2 K N (λ a e. ((a ⊕ e) ⊖ e, a)) refl (a i) (e i));
        undone_back = λ b h. fun_ext (λ i. ring2 K N (λ b e. ((b ⊖ e) ⊕ e, b)) refl (b i) (e i));
      }
