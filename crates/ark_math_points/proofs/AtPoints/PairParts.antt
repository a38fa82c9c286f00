-- The x and the y of pairs, as lists.
use Rattle.std.proofs.Common.{◌≡◌, ℕ, ◌<◌, List, length, map, refl, sym, ◌∙◌}
use mathlib.Core.Path.{fun_ext}
use Rattle.std.proofs.Math.ListN.{get_or-map}
use Rattle.ark_math.specs.Field.{FieldOn}
use Rattle.ark_math.specs.Univariate.{of_list}
use Rattle.ark_math.proofs.Lists.Tabulated.{is_tabulated}
use Rattle.ark_math_points.specs.AtPoints.{x_of, y_of}

module _ {F : Type 0} (K : FieldOn F) where
  pub x_of_is : (points : List (F × F)) → of_list K (map (λ p. p.0) points) ≡ x_of K points
  x_of_is points = fun_ext (λ i. get_or-map (λ (p : F × F). p.0) points i (K.zero, K.zero))

  pub y_of_is : (points : List (F × F)) → of_list K (map (λ p. p.1) points) ≡ y_of K points
  y_of_is points = fun_ext (λ i. get_or-map (λ (p : F × F). p.1) points i (K.zero, K.zero))

  -- lists of one length with the same items
  pub same_items : (xs ys : List F) → length xs ≡ length ys → ((i : ℕ) → i < length ys → of_list K xs i ≡ of_list K ys i) → xs ≡ ys
  same_items xs ys len same =
      is_tabulated K.zero xs (length ys) (of_list K ys) len same ∙ sym (is_tabulated K.zero ys (length ys) (of_list K ys) refl (λ i l. refl))
