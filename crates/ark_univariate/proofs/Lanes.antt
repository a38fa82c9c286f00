-- Two lists of coefficients that are transformed side by side.
use Rattle.std.proofs.Common.{◌≡◌, ℕ, ◌<◌, ◌≤◌, List, length, map, refl, sym, ◌∙◌, ap, ap₂, subst}
use Rattle.std.proofs.lemmas.List.{length-map, get_or-map}
use Rattle.ark_math.specs.Field.{FieldOn, IsField}
use Rattle.ark_math.specs.Module.{ModuleOn, itself, paired, tabulate}
use Rattle.ark_math.specs.Domain.{Domain}
use Rattle.ark_math.specs.Transform.{transform}
use Rattle.ark_math.specs.Univariate.{of_list, product}
use Rattle.ark_math_domains.specs.Points.{AreValues}
use Rattle.ark_math_domains.proofs.Callers.Transforms.{transform-fit, transform-length}
use Rattle.ark_math_domains.proofs.OverDomains.PlaceValues.{transform-values, values-product}
use Rattle.ark_math_transforms.proofs.Transforms.Carried.{IsLinear, same_carries, map-tabulate, transform-linear}

module _ {F : Type 0} (K : FieldOn F) where
  abbrev pub lanes : ModuleOn F (F × F)
  lanes = paired (itself K) (itself K)

  first_linear : IsLinear (λ x. x) lanes (itself K) (λ t. t.0)
  first_linear = record { zero_kept = refl; plus_kept = λ x y. refl; scale_kept = λ a x. refl }

  second_linear : IsLinear (λ x. x) lanes (itself K) (λ t. t.1)
  second_linear = record { zero_kept = refl; plus_kept = λ x y. refl; scale_kept = λ a x. refl }

  -- the first n coefficients of both
  abbrev pub side_by_side : List F → List F → ℕ → List (F × F)
  side_by_side a b n = tabulate n (λ i. (of_list K a i, of_list K b i))

  module _ (N : IsField K) (d : Domain F) (a b : List F) where
    abbrev transformed : List (F × F)
    transformed = transform K lanes d (side_by_side a b d.size)

    -- each lane is the transform of its list
    first_lane : map (λ t. t.0) transformed ≡ transform K (itself K) d a
    first_lane =
        transform-linear (same_carries K) first_linear d (side_by_side a b d.size)
        ∙ ap (transform K (itself K) d) (map-tabulate (λ t. t.0) d.size (λ i. (of_list K a i, of_list K b i)))
        ∙ transform-fit K (itself K) d a

    second_lane : map (λ t. t.1) transformed ≡ transform K (itself K) d b
    second_lane =
        transform-linear (same_carries K) second_linear d (side_by_side a b d.size)
        ∙ ap (transform K (itself K) d) (map-tabulate (λ t. t.1) d.size (λ i. (of_list K a i, of_list K b i)))
        ∙ transform-fit K (itself K) d b

    -- so the products of both lanes are the values of the product
    pub values_of_lanes : length a ≤ d.size → length b ≤ d.size → (v : List (F × F)) (w : List F) → v ≡ transform K lanes d (side_by_side a b d.size) → w ≡ map (λ t. K.times t.0 t.1) v → AreValues K d (product K (of_list K a) (of_list K b)) w
    values_of_lanes short low v w e f =
        let size : length v ≡ d.size = ap length e ∙ transform-length K lanes d (side_by_side a b d.size) in
        let first = subst (AreValues K d (of_list K a)) (sym (ap (map (λ t. t.0)) e ∙ first_lane)) (transform-values K N d a short) in
        let second = subst (AreValues K d (of_list K b)) (sym (ap (map (λ t. t.1)) e ∙ second_lane)) (transform-values K N d b low) in
        subst (AreValues K d (product K (of_list K a) (of_list K b))) (sym f)
        (values-product K N d (of_list K a) (of_list K b) (map (λ t. t.0) v) (map (λ t. t.1) v) (map (λ t. K.times t.0 t.1) v) first second
        (length-map v (λ t. K.times t.0 t.1) ∙ size)
        (λ i l.
        let within : i < length v = rw (← size) at l in
        let z : F × F = (K.zero, K.zero) in
        get_or-map (λ t. K.times t.0 t.1) v i z K.zero within
        ∙ ap₂ K.times (sym (get_or-map (λ t. t.0) v i z K.zero within)) (sym (get_or-map (λ t. t.1) v i z K.zero within))))
