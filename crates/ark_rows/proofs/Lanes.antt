-- What stands in one lane is carried through sums, products and transforms.
use Rattle.std.proofs.Common.{◌≡◌, ℕ, List, refl, sym, ◌∙◌, ap, subst}
use Rattle.std.proofs.lemmas.List.{length-map}
use Rattle.ark_math.specs.Field.{FieldOn}
use Rattle.ark_math.specs.Module.{ModuleOn}
use Rattle.ark_math.specs.Domain.{Domain}
use Rattle.ark_math.specs.Transform.{transform, IsInverse}
use Rattle.ark_math_transforms.proofs.Transforms.Carried.{IsLinear, same_carries, transform-linear, fit-linear}
use Rattle.ark_rows.specs.Lanewise.{lane, lanewise}

lane_linear : {F M : Type 0} (V : ModuleOn F M) (i : ℕ) → IsLinear (λ x. x) (lanewise V) V (λ r. r i)
lane_linear V i = record { zero_kept = refl; plus_kept = λ x y. refl; scale_kept = λ a x. refl }

module _ {F M : Type 0} (K : FieldOn F) (V : ModuleOn F M) (i : ℕ) (d : Domain F) where
  -- a lane of a transform is the lane's transform
  pub transform-lane : (c : List (ℕ → M)) → lane i (transform K (lanewise V) d c) ≡ transform K V d (lane i c)
  transform-lane c = transform-linear (same_carries K) (lane_linear V i) d c

  -- and a lane of an inverse transform is the lane's
  inverse-lane : (v u : List (ℕ → M)) → IsInverse K (lanewise V) d v u → IsInverse K V d (lane i v) (lane i u)
  inverse-lane v u inverse = record {
    size = length-map u (λ r. r i) ∙ inverse.size;
    values = sym (transform-lane u) ∙ (ap (lane i) inverse.values ∙ fit-linear (same_carries K) (lane_linear V i) v d.size);
  }

  -- the same of a list that is the lane
  module _ (xs : List M) (rows : List (ℕ → M)) (is : xs ≡ lane i rows) where
    pub lane_of_transform : (c : List (ℕ → M)) → rows ≡ transform K (lanewise V) d c → xs ≡ transform K V d (lane i c)
    lane_of_transform c e = is ∙ (ap (lane i) e ∙ transform-lane c)

    pub lane_of_inverse : (c : List (ℕ → M)) → IsInverse K (lanewise V) d c rows → IsInverse K V d (lane i c) xs
    lane_of_inverse c inverse = subst (IsInverse K V d (lane i c)) (sym is) (inverse-lane c rows inverse)
