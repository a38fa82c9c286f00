-- Words of the private steps: sums of weights times powers of points, and points that are roots of unity.
use Rattle.std.specs.Prelude.{◌≡◌, ℕ, ◌<◌, ◌≤◌, ◌⊎◌, List, length}
use Rattle.ark_math.specs.Field.{FieldOn, power}
use Rattle.ark_math.specs.Module.{itself, sum_below}
use Rattle.ark_math.specs.Univariate.{of_list}
use Rattle.ark_bit_reversed.specs.Blocks.{AreFirstValues, size_of}
use Rattle.ark_subproducts.specs.declared.roots.Known.{Known}

-- the sum of w 0, w 1, .., each times the power t of its point of a list
abbrev pub power_sum : {F : Type 0} → FieldOn F → List F → (ℕ → F) → ℕ → F
power_sum K zs w t = sum_below (itself K) (length zs) (λ i. K.times (w i) (power K (of_list K zs i) t))

-- the power n of each point
pub record ArePowers {F : Type 0} (K : FieldOn F) (n : ℕ) (points powers : List F) : Type 0 where
  pub len : length powers ≡ length points
  pub each : (i : ℕ) → i < length points → of_list K powers i ≡ power K (of_list K points i) n

-- y is x, with the power q that is p; or where p is one both are zero
abbrev pub IsOffRoot : {F : Type 0} → FieldOn F → F → F → F → F → Type 0
IsOffRoot K x p y q = ((y ≡ x) × (q ≡ p)) ⊎ ((p ≡ K.one) × (y ≡ K.zero) × (q ≡ K.zero))

-- each of the others is the point at its place, but where the power n of that one is one
pub record AreOffRoots {F : Type 0} (K : FieldOn F) (n : ℕ) (points others : List F) : Type 0 where
  pub len : length others ≡ length points
  pub each : (i : ℕ) → i < length points → (of_list K others i ≡ of_list K points i) ⊎ (power K (of_list K points i) n ≡ K.one)

-- a polynomial's values at all elements of a table, which are enough for it
pub record IsKnown {F : Type 0} (K : FieldOn F) (known : Known F) : Type 0 where
  pub few : length known.polynomial.now ≤ size_of known.blocks.now
  pub values : AreFirstValues K known.blocks.now (size_of known.blocks.now) (of_list K known.polynomial.now) known.values.now
