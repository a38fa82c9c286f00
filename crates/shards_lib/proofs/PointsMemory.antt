-- An error of points that isn't a repeated one is refused memory.
use Rattle.std.proofs.Common.{◌≡◌, refl, Result, Err}
use Rattle.ark_points.specs.declared.error.PointsError.{PointsError}
use Rattle.ark_points.specs.declared.error.PointsError.TheVariants.{Memory, RepeatedPoint}

pub points_memory : {X : Type 0} (error : PointsError) → (◌≡◌ {A = Result X PointsError} (Err error) (Err RepeatedPoint) → ⊥) → error ≡ Memory
points_memory Memory repeated = refl
points_memory RepeatedPoint repeated = absurd (repeated refl)
