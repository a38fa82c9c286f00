-- Values at points of what is left of a polynomial by the product of x - z over them, and by those over both halves.
use Rattle.std.proofs.Common.{◌≡◌, ℕ, ◌/◌, ◌<◌, List, ◌++◌, length, take, drop, ◌∙◌, subst, arith}
use Rattle.std.proofs.lemmas.List.{length-append, length-drop, length-take-le, take-append-drop}
use Rattle.ark_math.specs.Field.{FieldOn, IsField}
use Rattle.ark_math.specs.Univariate.{IsQuotient}
use Rattle.ark_math_polynomials.specs.Nodes.{nodes}
use Rattle.ark_math_points.specs.AtPoints.{AreValuesAt}
use Rattle.ark_subproducts.proofs.Callers.Values.{values_of_remainder}
use Rattle.ark_subproducts.proofs.PointParts.{values-joined}

module _ {F : Type 0} (K : FieldOn F) (N : IsField K) where
  -- values at all points of what has them at both halves of what is left by each
  pub values_by_halves : (points : List F) → 1 < length points → (a r s d e : ℕ → F) (xs v w : List F) → xs ≡ drop (length points / 2) points → d ≡ nodes K (take (length points / 2) points) → e ≡ nodes K (drop (length points / 2) points)
      → ((q : ℕ → F) × IsQuotient K a d q r) → ((q : ℕ → F) × IsQuotient K a e q s) → AreValuesAt K (take (length points / 2) points) v r → AreValuesAt K xs w s → AreValuesAt K points (v ++ w) a
  values_by_halves points many a r s d e xs v w all is_low is_high low high V W =
      let half = length points / 2 in
      let B : AreValuesAt K (drop half points) w s = subst (λ t. AreValuesAt K t w s) all W in
      let front : length v ≡ half = V.len ∙ length-take-le half points (omega arith) in
      record {
        len = omega (arith, length-append v w, front, B.len, length-drop half points, many);
        values = values-joined K N points (take half points) (drop half points) (take-append-drop half points) v w a V.len
            (values_of_remainder K N a r d (take half points) v is_low low V.values)
            (values_of_remainder K N a s e (drop half points) w is_high high B.values);
      }
