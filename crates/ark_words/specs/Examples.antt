-- Words of one and of four to a number, and a transform over the field of 5 elements, computed from the definitions.
use Rattle.std.specs.Prelude.{◌≡◌, [], ◌∷◌}
use Rattle.std.proofs.Common.{refl}
use Rattle.ark_numbers.specs.Fields.{field_5, bn254}
use Rattle.ark_words.specs.Numbers.{in_words, numbers, AreTransformed, AreTransformedBack, AreEvaluated}

one_each : numbers 1 (3 ∷ 1 ∷ 4 ∷ []) ≡ 3 ∷ 1 ∷ 4 ∷ []
one_each = refl

four_each : numbers 4 (7 ∷ 0 ∷ 0 ∷ 0 ∷ 0 ∷ 1 ∷ 0 ∷ 0 ∷ []) ≡ 7 ∷ 18446744073709551616 ∷ []
four_each = refl

-- the values at 1, 2, 4, 3 of 1 + 2x + 3x^2 + 4x^3, and back
values : AreTransformed (in_words 1 field_5) (1 ∷ 2 ∷ 3 ∷ 4 ∷ []) (1 ∷ []) (0 ∷ 4 ∷ 3 ∷ 2 ∷ [])
values = refl

back : AreTransformedBack (in_words 1 field_5) (0 ∷ 4 ∷ 3 ∷ 2 ∷ []) (1 ∷ []) (1 ∷ 2 ∷ 3 ∷ 4 ∷ [])
back = (record { size = refl; values = refl }, refl)

-- 1 + 2x at 3 and at 0, of four words each
at_points : AreEvaluated (in_words 4 bn254) (1 ∷ 0 ∷ 0 ∷ 0 ∷ 2 ∷ 0 ∷ 0 ∷ 0 ∷ []) (3 ∷ 0 ∷ 0 ∷ 0 ∷ 0 ∷ 0 ∷ 0 ∷ 0 ∷ []) (7 ∷ 0 ∷ 0 ∷ 0 ∷ 1 ∷ 0 ∷ 0 ∷ 0 ∷ [])
at_points = refl
