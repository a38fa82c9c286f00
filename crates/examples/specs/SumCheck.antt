-- The sums of a sum-check.
use Rattle.std.specs.Prelude.{◌-◌, ◌^◌, [], ◌∷◌}
use Rattle.ark_math.specs.Field.{FieldOn}
use Rattle.ark_math.specs.Module.{itself, sum_below}
use Rattle.ark_math_variables.specs.Multilinear.{Table, fixed}

-- the sum of a table's values at all corners
abbrev pub sum_of_all : {F : Type 0} → FieldOn F → Table F → F
sum_of_all K t = sum_below (itself K) (2 ^ t.variables) t.value

-- the sum over the other variables where the first one is x
abbrev pub sum_of_others : {F : Type 0} → FieldOn F → Table F → F → F
sum_of_others K t x = sum_below (itself K) (2 ^ (t.variables - 1)) (fixed K t.value (x ∷ []))
