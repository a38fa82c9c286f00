-- The polynomials of the remainder theorem: constants, and x - z.
use Rattle.std.specs.Prelude.{ℕ, [], ◌∷◌}
use Rattle.ark_math.specs.Field.{FieldOn}
use Rattle.ark_math.specs.Univariate.{of_list}

-- y alone
abbrev pub constant : {F : Type 0} → FieldOn F → F → ℕ → F
constant K y = of_list K (y ∷ [])

-- x - z
abbrev pub linear_factor : {F : Type 0} → FieldOn F → F → ℕ → F
linear_factor K z = of_list K (K.negated z ∷ K.one ∷ [])
