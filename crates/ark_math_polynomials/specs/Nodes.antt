-- Products over roots.
use Rattle.std.specs.Prelude.{ℕ, List, [], ◌∷◌}
use Rattle.ark_math.specs.Field.{FieldOn}
use Rattle.ark_math_polynomials.specs.Linear.{linear_factor}
use Rattle.ark_math.specs.Univariate.{monomial, product}

-- the product of x - z for each z of a list
abbrev pub nodes : {F : Type 0} → FieldOn F → List F → ℕ → F
nodes K [] = monomial K 0 K.one
nodes K (z ∷ zs) = product K (linear_factor K z) (nodes K zs)
