-- The places of a transform as sums over powers of a root, in which the lemmas of transforms and of kernels are stated.
use Rattle.std.specs.Prelude.{ℕ}
use Rattle.ark_math.specs.Field.{FieldOn, power}
use Rattle.ark_math.specs.Module.{ModuleOn, sum_below}

-- place i of the transform of n values f 0, f 1, .. at a root w: the sum over j < n of w ^ i ^ j times f j
abbrev pub dft_at : {F M : Type 0} → FieldOn F → ModuleOn F M → ℕ → F → (ℕ → M) → ℕ → M
dft_at K V n w f i = sum_below V n (λ j. V.scale (power K (power K w i) j) (f j))
