-- A module's values side by side.
use Rattle.std.specs.Prelude.{ℕ, List, map}
use Rattle.ark_math.specs.Module.{ModuleOn}

-- a module's values, one for each lane
abbrev pub lanewise : {F M : Type 0} → ModuleOn F M → ModuleOn F (ℕ → M)
lanewise V = record {
  zero = λ i. V.zero;
  plus = λ x y i. V.plus (x i) (y i);
  negated = λ x i. V.negated (x i);
  scale = λ a x i. V.scale a (x i);
}

-- what stands in lane i of each
abbrev pub lane : {M : Type 0} → ℕ → List (ℕ → M) → List M
lane i c = map (λ r. r i) c
