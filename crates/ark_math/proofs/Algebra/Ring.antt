-- Equations of a given number of values, each written once, as a function of those values.
use Rattle.std.proofs.Common.{◌≡◌, [], ◌∷◌}
use Rattle.ark_math.specs.Field.{FieldOn, IsField}
use Rattle.ark_math.specs.Module.{ModuleOn, IsModule}
use Rattle.ark_math.proofs.Algebra.Solve.{Scalar, scalar_at, scalar, flat, solve, solve_by, Vector, vector_at, vector, flat_vector, solve_vector, solve_vector_by, ◌⊕◌, ◌⊞◌}

-- an equation's two sides
abbrev pub Sides : Type 0
Sides = Scalar × Scalar

abbrev pub VectorSides : Type 0
VectorSides = Vector × Vector

-- an equation, and one that it follows from
abbrev pub Step : Type 0
Step = Scalar × Scalar × Scalar × Scalar

abbrev pub VectorStep : Type 0
VectorStep = Vector × Vector × Vector × Vector

abbrev pub IsSolved : Sides → Type 0
IsSolved e = flat e.0 ≡ flat e.1

abbrev pub IsVectorSolved : VectorSides → Type 0
IsVectorSolved e = flat_vector e.0 ≡ flat_vector e.1

abbrev pub IsStep : Step → Type 0
IsStep e = flat (e.0 ⊕ e.3) ≡ flat (e.1 ⊕ e.2)

abbrev pub IsVectorStep : VectorStep → Type 0
IsVectorStep e = flat_vector (e.0 ⊞ e.3) ≡ flat_vector (e.1 ⊞ e.2)

module _ {F : Type 0} (K : FieldOn F) (N : IsField K) where
  pub ring1 : (same : Scalar → Sides) → IsSolved (same (scalar_at 0)) → (a : F) → scalar K (a ∷ []) (same (scalar_at 0)).0 ≡ scalar K (a ∷ []) (same (scalar_at 0)).1
  ring1 same holds a = solve K N (a ∷ []) (same (scalar_at 0)).0 (same (scalar_at 0)).1 holds

  pub ring1_by : (same : Scalar → Step) → IsStep (same (scalar_at 0)) → (a : F) → scalar K (a ∷ []) (same (scalar_at 0)).2 ≡ scalar K (a ∷ []) (same (scalar_at 0)).3 → scalar K (a ∷ []) (same (scalar_at 0)).0 ≡ scalar K (a ∷ []) (same (scalar_at 0)).1
  ring1_by same holds a known = solve_by K N (a ∷ []) (same (scalar_at 0)).0 (same (scalar_at 0)).1 (same (scalar_at 0)).2 (same (scalar_at 0)).3 known holds

  pub ring2 : (same : Scalar → Scalar → Sides) → IsSolved (same (scalar_at 0) (scalar_at 1)) → (a b : F) → scalar K (a ∷ b ∷ []) (same (scalar_at 0) (scalar_at 1)).0 ≡ scalar K (a ∷ b ∷ []) (same (scalar_at 0) (scalar_at 1)).1
  ring2 same holds a b = solve K N (a ∷ b ∷ []) (same (scalar_at 0) (scalar_at 1)).0 (same (scalar_at 0) (scalar_at 1)).1 holds

  pub ring2_by : (same : Scalar → Scalar → Step) → IsStep (same (scalar_at 0) (scalar_at 1)) → (a b : F) → scalar K (a ∷ b ∷ []) (same (scalar_at 0) (scalar_at 1)).2 ≡ scalar K (a ∷ b ∷ []) (same (scalar_at 0) (scalar_at 1)).3 → scalar K (a ∷ b ∷ []) (same (scalar_at 0) (scalar_at 1)).0 ≡ scalar K (a ∷ b ∷ []) (same (scalar_at 0) (scalar_at 1)).1
  ring2_by same holds a b known = solve_by K N (a ∷ b ∷ []) (same (scalar_at 0) (scalar_at 1)).0 (same (scalar_at 0) (scalar_at 1)).1 (same (scalar_at 0) (scalar_at 1)).2 (same (scalar_at 0) (scalar_at 1)).3 known holds

  pub ring3 : (same : Scalar → Scalar → Scalar → Sides) → IsSolved (same (scalar_at 0) (scalar_at 1) (scalar_at 2)) → (a b c : F) → scalar K (a ∷ b ∷ c ∷ []) (same (scalar_at 0) (scalar_at 1) (scalar_at 2)).0 ≡ scalar K (a ∷ b ∷ c ∷ []) (same (scalar_at 0) (scalar_at 1) (scalar_at 2)).1
  ring3 same holds a b c = solve K N (a ∷ b ∷ c ∷ []) (same (scalar_at 0) (scalar_at 1) (scalar_at 2)).0 (same (scalar_at 0) (scalar_at 1) (scalar_at 2)).1 holds

  pub ring3_by : (same : Scalar → Scalar → Scalar → Step) → IsStep (same (scalar_at 0) (scalar_at 1) (scalar_at 2)) → (a b c : F) → scalar K (a ∷ b ∷ c ∷ []) (same (scalar_at 0) (scalar_at 1) (scalar_at 2)).2 ≡ scalar K (a ∷ b ∷ c ∷ []) (same (scalar_at 0) (scalar_at 1) (scalar_at 2)).3 → scalar K (a ∷ b ∷ c ∷ []) (same (scalar_at 0) (scalar_at 1) (scalar_at 2)).0 ≡ scalar K (a ∷ b ∷ c ∷ []) (same (scalar_at 0) (scalar_at 1) (scalar_at 2)).1
  ring3_by same holds a b c known = solve_by K N (a ∷ b ∷ c ∷ []) (same (scalar_at 0) (scalar_at 1) (scalar_at 2)).0 (same (scalar_at 0) (scalar_at 1) (scalar_at 2)).1 (same (scalar_at 0) (scalar_at 1) (scalar_at 2)).2 (same (scalar_at 0) (scalar_at 1) (scalar_at 2)).3 known holds

  pub ring4 : (same : Scalar → Scalar → Scalar → Scalar → Sides) → IsSolved (same (scalar_at 0) (scalar_at 1) (scalar_at 2) (scalar_at 3)) → (a b c d : F) → scalar K (a ∷ b ∷ c ∷ d ∷ []) (same (scalar_at 0) (scalar_at 1) (scalar_at 2) (scalar_at 3)).0 ≡ scalar K (a ∷ b ∷ c ∷ d ∷ []) (same (scalar_at 0) (scalar_at 1) (scalar_at 2) (scalar_at 3)).1
  ring4 same holds a b c d = solve K N (a ∷ b ∷ c ∷ d ∷ []) (same (scalar_at 0) (scalar_at 1) (scalar_at 2) (scalar_at 3)).0 (same (scalar_at 0) (scalar_at 1) (scalar_at 2) (scalar_at 3)).1 holds

  pub ring5 : (same : Scalar → Scalar → Scalar → Scalar → Scalar → Sides) → IsSolved (same (scalar_at 0) (scalar_at 1) (scalar_at 2) (scalar_at 3) (scalar_at 4)) → (a b c d e : F) → scalar K (a ∷ b ∷ c ∷ d ∷ e ∷ []) (same (scalar_at 0) (scalar_at 1) (scalar_at 2) (scalar_at 3) (scalar_at 4)).0 ≡ scalar K (a ∷ b ∷ c ∷ d ∷ e ∷ []) (same (scalar_at 0) (scalar_at 1) (scalar_at 2) (scalar_at 3) (scalar_at 4)).1
  ring5 same holds a b c d e = solve K N (a ∷ b ∷ c ∷ d ∷ e ∷ []) (same (scalar_at 0) (scalar_at 1) (scalar_at 2) (scalar_at 3) (scalar_at 4)).0 (same (scalar_at 0) (scalar_at 1) (scalar_at 2) (scalar_at 3) (scalar_at 4)).1 holds

  pub ring6 : (same : Scalar → Scalar → Scalar → Scalar → Scalar → Scalar → Sides) → IsSolved (same (scalar_at 0) (scalar_at 1) (scalar_at 2) (scalar_at 3) (scalar_at 4) (scalar_at 5)) → (a b c d e f : F) → scalar K (a ∷ b ∷ c ∷ d ∷ e ∷ f ∷ []) (same (scalar_at 0) (scalar_at 1) (scalar_at 2) (scalar_at 3) (scalar_at 4) (scalar_at 5)).0 ≡ scalar K (a ∷ b ∷ c ∷ d ∷ e ∷ f ∷ []) (same (scalar_at 0) (scalar_at 1) (scalar_at 2) (scalar_at 3) (scalar_at 4) (scalar_at 5)).1
  ring6 same holds a b c d e f = solve K N (a ∷ b ∷ c ∷ d ∷ e ∷ f ∷ []) (same (scalar_at 0) (scalar_at 1) (scalar_at 2) (scalar_at 3) (scalar_at 4) (scalar_at 5)).0 (same (scalar_at 0) (scalar_at 1) (scalar_at 2) (scalar_at 3) (scalar_at 4) (scalar_at 5)).1 holds

  pub ring7 : (same : Scalar → Scalar → Scalar → Scalar → Scalar → Scalar → Scalar → Sides) → IsSolved (same (scalar_at 0) (scalar_at 1) (scalar_at 2) (scalar_at 3) (scalar_at 4) (scalar_at 5) (scalar_at 6)) → (a b c d e f g : F) → scalar K (a ∷ b ∷ c ∷ d ∷ e ∷ f ∷ g ∷ []) (same (scalar_at 0) (scalar_at 1) (scalar_at 2) (scalar_at 3) (scalar_at 4) (scalar_at 5) (scalar_at 6)).0 ≡ scalar K (a ∷ b ∷ c ∷ d ∷ e ∷ f ∷ g ∷ []) (same (scalar_at 0) (scalar_at 1) (scalar_at 2) (scalar_at 3) (scalar_at 4) (scalar_at 5) (scalar_at 6)).1
  ring7 same holds a b c d e f g = solve K N (a ∷ b ∷ c ∷ d ∷ e ∷ f ∷ g ∷ []) (same (scalar_at 0) (scalar_at 1) (scalar_at 2) (scalar_at 3) (scalar_at 4) (scalar_at 5) (scalar_at 6)).0 (same (scalar_at 0) (scalar_at 1) (scalar_at 2) (scalar_at 3) (scalar_at 4) (scalar_at 5) (scalar_at 6)).1 holds

module _ {F M : Type 0} {K : FieldOn F} {V : ModuleOn F M} (N : IsField K) (L : IsModule K V) where
  pub module0_1 : (same : Vector → VectorSides) → IsVectorSolved (same (vector_at 0)) → (x : M) → vector K V [] (x ∷ []) (same (vector_at 0)).0 ≡ vector K V [] (x ∷ []) (same (vector_at 0)).1
  module0_1 same holds x = solve_vector N L [] (x ∷ []) (same (vector_at 0)).0 (same (vector_at 0)).1 holds

  pub module0_2 : (same : Vector → Vector → VectorSides) → IsVectorSolved (same (vector_at 0) (vector_at 1)) → (x y : M) → vector K V [] (x ∷ y ∷ []) (same (vector_at 0) (vector_at 1)).0 ≡ vector K V [] (x ∷ y ∷ []) (same (vector_at 0) (vector_at 1)).1
  module0_2 same holds x y = solve_vector N L [] (x ∷ y ∷ []) (same (vector_at 0) (vector_at 1)).0 (same (vector_at 0) (vector_at 1)).1 holds

  pub module0_3 : (same : Vector → Vector → Vector → VectorSides) → IsVectorSolved (same (vector_at 0) (vector_at 1) (vector_at 2)) → (x y z : M) → vector K V [] (x ∷ y ∷ z ∷ []) (same (vector_at 0) (vector_at 1) (vector_at 2)).0 ≡ vector K V [] (x ∷ y ∷ z ∷ []) (same (vector_at 0) (vector_at 1) (vector_at 2)).1
  module0_3 same holds x y z = solve_vector N L [] (x ∷ y ∷ z ∷ []) (same (vector_at 0) (vector_at 1) (vector_at 2)).0 (same (vector_at 0) (vector_at 1) (vector_at 2)).1 holds

  pub module0_4_by : (same : Vector → Vector → Vector → Vector → VectorStep) → IsVectorStep (same (vector_at 0) (vector_at 1) (vector_at 2) (vector_at 3)) → (x y z u : M) → vector K V [] (x ∷ y ∷ z ∷ u ∷ []) (same (vector_at 0) (vector_at 1) (vector_at 2) (vector_at 3)).2 ≡ vector K V [] (x ∷ y ∷ z ∷ u ∷ []) (same (vector_at 0) (vector_at 1) (vector_at 2) (vector_at 3)).3 → vector K V [] (x ∷ y ∷ z ∷ u ∷ []) (same (vector_at 0) (vector_at 1) (vector_at 2) (vector_at 3)).0 ≡ vector K V [] (x ∷ y ∷ z ∷ u ∷ []) (same (vector_at 0) (vector_at 1) (vector_at 2) (vector_at 3)).1
  module0_4_by same holds x y z u known = solve_vector_by N L [] (x ∷ y ∷ z ∷ u ∷ []) (same (vector_at 0) (vector_at 1) (vector_at 2) (vector_at 3)).0 (same (vector_at 0) (vector_at 1) (vector_at 2) (vector_at 3)).1 (same (vector_at 0) (vector_at 1) (vector_at 2) (vector_at 3)).2 (same (vector_at 0) (vector_at 1) (vector_at 2) (vector_at 3)).3 known holds

  pub module1_2 : (same : Scalar → Vector → Vector → VectorSides) → IsVectorSolved (same (scalar_at 0) (vector_at 0) (vector_at 1)) → (a : F) (x y : M) → vector K V (a ∷ []) (x ∷ y ∷ []) (same (scalar_at 0) (vector_at 0) (vector_at 1)).0 ≡ vector K V (a ∷ []) (x ∷ y ∷ []) (same (scalar_at 0) (vector_at 0) (vector_at 1)).1
  module1_2 same holds a x y = solve_vector N L (a ∷ []) (x ∷ y ∷ []) (same (scalar_at 0) (vector_at 0) (vector_at 1)).0 (same (scalar_at 0) (vector_at 0) (vector_at 1)).1 holds

  pub module2_1 : (same : Scalar → Scalar → Vector → VectorSides) → IsVectorSolved (same (scalar_at 0) (scalar_at 1) (vector_at 0)) → (a b : F) (x : M) → vector K V (a ∷ b ∷ []) (x ∷ []) (same (scalar_at 0) (scalar_at 1) (vector_at 0)).0 ≡ vector K V (a ∷ b ∷ []) (x ∷ []) (same (scalar_at 0) (scalar_at 1) (vector_at 0)).1
  module2_1 same holds a b x = solve_vector N L (a ∷ b ∷ []) (x ∷ []) (same (scalar_at 0) (scalar_at 1) (vector_at 0)).0 (same (scalar_at 0) (scalar_at 1) (vector_at 0)).1 holds

  pub module2_2 : (same : Scalar → Scalar → Vector → Vector → VectorSides) → IsVectorSolved (same (scalar_at 0) (scalar_at 1) (vector_at 0) (vector_at 1)) → (a b : F) (x y : M) → vector K V (a ∷ b ∷ []) (x ∷ y ∷ []) (same (scalar_at 0) (scalar_at 1) (vector_at 0) (vector_at 1)).0 ≡ vector K V (a ∷ b ∷ []) (x ∷ y ∷ []) (same (scalar_at 0) (scalar_at 1) (vector_at 0) (vector_at 1)).1
  module2_2 same holds a b x y = solve_vector N L (a ∷ b ∷ []) (x ∷ y ∷ []) (same (scalar_at 0) (scalar_at 1) (vector_at 0) (vector_at 1)).0 (same (scalar_at 0) (scalar_at 1) (vector_at 0) (vector_at 1)).1 holds

  pub module3_1 : (same : Scalar → Scalar → Scalar → Vector → VectorSides) → IsVectorSolved (same (scalar_at 0) (scalar_at 1) (scalar_at 2) (vector_at 0)) → (a b c : F) (x : M) → vector K V (a ∷ b ∷ c ∷ []) (x ∷ []) (same (scalar_at 0) (scalar_at 1) (scalar_at 2) (vector_at 0)).0 ≡ vector K V (a ∷ b ∷ c ∷ []) (x ∷ []) (same (scalar_at 0) (scalar_at 1) (scalar_at 2) (vector_at 0)).1
  module3_1 same holds a b c x = solve_vector N L (a ∷ b ∷ c ∷ []) (x ∷ []) (same (scalar_at 0) (scalar_at 1) (scalar_at 2) (vector_at 0)).0 (same (scalar_at 0) (scalar_at 1) (scalar_at 2) (vector_at 0)).1 holds
