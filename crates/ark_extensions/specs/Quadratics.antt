-- Quadratic extensions of a field, F[x] / (x * x - w), by pairs: (a, b) is a + b x.
use Rattle.std.specs.Prelude.{◌≡◌, ◌≢◌}
use Rattle.ark_math.specs.Field.{FieldOn, minus}

-- no element's square is w
abbrev pub IsNonResidue : {F : Type 0} → FieldOn F → F → Type 0
IsNonResidue {F = F} K w = (x : F) → K.times x x ≢ w

-- sums by coefficients, and products where x * x is w
abbrev pub quadratic : {F : Type 0} → FieldOn F → F → FieldOn (F × F)
quadratic K w = record {
  zero = (K.zero, K.zero);
  one = (K.one, K.zero);
  plus = λ a b. (K.plus a.0 b.0, K.plus a.1 b.1);
  times = λ a b. (K.plus (K.times a.0 b.0) (K.times w (K.times a.1 b.1)), K.plus (K.times a.0 b.1) (K.times a.1 b.0));
  negated = λ a. (K.negated a.0, K.negated a.1);
}

-- (a + b x) (a - b x)
abbrev pub norm : {F : Type 0} → FieldOn F → F → F × F → F
norm K w a = minus K (K.times a.0 a.0) (K.times w (K.times a.1 a.1))
