-- The elements of a quadratic extension, as contracts see them, and its operations on them.
use Rattle.ark_math.specs.Field.{FieldOn}
use Rattle.ark_math.specs.Module.{ModuleOn, itself, paired}
use Rattle.ark_extensions.specs.Quadratics.{quadratic}
use Rattle.ark_extensions.specs.declared.quadratic.Quadratic.{Quadratic}

-- the coefficients of 1 and x
abbrev pub coefficients : {F M : Type 0} → Quadratic F M → F × F
coefficients a = (a.c0, a.c1)

-- the element with these coefficients
abbrev pub element : {F M : Type 0} → F × F → Quadratic F M
element p = record { c0 = p.0; c1 = p.1; marker = record {} }

-- an element of the field below
abbrev pub embedded : {F M : Type 0} → FieldOn F → F → Quadratic F M
embedded K a = element (a, K.zero)

-- x, whose square is w
abbrev pub root : {F M : Type 0} → FieldOn F → Quadratic F M
root K = element (K.zero, K.one)

-- the operations of F[x] / (x * x - w)
abbrev pub extension : {F M : Type 0} → FieldOn F → F → FieldOn (Quadratic F M)
extension K w = record {
  zero = element (quadratic K w).zero;
  one = element (quadratic K w).one;
  plus = λ a b. element ((quadratic K w).plus (coefficients a) (coefficients b));
  times = λ a b. element ((quadratic K w).times (coefficients a) (coefficients b));
  negated = λ a. element ((quadratic K w).negated (coefficients a));
}

-- an element of the field two below
abbrev pub embedded_twice : {F M N : Type 0} → FieldOn F → F → F → Quadratic (Quadratic F M) N
embedded_twice K w a = embedded (extension K w) (embedded K a)

-- ---- as a module over the field below, of pairs

abbrev pub in_pairs : {F : Type 0} → FieldOn F → ModuleOn F (F × F)
in_pairs K = paired (itself K) (itself K)

abbrev pub multiple : {F M : Type 0} → FieldOn F → F → Quadratic F M → Quadratic F M
multiple K s a = element (K.times s a.c0, K.times s a.c1)

-- ---- two steps up, of pairs of pairs

abbrev pub four_coefficients : {F M N : Type 0} → Quadratic (Quadratic F M) N → (F × F) × (F × F)
four_coefficients a = (coefficients a.c0, coefficients a.c1)

abbrev pub in_fours : {F : Type 0} → FieldOn F → ModuleOn F ((F × F) × (F × F))
in_fours K = paired (in_pairs K) (in_pairs K)
