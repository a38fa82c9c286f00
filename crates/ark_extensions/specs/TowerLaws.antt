-- Two extensions, by x with x * x = w and by y with y * y = x, are one of degree four: y to the 4 is w.
use Rattle.std.proofs.Common.{◌≡◌, ap, ap₂, ◌∙◌, sym}
use Rattle.ark_math.specs.Field.{FieldOn, IsField, power}
use Rattle.ark_math.proofs.Algebra.Powers.{power-double}
use Rattle.ark_extensions.specs.Quadratics.{IsNonResidue}
use Rattle.ark_extensions.specs.Elements.{embedded, extension, root}
use Rattle.ark_extensions.specs.ElementLaws.{extension_laws, root_no_square, embedded_times, square_of_root}
use Rattle.ark_extensions.specs.declared.quadratic.Quadratic.{Quadratic}

module _ {F M : Type 0} (K : FieldOn F) (L : IsField K) (w : F) (none : IsNonResidue K w) where
  abbrev E : FieldOn (Quadratic F M)
  E = extension K w

  step_laws : IsField E
  step_laws = extension_laws K L w none

  module _ {N : Type 0} (i : F) (minus_one : K.times i i ≡ K.negated K.one) where
    abbrev T : FieldOn (Quadratic (Quadratic F M) N)
    T = extension E (root K)

    tower_laws : IsField T
    tower_laws = extension_laws E step_laws (root K) (root_no_square K L w none i minus_one)

    square : power T (root E) 2 ≡ embedded E (root K)
    square = ap (T.times (root E)) (tower_laws.times_one (root E)) ∙ square_of_root E step_laws (root K)

    pub fourth_power_of_root : power T (root E) 4 ≡ embedded E (embedded K w)
    fourth_power_of_root =
        power-double T tower_laws (root E) 2 ∙ ap₂ T.times square square
        ∙ sym (embedded_times E step_laws (root K) (root K) (root K))
        ∙ ap (embedded E) (square_of_root K L w)
