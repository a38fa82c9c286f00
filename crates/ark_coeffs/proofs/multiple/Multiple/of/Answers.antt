use Rattle.std.proofs.Common.{refl, sym, ap, ◌∙◌}
use Rattle.ark_math.proofs.Algebra.Solve.{unit, negative, ◌⊗◌}
use Rattle.ark_math.proofs.Algebra.Ring.{ring1}
use Rattle.ark_coeffs.specs.Multiples.{factor_of}
use Rattle.ark_coeffs.proofs.multiple.Multiple.of.Goals as goal

pub returns-in-Opposite : goal.returns-in-Opposite
returns-in-Opposite g c =
    let K = g.F.Field.field in
    g.met.F.Field.neg_law _ _ c.neg.ensures
    ∙ ring1 K g.met.F.Field.field_laws (λ x. (negative x, negative unit ⊗ x)) refl c.args.value
    ∙ ap (λ m. K.times (factor_of K m) c.args.value) (sym c.in-Opposite.is)
