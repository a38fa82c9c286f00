use Rattle.std.proofs.Common.{Err, length, sym, ap, subst, ◌∙◌}
use Rattle.std.proofs.lemmas.Result.{err_from_is_err_and}
use Rattle.ark_math.specs.Univariate.{of_list}
use Rattle.ark_math_points.specs.AtPoints.{HasRepeated, IsThrough, x_of}
use Rattle.ark_points.proofs.AtMultiples.{repeated_moved, through_moved}
use Rattle.ark_points.proofs.interpolation.through_many.Goals as goal

pub returns-in_err-through-clause-repeated : goal.returns-in_err-through-clause-repeated
returns-in_err-through-clause-repeated g c = λ e.
    let K = g.F.Field.field in
    let p = err_from_is_err_and c.from_residual-in_err-through.result c.from_residual-in_err-through.ensures.1 in
    repeated_moved K g.met.F.Field.field_laws c.factor_for-factor.result c.args.points.now c.in_ok-moved.moved.items c.factor_for-factor.ensures
    c.in_ok-moved.ensures
    (subst (λ v. HasRepeated (length v) (x_of K v)) c.deref.ensures.value (c.in_err-through.ensures.repeated (ap Err (sym p.2) ∙ sym p.1 ∙ e)))

pub returns-clause-through : goal.returns-clause-through
returns-clause-through g c =
    let K = g.F.Field.field in
    let through = of_list K c.in_ok-through.through in
    subst (IsThrough K c.args.points.now) (sym c.in_ok-with_powers.ensures)
    (through_moved K g.met.F.Field.field_laws c.factor_for-factor.result c.args.points.now c.in_ok-moved.moved.items through c.in_ok-moved.ensures
    (subst (λ v. IsThrough K v through) c.deref.ensures.value c.in_ok-through.ensures.through))
