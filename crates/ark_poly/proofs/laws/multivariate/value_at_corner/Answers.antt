use Rattle.std.proofs.Common.{◌<◌, ◌^◌, ◌∙◌, sym, subst, ap, length}
use Rattle.std.proofs.lemmas.Result.{IfOk-weaker}
use Rattle.ark_math_variables.specs.Multilinear.{extension}
use Rattle.ark_math_variables.proofs.Polynomials.Multilinear.{extension-corner}
use Rattle.ark_math_variables.proofs.Polynomials.OnlyMultilinear.{length-corner}
use Rattle.ark_poly.proofs.laws.multivariate.value_at_corner.Goals as goal

pub evaluate-requires : goal.evaluate-requires
evaluate-requires g c =
    let K = g.F.Field.field in
    (g.met.E.MultilinearExtension.fits_law _ c.in_ok-point.point).1
    (ap length c.in_ok-point.ensures.corner ∙ length-corner K g.met.F.Field.field_laws _ _ ∙ c.num_vars.ensures)

pub returns-clause-value : goal.returns-clause-value
returns-clause-value g c =
    let K = g.F.Field.field in
    let N = g.met.F.Field.field_laws in
    let E = g.met.E.MultilinearExtension in
    let p = c.args.poly.now in
    let t = g.E.MultilinearExtension.table p in
    let b = c.args.index in
    let n = c.num_vars.result in
    let x = c.in_ok-point.point in
    let below : b < 2 ^ n = subst (λ m. b < 2 ^ m) (sym c.num_vars.ensures) c.requires in
    IfOk-weaker c.evaluate.result _ _
    (λ y h. E.evaluate_is p x y h
    ∙ ap (extension K t.value) c.in_ok-point.ensures.corner
    ∙ extension-corner K N t.value n b below)
    c.evaluate.ensures.value
