use Rattle.std.proofs.Common.{◌≡◌, ◌∙◌, ◌++◌, sym, ap, ap₂}
use Rattle.ark_math_variables.specs.Multilinear.{extension}
use Rattle.ark_math_variables.proofs.Polynomials.Multilinear.{extension-append}
use Rattle.ark_poly.proofs.laws.multivariate.values_with_bound_variables.Goals as goal

pub returns-clause-bound : goal.returns-clause-bound
returns-clause-bound g c =
    let K = g.F.Field.field in
    let E = g.met.E.MultilinearExtension in
    let rest = c.in_ok-rest.rest in
    let others = c.args.others.now in
    E.evaluate_is rest others c.in_ok-evaluate-2.field-0 c.in_ok-evaluate-2.ensures.value
    ∙ ap (λ t. extension K t others.items) c.in_ok-rest.ensures.values

pub returns-clause-same : goal.returns-clause-same
returns-clause-same g c =
    let K = g.F.Field.field in
    let E = g.met.E.MultilinearExtension in
    let table = g.E.MultilinearExtension.table in
    let p = c.args.poly.now in
    let first = c.args.first.now in
    let others = c.args.others.now in
    let whole = c.extend_from_slice.new.self in
    let joined : whole.items ≡ first ++ others.items =
    c.in_ok-extend_from_slice.ensures.items ∙ ap₂ (λ xs ys. xs ++ ys) c.in_ok-whole.ensures.items c.deref.ensures.value in
    returns-clause-bound g c
    ∙ sym (extension-append K g.met.F.Field.field_laws (table p).value first others.items)
    ∙ ap (extension K (table p).value) (sym joined)
    ∙ sym (E.evaluate_is p whole c.in_ok-evaluate.field-0 c.in_ok-evaluate.ensures.value)
