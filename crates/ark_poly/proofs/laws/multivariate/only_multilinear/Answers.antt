use Rattle.std.proofs.Common.{◌∙◌, sym, subst}
use Rattle.std.proofs.lemmas.Result.{IfOk-weaker}
use Rattle.ark_math_variables.specs.Multivariate.{IsValueAt, of_terms}
use Rattle.ark_math.proofs.Outcomes.Tests.{decided}
use Rattle.ark_math_variables.proofs.Polynomials.OnlyMultilinear.{only_multilinear}
use Rattle.ark_poly.proofs.MultilinearTerms.{multilinear_terms, terms_at_corner, terms_multilinear, terms_value_at}
use Rattle.ark_poly.proofs.SameMultilinear.{same_multilinear}
use Rattle.ark_poly.proofs.laws.multivariate.only_multilinear.Goals as goal

pub returns-clause-only : goal.returns-clause-only
returns-clause-only g c =
    let K = g.F.Field.field in
    let N = g.met.F.Field.field_laws in
    let E = g.met.E.MultilinearExtension in
    let p = c.args.poly.now in
    let x = c.args.point.now in
    let t = g.E.MultilinearExtension.table p in
    IfOk-weaker c.evaluate.result _ _
    (λ y h a interpolates z at.
    only_multilinear K N (λ s. decided (g.F.PartialEq.eq s K.zero) (g.met.F.Field.equality_law s K.zero)) t.variables a t.value x.items z
    interpolates.multilinear interpolates.corners (c.requires ∙ E.variables_law p) at
    ∙ sym (E.evaluate_is p x y h))
    c.evaluate.ensures.value

pub returns-clause-exists : goal.returns-clause-exists
returns-clause-exists g c =
    let K = g.F.Field.field in
    let N = g.met.F.Field.field_laws in
    let E = g.met.E.MultilinearExtension in
    let p = c.args.poly.now in
    let x = c.args.point.now in
    let t = g.E.MultilinearExtension.table p in
    IfOk-weaker c.evaluate.result _ _
    (λ y h. (
      of_terms K (multilinear_terms K t.variables t.value),
      record { multilinear = terms_multilinear K N t.variables t.value; corners = terms_at_corner K N t.variables t.value },
      subst (IsValueAt K (of_terms K (multilinear_terms K t.variables t.value)) x.items) (sym (E.evaluate_is p x y h))
          (terms_value_at K N t.variables t.value x.items (c.requires ∙ E.variables_law p)),
    ))
    c.evaluate.ensures.value

pub returns-clause-one : goal.returns-clause-one
returns-clause-one g c =
    let K = g.F.Field.field in
    let t = g.E.MultilinearExtension.table c.args.poly.now in
    λ a b f h.
    same_multilinear K g.met.F.Field.field_laws (λ s. decided (g.F.PartialEq.eq s K.zero) (g.met.F.Field.equality_law s K.zero)) t.variables t.value a b
    f.multilinear h.multilinear f.corners h.corners
