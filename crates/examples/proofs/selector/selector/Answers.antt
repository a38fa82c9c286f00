use Rattle.std.proofs.Common.{◌≡◌, [], ◌∷◌, ◌++◌, ap, ◌∙◌}
use Rattle.std.proofs.lemmas.Result.{IfOk-weaker}
use Rattle.ark_math_variables.specs.Multilinear.{extension, weight, written}
use Rattle.ark_math.proofs.Algebra.Groups.{one_times}
use Rattle.ark_math_variables.proofs.Polynomials.Tables.{extension-entry}
use Rattle.examples.proofs.selector.selector.Goals as goal

pub returns-clause-value : goal.returns-clause-value
returns-clause-value g c =
    let K = g.F.Field.field in
    let N = g.met.F.Field.field_laws in
    let x = c.args.point.now.items in
    let i = c.args.index in
    let one : c.one.result ≡ K.one = c.one.ensures ∙ g.met.F.Field.one_law in
    IfOk-weaker c.evaluate.result _ _
    (λ y h. h
    ∙ ap (λ t. extension K t x) (c.in_ok-table.ensures.values ∙ ap (written K.zero) (c.deref.ensures.value ∙ c.in_ok-push.ensures.items ∙ ap (λ v. v ++ (i, c.one.result) ∷ []) c.new-entries.ensures.items))
    ∙ extension-entry K N i c.one.result x c.requires.within
    ∙ ap (λ v. K.times v (weight K x i)) one
    ∙ one_times K N (weight K x i))
    c.evaluate.ensures.value
