use Rattle.std.proofs.Common.{◌∙◌, ◌++◌, [], ◌∷◌, sym, ap₂, if◌then◌else◌}
use Rattle.ark_math_variables.specs.Multilinear.{bit}
use Rattle.ark_math.proofs.Lists.Tabulated.{tabulate-push}
use Rattle.ark_poly.proofs.laws.multivariate.corner_point.Goals as goal

pub loop-variable-preserved : goal.loop-variable-preserved
loop-variable-preserved g c =
    let K = g.F.Field.field in
    c.in_ok-push.ensures.items
    ∙ ap₂ (λ xs x. xs ++ x ∷ []) c.loop-variable.invariant c.bit_of.ensures
    ∙ sym (tabulate-push c.loop-variable.variable (λ i. if bit c.args.index i then K.one else K.zero))
