use Rattle.std.proofs.Common.{◌∙◌, ◌++◌, [], ◌∷◌, sym, ap₂}
use Rattle.ark_math.specs.Module.{itself, item}
use Rattle.ark_math_variables.specs.Multilinear.{place}
use Rattle.ark_math.proofs.Lists.Tabulated.{tabulate-push}
use Rattle.ark_poly.proofs.laws.multivariate.exchanged_point.Goals as goal

pub loop-variable-preserved : goal.loop-variable-preserved
loop-variable-preserved g c =
    c.in_ok-push.ensures.items
    ∙ ap₂ (λ xs x. xs ++ x ∷ []) c.loop-variable.invariant c.exchanged_item.ensures
    ∙ sym (tabulate-push c.loop-variable.variable (λ i. item (itself g.F.Field.field) c.args.point.now (place c.args.by.first c.args.by.second c.args.by.count i)))
