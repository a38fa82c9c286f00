use Rattle.std.proofs.Common.{Some, option_map, ap, sym, ◌∙◌}
use Rattle.ark_extensions.specs.Elements.{element, embedded}
use Rattle.ark_extensions.proofs.quadratic.roots.QuadraticFftField.LARGE_SUBGROUP_ROOT_OF_UNITY.Goals as goal

pub returns-in-Some : goal.returns-in-Some
returns-in-Some g c =
    let zero = c.ZERO.ensures ∙ g.met.F.ConstantZero.zero_constant in
    ap Some (ap element (c.new.ensures ∙ ap (λ b. (c.in-Some.value, b)) zero))
    ∙ ap (option_map (embedded {M = g.row.M.Denot} g.F.Field.field)) (sym c.in-Some.is ∙ c.LARGE_SUBGROUP_ROOT_OF_UNITY.ensures)
