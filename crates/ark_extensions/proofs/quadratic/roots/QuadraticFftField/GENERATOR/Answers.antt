use Rattle.std.proofs.Common.{ap, ap₂, ◌∙◌}
use Rattle.ark_extensions.specs.Elements.{element}
use Rattle.ark_extensions.proofs.quadratic.roots.QuadraticFftField.GENERATOR.Goals as goal

pub returns : goal.returns
returns g c =
    ap element (c.new.ensures ∙ ap₂ (λ a b. (a, b)) c.GENERATOR.ensures (c.ZERO.ensures ∙ g.met.F.ConstantZero.zero_constant))
