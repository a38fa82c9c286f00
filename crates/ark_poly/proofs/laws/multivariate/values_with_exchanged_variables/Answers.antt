use Rattle.std.proofs.Common.{◌∙◌, ap, length}
use Rattle.ark_math.proofs.Lists.Tabulated.{length-tabulate}
use Rattle.ark_poly.proofs.laws.multivariate.values_with_exchanged_variables.Goals as goal

pub evaluate-requires : goal.evaluate-requires
evaluate-requires g c =
    (g.met.E.MultilinearExtension.fits_law _ c.in_ok-turned.turned).1
    (ap length c.in_ok-turned.ensures.exchanged ∙ length-tabulate _ _ ∙ ap length c.deref.ensures.value ∙ c.requires.fits)
