use Rattle.std.proofs.Common.{◌%◌, ap, ◌∙◌}
use Rattle.ark_base.proofs.Element32.{element_is}
use Rattle.ark_base.proofs.prime_field32.PrimeField32FftField.GENERATOR.Goals as goal

pub returns : goal.returns
returns g c =
    let m = g.M.PrimeModulus32 in
    element_is {g = m} m.modulus _ m.GENERATOR _ (c.reduce.ensures ∙ ap (λ v. v % m.MODULUS) c.GENERATOR.ensures)
