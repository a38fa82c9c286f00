use Rattle.std.proofs.Common.{ap, ◌∙◌}
use Rattle.ark_base.specs.Element32.{numbering, number}
use Rattle.ark_base.specs.ResiduesLaws.{number_of_residue}
use Rattle.ark_base.proofs.Element32.{word_of_number}
use Rattle.ark_base.proofs.prime_field32.PrimeField32.from_value.Goals as goal

pub returns-clause-some : goal.returns-clause-some
returns-clause-some g c =
    let m = g.M.PrimeModulus32 in
    ap (number {g = m}) c.mul.ensures
    ∙ number_of_residue (numbering {g = m} m.modulus) m.modulus.numbers.prime _
    ∙ word_of_number {g = m} m.modulus _ _ c.reduce.ensures
