use Rattle.std.proofs.Common.{Some, option_map, ap, sym, ◌∙◌}
use Rattle.ark_base.specs.Residues.{residue_of}
use Rattle.ark_base.specs.Element32.{numbering}
use Rattle.ark_base.proofs.Element32.{residue_is}
use Rattle.ark_base.proofs.prime_field32.PrimeField32FftField.LARGE_SUBGROUP_ROOT_OF_UNITY.Goals as goal

pub returns-in-Some : goal.returns-in-Some
returns-in-Some g c =
    let m = g.M.PrimeModulus32 in
    let S = m.modulus in
    ap Some (residue_is {g = m} S _ _ c.reduce.ensures)
    ∙ ap (option_map (residue_of (numbering {g = m} S) S.numbers.prime)) (sym c.in-Some.is ∙ c.LARGE_SUBGROUP_ROOT_OF_UNITY.ensures)
