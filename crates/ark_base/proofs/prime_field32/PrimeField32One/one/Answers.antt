use Rattle.std.proofs.Common.{◌∙◌, sym, mod-eq_of_lt}
use Rattle.ark_base.specs.ResiduesLaws.{number_of_one}
use Rattle.ark_base.specs.Element32.{numbering, same_by_number}
use Rattle.ark_base.proofs.prime_field32.PrimeField32One.one.Goals as goal

pub returns : goal.returns
returns g c =
    let m = g.M.PrimeModulus32 in
    let S = m.modulus in
    same_by_number {g = m} S _ _ (c.reduce.ensures ∙ mod-eq_of_lt S.numbers.prime.above_one ∙ sym (number_of_one (numbering {g = m} S) S.numbers.prime))
