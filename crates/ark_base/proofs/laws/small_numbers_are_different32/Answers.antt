use Rattle.ark_base.specs.Element32.{numbering}
use Rattle.ark_base.specs.ResiduesLaws.{numbers_differ}
use Rattle.ark_base.proofs.laws.small_numbers_are_different32.Goals as goal

pub returns : goal.returns
returns g c =
    let S = g.M.PrimeModulus32.modulus in
    numbers_differ (numbering {M = g.row.M.Denot} {g = g.M.PrimeModulus32} S) S.numbers.prime
