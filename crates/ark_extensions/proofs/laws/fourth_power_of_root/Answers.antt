use Rattle.ark_extensions.specs.TowerLaws.{fourth_power_of_root}
use Rattle.ark_extensions.proofs.laws.fourth_power_of_root.Goals as goal

pub returns : goal.returns
returns g c =
    let m = g.met.M.QuarticModulus.minus_one in
    fourth_power_of_root g.F.Field.field g.met.F.Field.field_laws g.M.QuadraticModulus.non_residue g.met.M.QuadraticModulus.no_square m.0 m.1
