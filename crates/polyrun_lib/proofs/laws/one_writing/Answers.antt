use Rattle.ark_numbers.proofs.Values.{number_field}
use Rattle.polyrun_lib.proofs.OneWriting.{one_writing}
use Rattle.polyrun_lib.proofs.laws.one_writing.Goals as goal

pub returns : goal.returns
returns g c =
    let F = g.F.PrimeNumbers in
    let laws = g.met.F.PrimeNumbers in
    one_writing (number_field F.numbering F.prime laws.field_law laws.generator_law laws.root_law g.met.F.FftField.roots_law)
