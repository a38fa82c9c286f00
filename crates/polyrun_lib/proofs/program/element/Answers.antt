use Rattle.std.proofs.Common.{◌%◌, ap, ◌∙◌}
use Rattle.polyrun_lib.proofs.Reading.{IsDecimal-same, some_element}
use Rattle.polyrun_lib.proofs.program.element.Goals as goal

pub unwrap-requires : goal.unwrap-requires
unwrap-requires g c = some_element c.from_decimal.result c.args.word.now c.from_decimal.ensures.none c.requires

pub returns : goal.returns
returns g c n spelled =
    let found = rw c.unwrap.ensures at c.from_decimal.ensures.some in
    found.2 ∙ ap (λ m. m % g.F.PrimeNumbers.modulus) (IsDecimal-same c.args.word.now found.0 n found.1 spelled)
