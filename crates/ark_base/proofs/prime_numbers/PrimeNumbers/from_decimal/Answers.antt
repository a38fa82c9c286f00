use Rattle.std.proofs.Common.{rules, tests}
use Rattle.ark_base.proofs.Numerals.{read_decimal}
use Rattle.ark_base.proofs.prime_numbers.PrimeNumbers.from_decimal.Goals as goal

pub returns-clause-some : goal.returns-clause-some
returns-clause-some g c =
    let F = g.Self.PrimeNumbers in
    read_decimal F.numbering F.prime g.Self.Field.field g.met.Self.PrimeNumbers.field_law c.args.text.now c.as_bytes.result.now _ c.as_bytes.ensures.value
    (search (rules, tests)) c.element_of_digits.ensures.some
