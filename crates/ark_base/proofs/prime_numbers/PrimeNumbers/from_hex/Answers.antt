use Rattle.std.proofs.Common.{◌++◌, codes, sym, ap, ◌∙◌, rules, tests}
use Rattle.ark_base.proofs.Numerals.{read_hexadecimal}
use Rattle.ark_base.proofs.prime_numbers.PrimeNumbers.from_hex.Goals as goal

pub returns-clause-some : goal.returns-clause-some
returns-clause-some g c =
    let F = g.Self.PrimeNumbers in
    let found = c.in_ok-digits.ensures.cases in
    let rest = c.in_ok-digits.digits.now in
    read_hexadecimal F.numbering F.prime g.Self.Field.field g.met.Self.PrimeNumbers.field_law c.args.text.now rest c.as_bytes.result.now _
    (found.1.1 ∙ ap (λ l. codes "0x" ++ l) (sym found.2)) c.as_bytes.ensures.value (search (rules, tests)) c.element_of_digits.ensures.some
