use Rattle.std.proofs.Common.{◌≡◌, ◌++◌, IfOk, codes, false, string_bytes, rules, ◌∙◌, arith}
use Rattle.std.specs.Fmt.{digits}
use Rattle.std.proofs.lemmas.Result.{IfOk-weaker}
use Rattle.ark_base.proofs.Numerals.{hexadecimal_is_text}
use Rattle.ark_base.proofs.prime_numbers.hexadecimal.Goals as goal

pub returns : goal.returns
returns c =
    let plain : IfOk c.format.result (λ text. string_bytes text ≡ codes "0x" ++ digits 16 false c.args.number) = search rules in
    IfOk-weaker c.format.result (λ text. string_bytes text ≡ codes "0x" ++ digits 16 false c.args.number) _ (λ text e. e ∙ hexadecimal_is_text c.args.number (omega arith)) plain
