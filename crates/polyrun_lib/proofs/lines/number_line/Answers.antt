use Rattle.std.proofs.Common.{◌≡◌, ◌++◌, ◌∷◌, [], IfOk, string_bytes, ap, ◌∙◌, rules, arith}
use Rattle.std.specs.Prelude.{decimal}
use Rattle.std.proofs.lemmas.Result.{IfOk-weaker}
use Rattle.ark_base.proofs.Numerals.{decimal_is_text}
use Rattle.polyrun_lib.specs.Lines.{ended}
use Rattle.polyrun_lib.proofs.lines.number_line.Goals as goal

pub returns : goal.returns
returns c =
    let n = c.args.number in
    let plain : IfOk c.format.result (λ text. string_bytes text ≡ decimal n ++ 10 ∷ []) = search rules in
    IfOk-weaker c.format.result (λ text. string_bytes text ≡ decimal n ++ 10 ∷ []) _ (λ text e. e ∙ ap ended (decimal_is_text n (omega arith))) plain
