use Rattle.std.proofs.Common.{map, sym, subst}
use Rattle.std.specs.Prelude.{string_bytes}
use Rattle.polyrun_lib.specs.Answer.{MayAnswer}
use Rattle.polyrun_lib.specs.Outcome.{IsOutcome}
use Rattle.polyrun_lib.proofs.Commands.{may_answer_error, may_answer_usage}
use Rattle.polyrun_lib.proofs.program.run_command.Goals as goal

pub returns-in-Some-Err : goal.returns-in-Some-Err
returns-in-Some-Err g c =
    let words = map string_bytes c.args.words.now in
    let of = c.in-Some-Err.ensures.some in (
      c.refusal_line.result.now,
      1,
      subst (λ text. MayAnswer words text 1) (sym c.refusal_line.ensures) (may_answer_error words of.0 of.1 c.in-Some-Err.error of.2 (subst (IsOutcome of.0 of.1) c.in-Some-Err.field-0-is of.3)),
      c.write-in-Some-Err.ensures,
    )

pub returns-in-None : goal.returns-in-None
returns-in-None g c =
    let words = map string_bytes c.args.words.now in (
      c.usage_line.result.now,
      2,
      subst (λ text. MayAnswer words text 2) (sym c.usage_line.ensures) (may_answer_usage words c.in-None.ensures.none),
      c.write-in-None.ensures,
    )
