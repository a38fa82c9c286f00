use Rattle.std.proofs.Common.{rules, tests}
use Rattle.polyrun_lib.proofs.Checking.{verdict-text, verdict-error, verdict-usage}
use Rattle.polyrun_lib.proofs.rows.is_good.Goals as goal

pub returns-in-Some-Ok : goal.returns-in-Some-Ok
returns-in-Some-Ok c =
    verdict-text c.args.field.now _ _ c.as_str.result.now c.in-Some-Ok.field-0 c.in-Some-Ok.answer c.is_vectors.result c.is_line_of.result c.is_vectors.ensures c.if-is_vectors.false
    c.in-Some-Ok.ensures.some c.in-Some-Ok.field-0-is c.as_str.ensures.value c.is_line_of.ensures

pub returns-else-eq : goal.returns-else-eq
returns-else-eq c =
    verdict-error c.args.field.now _ _ c.refusal_line.result.now c.in-Some-Err.field-0 c.in-Some-Err.error c.is_vectors.result c.is_line_of-in-Some-Err.result c.is_vectors.ensures c.if-is_vectors.false
    c.in-Some-Err.ensures.some c.in-Some-Err.field-0-is (λ e. search (rules, tests)) c.refusal_line.ensures c.is_line_of-in-Some-Err.ensures

pub returns-in-None : goal.returns-in-None
returns-in-None c =
    verdict-usage c.args.field.now _ _ c.usage_line.result.now c.is_vectors.result c.is_line_of-in-None.result c.is_vectors.ensures c.if-is_vectors.false
    c.in-None.ensures.none c.usage_line.ensures c.is_line_of-in-None.ensures
