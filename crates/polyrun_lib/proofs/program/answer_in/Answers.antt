use Rattle.std.proofs.Common.{refl}
use Rattle.polyrun_lib.proofs.Commands.{no_field}
use Rattle.polyrun_lib.proofs.program.answer_in.Goals as goal

pub returns-in_err-command-clause-none : goal.returns-in_err-command-clause-none
returns-in_err-command-clause-none c =
    rw c.from_residual.ensures (no_field _ _ _ refl c.in_err-command.ensures.none)
