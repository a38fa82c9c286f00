use Rattle.std.proofs.Common.{inl, inr}
use Rattle.polyrun_lib.proofs.program.run.Goals as goal

pub returns-in-Some-clause-written : goal.returns-in-Some-clause-written
returns-in-Some-clause-written g c =
    let done = c.check_rows.ensures in
    (done.0, done.1, inl (_, _, c.in-Some.ensures.some, done.2), done.3)

pub returns-in-None-clause-written : goal.returns-in-None-clause-written
returns-in-None-clause-written g c =
    let done = c.run_command.ensures in
    (done.0, done.1, inr (c.in-None.ensures.none, done.2), done.3)
