use Rattle.std.proofs.Common.{ℕ, List, subst}
use Rattle.polyrun_lib.specs.Written.{writer, IsWritten}
use Rattle.polyrun_lib.proofs.args.run_arguments.Goals as goal

pub returns-in-Ok-clause-words : goal.returns-in-Ok-clause-words
returns-in-Ok-clause-words g c = rw (c.in-Ok.is, ← c.deref.ensures.value) c.run.ensures.written

pub returns-in-Err-clause-memory : goal.returns-in-Err-clause-memory
returns-in-Err-clause-memory g c =
    let Goal : List ℕ → Type 0 = λ text. IsWritten (writer g.W.Sink c.args.out.now) (writer g.W.Sink c.write.new.out) text 1 c.write.result in
    rw c.in-Err.is (λ told. subst Goal c.refusal_line.ensures c.write.ensures)
