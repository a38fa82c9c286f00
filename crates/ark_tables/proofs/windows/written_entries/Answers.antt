use Rattle.ark_tables.proofs.HeldTables.{held-written}
use Rattle.ark_tables.proofs.windows.written_entries.Goals as goal

pub loop-i-preserved : goal.loop-i-preserved
loop-i-preserved g c =
    held-written g.F.Field.field g.met.F.Field.field_laws c.loop-i.table c.insert.new.self c.args.pairs.now c.loop-i.i c.index-pairs-i.result c.loop-i-test.true c.index-pairs-i.is c.loop-i.invariant c.in_ok-insert.ensures.updates
