use Rattle.shards_format.proofs.PutRows.{RowsPut}
use Rattle.shards_format.proofs.block_parts.put_rows.Given as goal

abbrev pub invariant-loop-a : goal.invariant-loop-a
invariant-loop-a l = RowsPut l.k l.placed.stripes l.placed.places.now l.placed.numbers.now l.fn.bytes l.bytes l.a
