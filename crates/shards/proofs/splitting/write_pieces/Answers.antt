use Rattle.std.proofs.Common.{length, ap, ◌∙◌}
use Rattle.shards_format.proofs.PlaceLists.{range_length}
use Rattle.shards.proofs.splitting.write_pieces.Goals as goal

pub write_unfinished-requires-clause-writers : goal.write_unfinished-requires-clause-writers
write_unfinished-requires-clause-writers g c =
    c.in_ok-writers.ensures.len ∙ ap length c.deref.ensures.value
    ∙ range_length 0 c.n-n.result c.in_ok-numbers.numbers.items c.in_ok-numbers.ensures ∙ c.n-n.ensures.n
