use Rattle.std.proofs.Common.{ap, List, ◌++◌, ◌∙◌}
use Rattle.shards_buffers.proofs.LastBytes.{both_parts}
use Rattle.shards_buffers.proofs.ends.first_header.Goals as goal

pub returns-in-Ok-clause-header : goal.returns-in-Ok-clause-header
returns-in-Ok-clause-header c =
    let behind = c.split_at.result.1.now in
    (behind, both_parts 24 c.args.pieces.now c.split_at.result.0.now behind c.split_at.ensures.front c.split_at.ensures.back ∙ ap (λ (xs : List _). xs ++ behind) c.in-Ok.ensures.header)
