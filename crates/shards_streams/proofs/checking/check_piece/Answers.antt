use Rattle.std.proofs.Common.{rules}
use Rattle.shards_streams.specs.Checking.{LacksHeader}
use Rattle.shards_streams.specs.Readers.{reader_state}
use Rattle.shards_streams.proofs.Results.{of_err}
use Rattle.shards_streams.proofs.Wholes.{lacks_head}
use Rattle.shards_streams.proofs.checking.check_piece.Goals as goal

pub returns-in_err-header-clause-unread : goal.returns-in_err-header-clause-unread
returns-in_err-header-clause-unread g c = λ same.
    let a = reader_state g.R.Source c.args.reader.now in
    let b = reader_state g.R.Source c.take_header.new.reader in
    lacks_head c.args.size a b (c.take_header.ensures.unread (search rules))

pub returns-in-Err-clause-damage : goal.returns-in-Err-clause-damage
returns-in-Err-clause-damage g c =
    let a = reader_state g.R.Source c.args.reader.now in
    let b = reader_state g.R.Source c.take_header.new.reader in
    lacks_head c.args.size a b (of_err (LacksHeader a b) c.in_ok-header.field-0 c.in-Err.damage c.in-Err.is c.in_ok-header.ensures.damage)
