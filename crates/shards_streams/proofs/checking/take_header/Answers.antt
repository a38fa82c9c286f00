use Rattle.std.proofs.Common.{rules, sym, refl, ◌∙◌}
use Rattle.shards_streams.specs.Readers.{reader_state}
use Rattle.shards_streams.proofs.Headed.{no_header_read, no_header_there, no_label_read}
use Rattle.shards_streams.proofs.checking.take_header.Goals as goal

pub returns-in_err-head-clause-unread : goal.returns-in_err-head-clause-unread
returns-in_err-head-clause-unread g c = λ same.
    no_header_read (reader_state g.R.Source c.args.reader.now) (reader_state g.R.Source c.take.new.self) (c.take.ensures.fewer (search rules))

pub returns-in_err-label-in-Ok-clause-unread : goal.returns-in_err-label-in-Ok-clause-unread
returns-in_err-label-in-Ok-clause-unread g c = λ same.
    no_label_read (reader_state g.R.Source c.args.reader.now) (reader_state g.R.Source c.take.new.self) c.in_ok-head.head.items c.in_ok-head.ensures.gave.takes c.in_ok-head.ensures.len
    c.in-Ok.header (sym c.deref.ensures.value ∙ c.in-Ok.ensures.header) (reader_state g.R.Source c.take-in-Ok.new.self) (c.take-in-Ok.ensures.fewer (search rules))

pub returns-clause-damage : goal.returns-clause-damage
returns-clause-damage g c =
    no_header_there (reader_state g.R.Source c.args.reader.now) (reader_state g.R.Source c.take.new.self) c.in_ok-head.head.items c.in_ok-head.ensures.gave.takes c.in_ok-head.ensures.len
    (λ h is. c.in-Err.ensures.none h (c.deref.ensures.value ∙ is)) (reader_state g.R.Source c.take.new.self) refl
