use Rattle.std.proofs.Common.{rules, subst, ◌∙◌}
use Rattle.ark_bytes.specs.Reading.{TakesFewer}
use Rattle.shards_streams.specs.Readers.{reader_state}
use Rattle.shards_streams.proofs.Headed.{no_trailer_read, more_there, end_failed}
use Rattle.shards_streams.proofs.checking.take_trailer.Goals as goal

pub returns-in_err-bytes-clause-unread : goal.returns-in_err-bytes-clause-unread
returns-in_err-bytes-clause-unread g c = λ same.
    let a = reader_state g.R.Source c.args.reader.now in
    let b = reader_state g.R.Source c.take_behind.new.self in
    no_trailer_read c.args.n a b (subst (TakesFewer a b) c.trailer_size.ensures (c.take_behind.ensures.fewer (search rules)))

pub returns-in_err-ended-clause-unread : goal.returns-in_err-ended-clause-unread
returns-in_err-ended-clause-unread g c = λ same.
    let a = reader_state g.R.Source c.args.reader.now in
    let b = reader_state g.R.Source c.take_behind.new.self in
    end_failed c.args.n a b c.in_ok-bytes.bytes.items c.in_ok-bytes.ensures.takes (c.in_ok-bytes.ensures.len ∙ c.trailer_size.ensures) (reader_state g.R.Source c.is_at_end.new.self) c.in_err-ended.ensures.failed

pub returns-then-not-ended-clause-damage : goal.returns-then-not-ended-clause-damage
returns-then-not-ended-clause-damage g c =
    let a = reader_state g.R.Source c.args.reader.now in
    let b = reader_state g.R.Source c.take_behind.new.self in
    let more = c.in_ok-ended.ensures.more c.if-not-ended.true in
    more_there c.args.n a b c.in_ok-bytes.bytes.items c.in_ok-bytes.ensures.takes (c.in_ok-bytes.ensures.len ∙ c.trailer_size.ensures) (reader_state g.R.Source c.is_at_end.new.self) more.0 more.1 more.2
