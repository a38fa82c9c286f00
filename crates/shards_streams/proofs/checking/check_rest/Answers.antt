use Rattle.std.proofs.Common.{◌≡◌, ◌+◌, ◌-◌, ◌*◌, List, ℕ, ◌++◌, arith, rules, length, sym, subst, ap, ◌∙◌}
use Rattle.std.specs.Io.KnownBytes.{IsAtEnd}
use Rattle.ark_bytes.specs.Reading.{SourceState, Takes, TakesFewer, source_state}
use Rattle.shards_format.specs.Headers.{header_bytes}
use Rattle.shards_format.specs.Trailers.{trailer_bytes}
use Rattle.shards_format.specs.declared.trailer.Trailer.{Trailer}
use Rattle.shards_streams.specs.Readers.{reader_state}
use Rattle.shards_streams.specs.Checking.{LacksTrailer}
use Rattle.shards_streams.proofs.Results.{of_ok, of_err}
use Rattle.shards_streams.proofs.Wholes.{lacks_room, lacks_body, lacks_trailer, lacks_own, gave_rest}
use Rattle.shards_streams.proofs.checking.check_rest.Goals as goal

pub returns-then-size-around-clause-damage : goal.returns-then-size-around-clause-damage
returns-then-size-around-clause-damage g c =
    let a = reader_state g.R.Source c.args.reader.now in
    lacks_room c.args.header c.args.label.items c.requires.label c.args.size a a (omega (arith, c.if-size-around.true, c.len.ensures, c.trailer_size.ensures))

pub returns-in_err-pass-clause-unread : goal.returns-in_err-pass-clause-unread
returns-in_err-pass-clause-unread g c = λ same.
    let a = reader_state g.R.Source c.args.reader.now in
    let b = reader_state g.R.Source c.pass.new.self in
    let around : 24 + c.len.result + c.trailer_size.result ≡ 24 + length c.args.label.items + (32 * c.args.header.n + 40) = omega (arith, c.len.ensures, c.trailer_size.ensures) in
    lacks_body c.args.header c.args.label.items c.requires.label c.args.size a b (omega (arith, around, c.if-size-around.false))
    (subst (TakesFewer a b) (ap (λ m. c.args.size - m) around) (c.pass.ensures.fewer (search rules)))

pub returns-in_err-trailer-clause-unread : goal.returns-in_err-trailer-clause-unread
returns-in_err-trailer-clause-unread g c = λ same.
    let a = reader_state g.R.Source c.args.reader.now in
    let b = reader_state g.R.Source c.pass.new.self in
    let e = reader_state g.R.Source c.take_trailer.new.reader in
    let kept : reader_state g.R.Source c.digest-digest.new.self ≡ b = ap (λ (s : g.row.R.Denot). source_state g.R.Source.remaining g.R.Source.failures s) c.digest-digest.ensures.kept in
    let around : 24 + c.len.result + c.trailer_size.result ≡ 24 + length c.args.label.items + (32 * c.args.header.n + 40) = omega (arith, c.len.ensures, c.trailer_size.ensures) in
    let body = c.in_ok-pass.ensures.gave in
    lacks_trailer c.args.header c.args.label.items c.requires.label c.args.size a b (omega (arith, around, c.if-size-around.false)) body.0 (body.1 ∙ ap (λ m. c.args.size - m) around) body.2.takes e
    (subst (λ (s : SourceState). LacksTrailer c.args.header.n s e) kept (c.take_trailer.ensures.unread (search rules)))

pub returns-in-Err-clause-damage : goal.returns-in-Err-clause-damage
returns-in-Err-clause-damage g c =
    let a = reader_state g.R.Source c.args.reader.now in
    let b = reader_state g.R.Source c.pass.new.self in
    let e = reader_state g.R.Source c.take_trailer.new.reader in
    let kept : reader_state g.R.Source c.digest-digest.new.self ≡ b = ap (λ (s : g.row.R.Denot). source_state g.R.Source.remaining g.R.Source.failures s) c.digest-digest.ensures.kept in
    let around : 24 + c.len.result + c.trailer_size.result ≡ 24 + length c.args.label.items + (32 * c.args.header.n + 40) = omega (arith, c.len.ensures, c.trailer_size.ensures) in
    let body = c.in_ok-pass.ensures.gave in
    lacks_trailer c.args.header c.args.label.items c.requires.label c.args.size a b (omega (arith, around, c.if-size-around.false)) body.0 (body.1 ∙ ap (λ m. c.args.size - m) around) body.2.takes e
    (subst (λ (s : SourceState). LacksTrailer c.args.header.n s e) kept (of_err (LacksTrailer c.args.header.n (reader_state g.R.Source c.digest-digest.new.self) e) c.in_ok-trailer.field-0 c.in-Err.damage c.in-Err.is c.in_ok-trailer.ensures.damage))

pub returns-in-Err-judge-clause-damage : goal.returns-in-Err-judge-clause-damage
returns-in-Err-judge-clause-damage g c =
    let a = reader_state g.R.Source c.args.reader.now in
    let b = reader_state g.R.Source c.pass.new.self in
    let d = reader_state g.R.Source c.digest-digest.new.self in
    let e = reader_state g.R.Source c.take_trailer.new.reader in
    let h = c.args.header in
    let head : List ℕ = header_bytes h.k h.n h.number h.label_len ++ c.args.label.items in
    let t = c.in-Ok.trailer in
    let kept : d ≡ b = ap (λ (s : g.row.R.Denot). source_state g.R.Source.remaining g.R.Source.failures s) c.digest-digest.ensures.kept in
    let around : 24 + c.len.result + c.trailer_size.result ≡ 24 + length c.args.label.items + (32 * h.n + 40) = omega (arith, c.len.ensures, c.trailer_size.ensures) in
    let body = c.in_ok-pass.ensures.gave in
    let found = c.in_ok-trailer in
    let last = of_ok (λ (x : Trailer). Takes d e (trailer_bytes x.digests.items x.len)) found.field-0 t c.in-Ok.is found.ensures.trailer in
    let count = of_ok (λ (x : Trailer). length x.digests.items ≡ 32 * h.n) found.field-0 t c.in-Ok.is found.ensures.count in
    lacks_own h c.args.label.items c.requires.label c.args.size a b (omega (arith, around, c.if-size-around.false)) body.0 (body.1 ∙ ap (λ m. c.args.size - m) around) body.2.takes e
    t.digests.items t.len count t.few (subst (λ (s : SourceState). Takes s e (trailer_bytes t.digests.items t.len)) kept last) c.digest-digest.result
    (c.digest-digest.ensures.digest (head ++ body.0) (body.2.hashed head c.requires.head))
    (λ sized listed. c.in-Err-judge.ensures.damage (search rules) (sym body.1 ∙ sized) listed)

pub returns-in-Ok-judge-clause-piece : goal.returns-in-Ok-judge-clause-piece
returns-in-Ok-judge-clause-piece g c =
    let a = reader_state g.R.Source c.args.reader.now in
    let b = reader_state g.R.Source c.pass.new.self in
    let d = reader_state g.R.Source c.digest-digest.new.self in
    let e = reader_state g.R.Source c.take_trailer.new.reader in
    let h = c.args.header in
    let head : List ℕ = header_bytes h.k h.n h.number h.label_len ++ c.args.label.items in
    let t = c.in-Ok.trailer in
    let kept : d ≡ b = ap (λ (s : g.row.R.Denot). source_state g.R.Source.remaining g.R.Source.failures s) c.digest-digest.ensures.kept in
    let around : 24 + c.len.result + c.trailer_size.result ≡ 24 + length c.args.label.items + (32 * h.n + 40) = omega (arith, c.len.ensures, c.trailer_size.ensures) in
    let body = c.in_ok-pass.ensures.gave in
    let found = c.in_ok-trailer in
    let last = of_ok (λ (x : Trailer). Takes d e (trailer_bytes x.digests.items x.len)) found.field-0 t c.in-Ok.is found.ensures.trailer in
    let count = of_ok (λ (x : Trailer). length x.digests.items ≡ 32 * h.n) found.field-0 t c.in-Ok.is found.ensures.count in
    let end = of_ok (λ (x : Trailer). IsAtEnd e.remaining) found.field-0 t c.in-Ok.is found.ensures.end in
    gave_rest h c.args.label.items c.requires.label c.args.size a b (omega (arith, around, c.if-size-around.false)) body.0 (body.1 ∙ ap (λ m. c.args.size - m) around) body.2.takes e
    t.digests.items t.len count t.few (subst (λ (s : SourceState). Takes s e (trailer_bytes t.digests.items t.len)) kept last)
    (body.1 ∙ c.in-Ok-judge.ensures.size (search rules))
    (c.in-Ok-judge.ensures.listed (search rules) ∙ c.digest-digest.ensures.digest (head ++ body.0) (body.2.hashed head c.requires.head)) end
