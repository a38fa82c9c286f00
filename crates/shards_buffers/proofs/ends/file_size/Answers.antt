use Rattle.std.proofs.Common.{arith, ap, length, length-append, Some}
use Rattle.shards_format.specs.Trailers.{trailer_bytes}
use Rattle.shards_format.proofs.TrailerLists.{trailer_len}
use Rattle.shards_buffers.proofs.LastBytes.{both_parts, one_length}
use Rattle.shards_buffers.proofs.ends.file_size.Goals as goal

pub returns-then-pieces-lt40 : goal.returns-then-pieces-lt40
returns-then-pieces-lt40 c = λ front digests len few is.
    absurd (omega (arith, ap length is, length-append front (trailer_bytes digests len), trailer_len digests len, c.if-pieces-lt40.true))

pub returns : goal.returns
returns c = λ front digests len few is.
    let pieces = c.args.pieces.now in
    let before = c.split_at.result.0.now in
    let end = c.split_at.result.1.now in
    let number = c.split_at-2.result.0.now in
    let name = c.split_at-2.result.1.now in
    ap Some (one_length pieces before end number name front digests len c.number_of.result
    (both_parts _ pieces before end c.split_at.ensures.front c.split_at.ensures.back)
    (both_parts 8 end number name c.split_at-2.ensures.front c.split_at-2.ensures.back)
    (omega (arith, c.split_at-2.ensures.front_len))
    (omega (arith, c.split_at.ensures.back_len, c.if-pieces-lt40.false))
    c.number_of.ensures (omega arith) is few)
