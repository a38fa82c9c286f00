use Rattle.std.proofs.Common.{arith, ap, length}
use Rattle.shards_format.proofs.TrailerLists.{trailer_len}
use Rattle.shards_format.proofs.trailer.Trailer.from_bytes.Goals as goal

pub returns-then-bytes-trailer_size-clause-none : goal.returns-then-bytes-trailer_size-clause-none
returns-then-bytes-trailer_size-clause-none c = λ none digests len count few is.
    let size = ap length is in
    c.if-bytes-trailer_size.true (omega (arith, size, trailer_len digests len, count, c.trailer_size.ensures))
