use Rattle.std.proofs.Common.{◌++◌, inr, rules, arith, ap, length, length-append, sym, ◌∙◌}
use Rattle.shards_format.specs.Trailers.{trailer_bytes}
use Rattle.shards_format.proofs.TrailerLists.{trailer_len}
use Rattle.shards_buffers.proofs.LastBytes.{both_parts, same_ends}
use Rattle.shards_buffers.proofs.ends.last_trailer.Goals as goal

pub returns-then-pieces-size-clause-errors : goal.returns-then-pieces-size-clause-errors
returns-then-pieces-size-clause-errors c = inr (
  search rules,
  λ digests len t. omega (arith, ap length t.is, length-append t.front (trailer_bytes digests len), trailer_len digests len, t.count, c.trailer_size-size.ensures, c.if-pieces-size.true),
)

pub returns-in-Some-clause-trailer : goal.returns-in-Some-clause-trailer
returns-in-Some-clause-trailer c =
    let end = c.split_at.result.1.now in
    let front = c.split_at.result.0.now in
    record {
      count = search rules;
      few = search rules;
      front = front;
      is = both_parts _ c.args.pieces.now front end c.split_at.ensures.front c.split_at.ensures.back ∙ ap (λ xs. front ++ xs) (search rules);
    }

pub returns-in-None-clause-errors : goal.returns-in-None-clause-errors
returns-in-None-clause-errors c = inr (
  search rules,
  λ digests len t.
      let end = c.split_at.result.1.now in
      let parts = both_parts _ c.args.pieces.now c.split_at.result.0.now end c.split_at.ensures.front c.split_at.ensures.back in
      let whole = same_ends c.split_at.result.0.now t.front end (trailer_bytes digests len) (sym parts ∙ t.is)
      (omega (arith, c.split_at.ensures.back_len, trailer_len digests len, t.count, c.trailer_size-size.ensures, c.if-pieces-size.false)) in
      c.in_ok-trailer.ensures.none (search rules) digests len t.count t.few whole.1,
)
