use Rattle.std.proofs.Common.{◌≡◌, ◌-◌, ◌+◌, ◌^◌, length, if◌then◌else◌}
use Rattle.ark_bytes.specs.Reading.{source_state}
use Rattle.shards_streams.proofs.Bodies.{TookSoFar}
use Rattle.shards_streams.proofs.splitting.put_bodies.Given as goal

abbrev pub invariant-loop-more : goal.invariant-loop-more
invariant-loop-more g l =
    let code = g.C.StripeCode in
    record {
      len : length l.writers ≡ length l.fn.writers;
      took : TookSoFar g.W.Sink code.number (code.k_of l.code) (code.n_of l.code) l.len l.more (source_state g.R.Source.remaining g.R.Source.failures l.fn.source)
          (source_state g.R.Source.remaining g.R.Source.failures l.source) l.fn.writers l.writers;
    }

abbrev pub decreases-loop-more : goal.decreases-loop-more
decreases-loop-more g l = (2 ^ 62 - l.len) + (if l.more then 1 else 0)
