use Rattle.std.proofs.Common.{◌≡◌, ◌≤◌, ◌-◌, length, take}
use Rattle.ark_bytes.specs.Reading.{source_state, Takes}
use Rattle.shards_streams.proofs.reading.fill_some.Given as goal

abbrev pub invariant-loop-count : goal.invariant-loop-count
invariant-loop-count g l = record {
  len : length l.bytes ≡ length l.fn.bytes;
  few : l.count ≤ length l.bytes;
  takes : Takes (source_state g.R.Source.remaining g.R.Source.failures l.fn.source) (source_state g.R.Source.remaining g.R.Source.failures l.source) (take l.count l.bytes);
}

abbrev pub decreases-loop-count : goal.decreases-loop-count
decreases-loop-count g l = length l.bytes - l.count
