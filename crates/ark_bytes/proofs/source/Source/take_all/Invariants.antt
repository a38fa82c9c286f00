-- The beginning of the buffer was taken.
use Rattle.std.proofs.Common.{length, take, ◌-◌, ◌≤◌}
use Rattle.ark_bytes.specs.Reading.{source_state, Takes}
use Rattle.ark_bytes.proofs.source.Source.take_all.Given as goal

abbrev pub invariant-loop-filled : goal.invariant-loop-filled
invariant-loop-filled g l = record {
  within : l.filled ≤ length l.buffer;
  takes : Takes (source_state g.Self.Source.remaining g.Self.Source.failures l.fn.self) (source_state g.Self.Source.remaining g.Self.Source.failures l.self) (take l.filled l.buffer);
}

abbrev pub decreases-loop-filled : goal.decreases-loop-filled
decreases-loop-filled g l = length l.initial.buffer - l.filled
