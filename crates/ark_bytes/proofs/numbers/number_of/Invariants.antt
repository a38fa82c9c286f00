-- The number of the bytes from i on.
use Rattle.std.proofs.Common.{◌≡◌, ◌≤◌, length, drop}
use Rattle.ark_math_formats.specs.Format.{number_of}
use Rattle.ark_bytes.proofs.numbers.number_of.Given as goal

abbrev pub invariant-loop-i : goal.invariant-loop-i
invariant-loop-i l = record { within : l.i ≤ length l.bytes; value : l.value ≡ number_of (drop l.i l.bytes) }

abbrev pub decreases-loop-i : goal.decreases-loop-i
decreases-loop-i l = l.i
