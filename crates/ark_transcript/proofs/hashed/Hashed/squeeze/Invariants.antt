-- The bytes so far are filled, and within a block it is at hand.
use Rattle.std.proofs.Common.{◌≡◌, ◌≢◌, ℕ, ◌<◌, ◌/◌, ◌%◌, slice_index}
use Rattle.ark_transcript.specs.Challenges.{block}
use Rattle.ark_transcript.proofs.hashed.Hashed.squeeze.Given as goal

abbrev pub invariant-bytes : goal.invariant-bytes
invariant-bytes l = record {
  filled : (j : ℕ) → j < l.i → slice_index l.out j ≡ slice_index (block l.self (j / 32)) (j % 32);
  at_hand : l.i % 32 ≢ 0 → l.block ≡ block l.self (l.i / 32);
}
