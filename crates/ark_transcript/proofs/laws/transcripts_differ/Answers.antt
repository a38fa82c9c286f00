use Rattle.ark_transcript.proofs.Spellings.{same_blocks, same_calls}
use Rattle.ark_transcript.proofs.laws.transcripts_differ.Goals as goal

pub returns : goal.returns
returns c = record { calls = same_calls; blocks = same_blocks }
