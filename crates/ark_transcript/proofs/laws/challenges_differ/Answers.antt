use Rattle.ark_transcript.proofs.Digests.{challenges_differ}
use Rattle.ark_transcript.proofs.laws.challenges_differ.Goals as goal

pub returns : goal.returns
returns c = challenges_differ
