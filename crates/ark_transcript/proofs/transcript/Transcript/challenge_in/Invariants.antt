-- A challenge in the tries that are left is one in all tries.
use Rattle.std.proofs.Common.{◌-◌, List}
use Rattle.ark_bytes.specs.declared.compress.Compress.TheVariants.{Yes}
use Rattle.ark_transcript.specs.Calls.{Call}
use Rattle.ark_transcript.specs.Challenges.{IsChallenge}
use Rattle.ark_transcript.proofs.transcript.Transcript.challenge_in.Given as goal

abbrev pub invariant-tries : goal.invariant-tries
invariant-tries g l = (x : g.row.F.Denot) (after : List Call)
    → IsChallenge g.F.Field.field (g.F.Spelled.format Yes) g.F.Field.element_size l.label (4096 - l._i) l.self x after
    → IsChallenge g.F.Field.field (g.F.Spelled.format Yes) g.F.Field.element_size l.fn.label 4096 l.fn.self x after
