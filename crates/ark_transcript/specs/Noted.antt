-- The calls after one more.
use Rattle.std.specs.Prelude.{List, [], ◌∷◌, ◌++◌, drop, length}
use Rattle.ark_transcript.specs.Calls.{Call}
use Rattle.ark_transcript.specs.Calls as call
use Rattle.ark_transcript.specs.declared.calls.Note.{Note}
use Rattle.ark_transcript.specs.declared.calls.Note.TheVariants as note

abbrev pub noted : List Call → Note → List Call
noted calls note.Nothing = calls
noted calls (note.Begun label) = calls ++ call.Begun label.now ∷ []
noted calls (note.Absorbed label before after) = calls ++ call.Absorbed label.now (drop (length before.now.bytes) after.now.bytes) ∷ []
noted calls (note.Asked label size) = calls ++ call.Asked label.now size ∷ []
