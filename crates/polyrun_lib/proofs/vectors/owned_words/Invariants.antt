use Rattle.std.proofs.Common.{◌≡◌, map, take, string_bytes}
use Rattle.polyrun_lib.proofs.vectors.owned_words.Given as goal

abbrev pub invariant-loop-word : goal.invariant-loop-word
invariant-loop-word l = map string_bytes l.owned.items ≡ map (λ word. word.now) (take l.word-index l.words)
