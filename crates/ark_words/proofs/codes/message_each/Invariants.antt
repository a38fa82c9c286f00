use Rattle.std.proofs.Common.{◌≡◌, ◌*◌, ◌<◌, ℕ, length, map}
use Rattle.ark_numbers.specs.Fields.{known_by}
use Rattle.ark_words.specs.Codes.{IsFound, word_at}
use Rattle.ark_words.proofs.codes.message_each.Given as goal

abbrev pub invariant-loop-j : goal.invariant-loop-j
invariant-loop-j g l =
    let F = g.F.PrimeNumbers in
    let n = length l.erased in (
    (length l.found.items ≡ l.j * l.decoder.code.k)
    × ((i : ℕ) → i < l.j → IsFound (known_by F.modulus g.F.FftField.adicity F.generator) l.erased l.decoder.code.k
    (word_at n (map F.numbering.number l.items) i) (word_at l.decoder.code.k (map F.numbering.number l.found.items) i)))
