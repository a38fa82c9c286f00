use Rattle.std.proofs.Common.{◌≡◌, ◌*◌, ◌<◌, ℕ, length, map}
use Rattle.ark_numbers.specs.Fields.{known_by}
use Rattle.ark_words.specs.Codes.{IsRestored, word_at}
use Rattle.ark_words.proofs.codes.restore_each.Given as goal

abbrev pub invariant-loop-j : goal.invariant-loop-j
invariant-loop-j g l =
    let F = g.F.PrimeNumbers in
    let n = length l.erased in (
    (length l.restored.items ≡ l.j * n)
    × ((i : ℕ) → i < l.j → IsRestored (known_by F.modulus g.F.FftField.adicity F.generator) l.erased l.decoder.code.k
    (word_at n (map F.numbering.number l.items) i) (word_at n (map F.numbering.number l.restored.items) i)))
