use Rattle.std.proofs.Common.{◌≡◌, All, length, map}
use Rattle.ark_words.specs.Numbers.{numbers}
use Rattle.ark_word_sums.specs.Read.{table_lists}
use Rattle.ark_word_sums.proofs.sums.tables_of.Given as goal

abbrev pub invariant-loop-i : goal.invariant-loop-i
invariant-loop-i g l =
    let number = g.F.PrimeNumbers.numbering.number in
    record {
      whole : All (λ t. length t.items ≡ l.len) l.tables.items;
      tables : map (λ t. map number t.items) l.tables.items ≡ table_lists l.len l.i (numbers g.F.WordElement.WIDTH l.words);
    }
