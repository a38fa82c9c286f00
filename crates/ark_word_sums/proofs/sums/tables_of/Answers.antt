use Rattle.std.proofs.Common.{◌≡◌, ◌+◌, ◌*◌, ◌/◌, drop, length, map, take, slice_range, sym, ap, ◌∙◌, arith, mul_comm}
use Rattle.std.proofs.lemmas.List.{length-map}
use Rattle.ark_words.specs.Numbers.{numbers}
use Rattle.ark_words.proofs.WordLists.{count_of_words}
use Rattle.ark_word_sums.proofs.WordTables.{length_of_part, numbers_of_part, tables_more, whole_more}
use Rattle.ark_word_sums.proofs.sums.tables_of.Goals as goal

pub loop-i-preserved : goal.loop-i-preserved
loop-i-preserved g c =
    let number = g.F.PrimeNumbers.numbering.number in
    let width = g.F.WordElement.WIDTH in
    let words = c.args.words.now in
    let len = c.args.len in
    let count = c.args.count in
    let i = c.loop-i.i in
    let table = c.in_ok-table.table in
    let before = c.loop-i.tables.items in
    let pushed = c.in_ok-push.ensures.items in
    let size : length words / count ≡ len * width =
    ap (λ n. n / count) (c.requires ∙ mul_comm count (len * width)) ∙ count_of_words count (len * width) (omega (arith, c.loop-i-test.true)) in
    let read : map number table.items ≡ take len (drop (i * len) (numbers width words)) =
    c.in_ok-table.ensures.numbers
    ∙ ap (λ n. numbers width (slice_range words (i * n) ((i + 1) * n))) size
    ∙ numbers_of_part width len words g.met.F.WordElement.width_law count c.requires i c.loop-i-test.true in
    let long : length table.items ≡ len =
    sym (length-map table.items number) ∙ ap length read ∙ length_of_part width len words g.met.F.WordElement.width_law count c.requires i c.loop-i-test.true in
    record {
      whole = whole_more (λ t. length t.items ≡ len) before c.push.new.self.items table pushed c.loop-i.invariant.whole long;
      tables = tables_more (λ t. map number t.items) len i (numbers width words) before c.push.new.self.items table pushed c.loop-i.invariant.tables read;
    }
