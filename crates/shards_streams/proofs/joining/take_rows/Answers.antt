use Rattle.std.proofs.Common.{ℕ, ◌<◌, ◌≤◌, ◌+◌, ◌*◌, arith, length, get_or, ap, sym, subst, ◌∙◌, below_more}
use Rattle.std.proofs.lemmas.List.{length-set}
use Rattle.shards_format.proofs.BlockLists.{row_end, row_place}
use Rattle.shards_format.specs.Parts.{number_in}
use Rattle.shards_streams.specs.declared.reader.PieceReader.{PieceReader}
use Rattle.shards_streams.specs.Joining.{GavePart}
use Rattle.shards_streams.proofs.EachItem.{items_more, rest_after}
use Rattle.shards_streams.proofs.joining.take_rows.Goals as goal

pub read_row-requires-clause-row : goal.read_row-requires-clause-row
read_row-requires-clause-row g c =
    subst (λ m. c.loop-a.a * c.args.count + c.args.count ≤ m) (sym (c.loop-a.invariant.len ∙ c.requires.len)) (row_end c.loop-a.a (length c.args.places.now) c.args.count c.loop-a-test.true)

pub loop-a-preserved : goal.loop-a-preserved
loop-a-preserved g c =
    let Reader : Type 0 = PieceReader g.row.R.Denot in
    let count = c.args.count in
    let places = c.args.places.now in
    let k = length places in
    let a = c.loop-a.a in
    let readers = c.loop-a.readers in
    let old = c.args.readers.now in
    let new = c.take.new.self in
    let numbers = c.read_row.new.numbers in
    let P : ℕ → Reader → Reader → Type 0 = λ j x y. GavePart g.R.Source k (get_or places j 0) count numbers j x y in
    let inside : a < length readers = omega (arith, c.loop-a-test.true, c.loop-a.invariant.kept, c.requires.readers) in
    let this : P a (get_or readers a c.index-readers-a.result) new = record {
      part = c.in_ok-part.part.items;
      len = c.in_ok-part.ensures.len ∙ ap (λ m. m + 2 * count) c.mark_size.ensures;
      gave = c.in_ok-part.ensures.gave;
      row = λ s h. c.read_row.ensures.row s h ∙ ap (λ xs. number_in k (get_or places a 0) xs s) c.deref.ensures.value;
    } in
    let before : (j : ℕ) (d : Reader) → j < a → P j (get_or old j d) (get_or readers j d) = λ j d h.
    let gave = c.loop-a.invariant.done j d h in
    record {
      part = gave.part;
      len = gave.len;
      gave = gave.gave;
      row = λ s l. c.read_row.ensures.before (j * count + s) (row_place j s a count h l) ∙ gave.row s l;
    } in
    record {
      len = c.read_row.auto.numbers ∙ c.loop-a.invariant.len;
      small = λ j s h l. below_more (λ j. get_or numbers (j * count + s) 0 ≤ 65536) a
          (λ j h. subst (λ x. x ≤ 65536) (sym (c.read_row.ensures.before (j * count + s) (row_place j s a count h l))) (c.loop-a.invariant.small j s h l))
          (c.read_row.ensures.small s l) j h;
      kept = length-set readers a new ∙ c.loop-a.invariant.kept;
      done = items_more P old readers a c.index-readers-a.result new inside before c.loop-a.invariant.rest this;
      rest = rest_after P old readers a c.index-readers-a.result new inside before c.loop-a.invariant.rest this;
    }
