use Rattle.std.proofs.Common.{◌≡◌, ℕ, ◌+◌, ◌-◌, ◌*◌, ◌%◌, ◌<◌, ◌≤◌, List, length, take, drop, get_or, sym, subst, ap, ◌∙◌}
use Rattle.shards_format.proofs.BlockLists.{row_at, row_len}
use Rattle.shards_format.proofs.PutRows.{RowsPut, row_put, row_passed}
use Rattle.shards_format.proofs.block_parts.put_rows.Goals as goal
use Rattle.shards_format.proofs.block_parts.put_rows.Goals.{then-placed-a, else-placed-a}

pub loop-a-preserved : goal.loop-a-preserved
loop-a-preserved c =
    let count = c.args.placed.now.stripes in
    let places = c.args.placed.now.places.now in
    let numbers = c.args.placed.now.numbers.now in
    let a = c.loop-a.a in
    let p = get_or places a 0 in
    let row = take (a * count + count - a * count) (drop (a * count) numbers) in
    let len : length row ≡ count = row_len a (length places) count numbers c.loop-a-test.true c.args.placed.now.len in
    let Put : List ℕ → Type 0 = λ bytes. RowsPut c.args.k count places numbers c.args.bytes.now bytes (a + 1) in
    elim c.if-placed-a.branch [
      | then-placed-a w ↦ subst Put (sym w.bytes-is)
          (row_put c.args.k count places numbers c.args.bytes.now c.loop-a.bytes a c.loop-a.invariant w.put_items.new.bytes c.args.placed.now.apart c.loop-a-test.true
          (λ s l. w.put_items.ensures.here s (subst (λ m. s < m) (sym len) l) ∙ ap (λ x. x % 65536) (row_at a count s numbers l))
          w.put_items.ensures.before
          (λ i l. w.put_items.ensures.after i (subst (λ m. p * count + m ≤ i) (sym len) l)))
      | else-placed-a w ↦ subst Put (sym w.bytes-is) (row_passed c.args.k count places numbers c.args.bytes.now c.loop-a.bytes a c.loop-a.invariant w.if-placed-a.false)
    ]
