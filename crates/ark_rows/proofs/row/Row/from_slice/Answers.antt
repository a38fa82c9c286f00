use Rattle.std.proofs.Common.{◌∙◌, sym, arith}
use Rattle.std.proofs.lemmas.List.{same_lists}
use Rattle.ark_rows.proofs.row.Row.from_slice.Goals as goal

pub returns : goal.returns
returns g c =
    let row = c.loop-i.row in
    same_lists row.items c.args.items.now (row.whole ∙ sym c.requires)
    (λ k d l. c.loop-i.invariant k d (omega (arith, l, row.whole, c.loop-i-test.false)))
