use Rattle.std.proofs.Common.{◌≤◌, ◌+◌, ◌*◌, length, arith, ap, ◌∙◌}
use Rattle.ark_math.specs.Univariate.{of_list}
use Rattle.ark_words.proofs.WordLists.{number_fits, number_length, written_more}
use Rattle.ark_words.proofs.padded.put_with_zeros.Goals as goal

pub loop-i-preserved : goal.loop-i-preserved
loop-i-preserved g c =
    let number = g.F.PrimeNumbers.numbering.number in
    let width = g.F.WordElement.WIDTH in
    let within = rw c.WIDTH-width.ensures at c.loop-i-test.true in
    let fits = number_fits width c.loop-i.i c.args.words.now within in
    let end : (c.loop-i.i + 1) * width ≤ length c.loop-i.words = omega (arith, c.loop-i.auto.words, fits) in
    written_more (λ j. number (of_list g.F.Field.field c.args.items.now j)) width c.loop-i.i _ _ c.loop-i.words c.write_words.new.words
    (ap (λ w. c.loop-i.i * w) c.WIDTH-width.ensures)
    (rw c.WIDTH-width.ensures (omega arith))
    (c.write_words.auto.words ∙ rw c.WIDTH-width.ensures (number_length width c.loop-i.i c.loop-i.words end))
    (c.write_words.ensures ∙ ap number c.item_or_zero.ensures)
    c.loop-i.invariant
