use Rattle.std.proofs.Common.{◌≡◌, ◌≤◌, ◌+◌, ◌*◌, ℕ, map, length, get_or, arith, ap, sym, ◌∙◌}
use Rattle.std.proofs.lemmas.List.{length-map, get_or-map}
use Rattle.ark_words.proofs.WordLists.{number_end, number_length, written_more, written_all}
use Rattle.ark_words.proofs.scaled.put_scaled.Goals as goal

pub loop-i-preserved : goal.loop-i-preserved
loop-i-preserved g c =
    let number : g.row.F.Denot → ℕ = λ x. g.F.PrimeNumbers.numbering.number (g.F.Field.field.times g.F.WordElement.unit x) in
    let width = g.F.WordElement.WIDTH in
    let len : length c.loop-i.words ≡ length c.args.items.now * width = c.loop-i.auto.words ∙ c.requires in
    let end : (c.loop-i.i + 1) * width ≤ length c.loop-i.words = omega (arith, number_end width (length c.args.items.now) c.loop-i.i c.loop-i-test.true, len) in
    written_more (λ j. get_or (map number c.args.items.now) j 0) width c.loop-i.i _ _ c.loop-i.words c.write_scaled.new.words
    (ap (λ w. c.loop-i.i * w) c.WIDTH-width.ensures)
    (rw c.WIDTH-width.ensures (omega arith))
    (c.write_scaled.auto.words ∙ rw c.WIDTH-width.ensures (number_length width c.loop-i.i c.loop-i.words end))
    (c.write_scaled.ensures ∙ ap number c.index-items-i.is ∙ sym (get_or-map number c.args.items.now c.loop-i.i _ 0 c.loop-i-test.true))
    c.loop-i.invariant

pub returns : goal.returns
returns g c =
    let number : g.row.F.Denot → ℕ = λ x. g.F.PrimeNumbers.numbering.number (g.F.Field.field.times g.F.WordElement.unit x) in
    let n = length-map c.args.items.now number in
    written_all g.F.WordElement.WIDTH c.loop-i.words (map number c.args.items.now) g.met.F.WordElement.width_law (c.loop-i.auto.words ∙ c.requires ∙ ap (λ n. n * g.F.WordElement.WIDTH) (sym n))
    (λ j l. c.loop-i.invariant j (omega arith))
