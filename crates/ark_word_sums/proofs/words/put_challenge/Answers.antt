use Rattle.std.proofs.Common.{◌≡◌, ◌<◌, ◌≤◌, ◌+◌, ◌*◌, map, length, get_or, arith, ap, sym, subst, ◌∙◌}
use Rattle.std.proofs.lemmas.List.{length-map, get_or-map}
use Rattle.ark_words.proofs.WordLists.{number_end, number_length, written_more, written_all}
use Rattle.ark_word_sums.proofs.words.put_challenge.Goals as goal

pub loop-i-preserved : goal.loop-i-preserved
loop-i-preserved g c =
    let number = g.F.PrimeNumbers.numbering.number in
    let width = g.F.WordElement.WIDTH in
    let degree = g.F.Challenge.ChallengeOf.DEGREE in
    let xs = g.F.Challenge.ChallengeOf.coefficients c.args.challenge.now in
    let count : length xs ≡ degree = g.met.F.Challenge.ChallengeOf.degree_law c.args.challenge.now in
    let below : c.loop-i.i < degree = subst (λ n. c.loop-i.i < n) c.DEGREE-i-end.ensures c.loop-i-test.true in
    let len : length c.loop-i.words ≡ degree * width = c.loop-i.auto.words ∙ c.requires ∙ ap (λ f. degree * f.width) g.met.F.WordElement.spelled_law in
    let end : (c.loop-i.i + 1) * width ≤ length c.loop-i.words = omega (arith, number_end width degree c.loop-i.i below, len) in
    let inside : c.loop-i.i < length xs = subst (λ n. c.loop-i.i < n) (sym count) below in
    written_more (λ j. get_or (map number xs) j 0) width c.loop-i.i _ _ c.loop-i.words c.write_words.new.words
    (ap (λ w. c.loop-i.i * w) c.WIDTH-width.ensures)
    (rw c.WIDTH-width.ensures (omega arith))
    (c.write_words.auto.words ∙ rw c.WIDTH-width.ensures (number_length width c.loop-i.i c.loop-i.words end))
    (c.write_words.ensures ∙ ap number (c.coefficient-coefficient.ensures g.F.Field.field.zero) ∙ sym (get_or-map number xs c.loop-i.i g.F.Field.field.zero 0 inside))
    c.loop-i.invariant

pub returns : goal.returns
returns g c =
    let number = g.F.PrimeNumbers.numbering.number in
    let width = g.F.WordElement.WIDTH in
    let degree = g.F.Challenge.ChallengeOf.DEGREE in
    let xs = g.F.Challenge.ChallengeOf.coefficients c.args.challenge.now in
    let count : length (map number xs) ≡ degree = length-map xs number ∙ g.met.F.Challenge.ChallengeOf.degree_law c.args.challenge.now in
    let len : length c.loop-i.words ≡ degree * width = c.loop-i.auto.words ∙ c.requires ∙ ap (λ f. degree * f.width) g.met.F.WordElement.spelled_law in
    written_all width c.loop-i.words (map number xs) g.met.F.WordElement.width_law (len ∙ ap (λ n. n * width) (sym count))
    (λ j l. c.loop-i.invariant j (omega (arith, l, count, c.DEGREE-i-end.ensures)))
