use Rattle.std.proofs.Common.{◌≡◌, ◌≤◌, ◌+◌, ◌*◌, ◌++◌, [], ◌∷◌, map, length, take, arith, ap, sym, ◌∙◌}
use Rattle.std.specs.List.{flat_map}
use Rattle.std.proofs.lemmas.List.{take_all, take_more}
use Rattle.ark_words.specs.Numbers.{numbers}
use Rattle.ark_words.proofs.WordLists.{number_end, number_length}
use Rattle.ark_word_sums.proofs.ElementWords.{no_numbers, one_more_written}
use Rattle.ark_word_sums.proofs.words.put_challenges.Goals as goal

pub loop-i-init : goal.loop-i-init
loop-i-init g c =
    let width = g.F.WordElement.WIDTH in
    let none : 0 * (g.F.Challenge.ChallengeOf.DEGREE * width) ≡ 0 = omega arith in
    ap (λ n. numbers width (take n c.args.words.now)) none ∙ no_numbers width g.met.F.WordElement.width_law

pub loop-i-preserved : goal.loop-i-preserved
loop-i-preserved g c =
    let number = g.F.PrimeNumbers.numbering.number in
    let coefficients = g.F.Challenge.ChallengeOf.coefficients in
    let width = g.F.WordElement.WIDTH in
    let degree = g.F.Challenge.ChallengeOf.DEGREE in
    let xs = c.args.challenges.now in
    let i = c.loop-i.i in
    let x = c.index-challenges-i.result in
    let size = c.challenge_width-width.result in
    let law : g.F.WordElement.spelled.width ≡ width = ap (λ f. f.width) g.met.F.WordElement.spelled_law in
    let of_size : size ≡ degree * width = c.challenge_width-width.ensures ∙ ap (λ w. degree * w) law in
    let len : length c.loop-i.words ≡ length xs * size = c.loop-i.auto.words ∙ c.requires ∙ ap (λ n. length xs * n) (sym c.challenge_width-width.ensures) in
    let end : (i + 1) * size ≤ length c.loop-i.words = omega (arith, number_end size (length xs) i c.loop-i-test.true, len) in
    one_more_written (λ y. map number (coefficients y)) width degree g.met.F.WordElement.width_law i (i * size) _ (take i xs) x c.loop-i.words c.put_challenge.new.words
    (ap (λ n. i * n) of_size)
    (omega (arith, end))
    (c.put_challenge.auto.words ∙ number_length size i c.loop-i.words end ∙ of_size)
    c.loop-i.invariant
    c.put_challenge.ensures
    ∙ sym (ap (flat_map (λ y. map number (coefficients y))) (take_more xs i x c.loop-i-test.true ∙ ap (λ y. take i xs ++ y ∷ []) (sym c.index-challenges-i.is)))

pub returns : goal.returns
returns g c =
    let number = g.F.PrimeNumbers.numbering.number in
    let coefficients = g.F.Challenge.ChallengeOf.coefficients in
    let width = g.F.WordElement.WIDTH in
    let degree = g.F.Challenge.ChallengeOf.DEGREE in
    let xs = c.args.challenges.now in
    let i = c.loop-i.i in
    let law : g.F.WordElement.spelled.width ≡ width = ap (λ f. f.width) g.met.F.WordElement.spelled_law in
    let len : length c.loop-i.words ≡ length xs * (degree * width) = c.loop-i.auto.words ∙ c.requires ∙ ap (λ w. length xs * (degree * w)) law in
    let count : i ≡ length xs = omega arith in
    let all : length c.loop-i.words ≡ i * (degree * width) = len ∙ ap (λ n. n * (degree * width)) (sym count) in
    ap (λ w. numbers w c.loop-i.words) law
    ∙ sym (ap (numbers width) (take_all (i * (degree * width)) c.loop-i.words (omega (arith, all))))
    ∙ c.loop-i.invariant
    ∙ ap (flat_map (λ y. map number (coefficients y))) (take_all i xs (omega (arith, count)))
