use Rattle.std.proofs.Common.{map, sym, ◌∙◌}
use Rattle.std.proofs.lemmas.List.{length-map}
use Rattle.ark_word_sums.proofs.ElementWords.{one_list, one_map}
use Rattle.ark_word_sums.proofs.laws.one_list_of_elements.Goals as goal

pub returns : goal.returns
returns g c words xs ys s t =
    let number = g.F.PrimeNumbers.numbering.number in
    let C = g.F.Challenge.ChallengeOf in
    let laws = g.met.F.Challenge.ChallengeOf in
    one_list (λ x. map number (C.coefficients x)) C.DEGREE laws.positive_law
    (λ x. length-map (C.coefficients x) number ∙ laws.degree_law x)
    (λ x y e. laws.apart_law x y (one_map number g.F.PrimeNumbers.numbering.same (C.coefficients x) (C.coefficients y) e))
    xs ys (sym s ∙ t)
