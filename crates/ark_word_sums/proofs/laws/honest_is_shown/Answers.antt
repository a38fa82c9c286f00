use Rattle.std.proofs.Common.{◌≡◌, ◌+◌, ◌*◌, ◌%◌, ◌<◌, [], ◌∷◌, map, arith, ap, sym, subst, ◌∙◌}
use Rattle.std.specs.List.{flat_map}
use Rattle.std.proofs.lemmas.Nat.{mod-mul-add}
use Rattle.ark_bytes.specs.declared.compress.Compress.TheVariants.{Yes}
use Rattle.ark_sum_check.specs.Cube.{sum_value}
use Rattle.ark_sum_check.specs.Rounds.{challenges}
use Rattle.ark_words.specs.Numbers.{Spelled}
use Rattle.ark_word_sums.specs.Proofs.{sum_over}
use Rattle.ark_word_sums.proofs.Made.{checked_by}
use Rattle.ark_word_sums.proofs.laws.honest_is_shown.Goals as goal

pub returns : goal.returns
returns g c label statement bytes tables point value found m d n ps most (rounds, proof) (others, last, other, at, left) (x, there, here) len long below beneath =
    let E = g.F.Challenge in
    let L = E.Field.field in
    let f = g.F.WordElement.spelled in
    let number = g.F.PrimeNumbers.numbering.number in
    let degree = E.ChallengeOf.DEGREE in
    let t = sum_over (checked_by f L (E.Spelled.format Yes) E.Field.element_size degree number E.ChallengeOf.coefficients) m tables ps in
    let one = c.one_reduction.ensures label statement bytes m d n rounds others (sum_value L t (challenges rounds)) last most proof other in
    let points = c.one_list_of_elements.ensures point (challenges others) x at there in
    let values : sum_value L t x ≡ last = ap (sum_value L t) (sym points ∙ ap challenges (sym one.0)) ∙ one.1 in
    let some : 0 < f.width = subst (λ (s : Spelled). 0 < s.width) (sym g.met.F.WordElement.spelled_law) g.met.F.WordElement.width_law in
    let size : degree * f.width ≡ degree * f.width + 0 = omega arith in
    c.one_list_of_words.ensures found value (ap (λ k. k % f.width) (long ∙ size) ∙ mod-mul-add degree f.width 0 some) (long ∙ sym len) beneath below
    (here ∙ ap (λ y. flat_map (λ z. map number (E.ChallengeOf.coefficients z)) (y ∷ [])) values ∙ sym left)
