use Rattle.std.proofs.Common.{[], ◌∷◌, inl, inr, ap, sym, ◌∙◌}
use Rattle.ark_bytes.specs.declared.compress.Compress.TheVariants.{Yes}
use Rattle.ark_sum_check.specs.Cube.{sum_value}
use Rattle.ark_sum_check.specs.Rounds.{challenges}
use Rattle.ark_sum_check.proofs.Vectors.{first}
use Rattle.ark_word_sums.specs.Proofs.{sum_over}
use Rattle.ark_word_sums.proofs.Made.{checked_by}
use Rattle.ark_word_sums.proofs.laws.shown_or_unlucky.Goals as goal

pub returns : goal.returns
returns g c label statement bytes tables addends point value m d n ps most small is reduced coefficients (rounds, last, proof, at, left) (x, there, found) =
    let E = g.F.Challenge in
    let L = E.Field.field in
    let t = sum_over (checked_by g.F.WordElement.spelled L (E.Spelled.format Yes) E.Field.element_size E.ChallengeOf.DEGREE g.F.PrimeNumbers.numbering.number E.ChallengeOf.coefficients) m tables ps in
    let one = c.one_list_of_elements.ensures in
    let points = one point (challenges rounds) x at there in
    let values = ap (first last) (one value (last ∷ []) (sum_value L t x ∷ []) left found) in
    elim (c.true_or_one_of_few.ensures label statement bytes tables addends m d n ps rounds last most small is reduced coefficients proof (values ∙ ap (sum_value L t) (sym points))) [
      | inl true_sum ↦ inl true_sum
      | inr few ↦ inr (rounds, last, proof, few)
    ]
