use Rattle.std.proofs.Common.{◌<◌, All, sym, subst₂, ◌∙◌, true≢false}
use Rattle.ark_words.specs.Numbers.{numbers}
use Rattle.ark_word_sums.proofs.Spelling.{modulus_is, width_is}
use Rattle.ark_word_sums.proofs.sums.refusal_of_sum.Goals as goal
use Rattle.ark_word_sums.proofs.sums.refusal_of_sum.Goals.{else-are_reduced-via-then-are_reduced+else-are_coefficients, else-are_reduced-via-else-are_reduced}

pub returns-else-are_reduced : goal.returns-else-are_reduced
returns-else-are_reduced g c ps spelled both =
    let f = g.F.WordElement.spelled in
    let modulus = modulus_is f g.F.WordElement.WIDTH _ g.met.F.WordElement.spelled_law in
    let width = width_is f g.F.WordElement.WIDTH _ g.met.F.WordElement.spelled_law in
    elim c.else-are_reduced.branch [
      | else-are_reduced-via-then-are_reduced+else-are_coefficients w ↦ true≢false (sym ((w.are_coefficients.ensures ps spelled).1 both.1) ∙ w.if-are_coefficients.false)
      | else-are_reduced-via-else-are_reduced w ↦
          let reduced = subst₂ (λ p w. All (λ x. x < p) (numbers w c.args.tables.now)) modulus width both.0 in
          true≢false (sym (c.are_reduced.ensures.1 reduced) ∙ w.if-are_reduced.false)
    ]
