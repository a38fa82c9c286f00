use Rattle.std.proofs.Common.{◌≡◌, ◌+◌, ◌*◌, ◌^◌, ◌<◌, ◌≤◌, All, inl, inr, arith, ap, sym, subst, ◌∙◌}
use Rattle.std.specs.List.{AllByRecursion}
use Rattle.ark_math.proofs.Outcomes.Tests.{decided}
use Rattle.ark_math.specs.Field.{natural}
use Rattle.ark_numbers.specs.Fields.{operations}
use Rattle.ark_numbers.proofs.Values.{number_field}
use Rattle.ark_sum_check.specs.Cube.{cube_sum, degree_of}
use Rattle.ark_sum_check.specs.Embedded.{embedded_sum}
use Rattle.ark_sum_check.proofs.Embeddings.{longest_kept}
use Rattle.ark_sum_check.proofs.Unlucky.{true_or_few}
use Rattle.ark_words.specs.Numbers.{numbers}
use Rattle.ark_word_sums.specs.Sums.{sum_by}
use Rattle.ark_word_sums.proofs.SoundInNumbers.{different, in_part, sum_in_numbers}
use Rattle.ark_word_sums.proofs.laws.true_or_one_of_few.Goals as goal

pub returns : goal.returns
returns g c label statement bytes tables addends m d n ps rounds last most small is reduced coefficients p value =
    let F = g.F.PrimeNumbers in
    let laws = g.met.F.PrimeNumbers in
    let S = number_field F.numbering F.prime laws.field_law laws.generator_law laws.root_law g.met.F.FftField.roots_law in
    let L = g.F.Challenge.Field.field in
    let w = g.F.Challenge.ExtensionOf.within in
    let embeds = g.met.F.Challenge.ExtensionOf.embeds in
    let f = g.F.WordElement.spelled in
    let law = g.met.F.WordElement.spelled_law in
    let modulus : f.known.modulus ≡ F.modulus = ap (λ s. s.known.modulus) law in
    let below : n < F.modulus = subst (λ p. n < p) modulus small in
    let read : All (λ x. x < F.modulus) (numbers f.width tables) = subst (λ p. All (λ x. x < p) (numbers f.width tables)) modulus reduced in
    let t = sum_by f m tables ps in
    let kept = longest_kept (natural L) ps in
    let few : degree_of (embedded_sum (natural L) t) ≤ d = omega (arith, is.fits.1, kept) in
    elim (true_or_few L g.met.F.Challenge.Field.field_laws (λ a b. decided _ (g.met.F.Challenge.Field.equality_law a b)) d (natural L n) rounds last (embedded_sum (natural L) t) few
    (λ _. different S L w embeds (d + 1) (omega (arith, most, g.met.F.SumElement.large_law))) p.accepted value) [
      | inl true_sum ↦ inl (
          sum_in_numbers S L w embeds m n t below
          (λ i b. in_part (λ x. x < F.modulus) (numbers f.width tables) (i * 2 ^ m) (2 ^ m) 0 b read (omega (arith, below)))
          (subst (λ p. AllByRecursion (λ a. a.coefficient < p) ps) modulus coefficients)
          (true_sum ∙ ap (λ k. cube_sum L k (embedded_sum (natural L) t)) p.count)
          ∙ ap (λ k. cube_sum (operations k) m t) (sym (ap (λ s. s.known) law)))
      | inr one ↦ inr one
    ]
