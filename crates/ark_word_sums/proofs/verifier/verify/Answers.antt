use Rattle.std.proofs.Common.{◌≡◌, Err, map, ap, sym, subst, ◌∙◌}
use Rattle.std.proofs.lemmas.List.{append-nil}
use Rattle.ark_bytes.specs.declared.compress.Compress.{Compress}
use Rattle.ark_math.specs.Field.{natural}
use Rattle.ark_math.specs.Words.{number_of_words}
use Rattle.ark_numbers.proofs.Values.{number_field}
use Rattle.ark_words.specs.Numbers.{numbers}
use Rattle.ark_word_sums.specs.Challenges.{AreElementsOf, Checked}
use Rattle.ark_word_sums.specs.Proofs.{HasProof, IsProof}
use Rattle.ark_word_sums.proofs.Numbers.{by_number}
use Rattle.ark_word_sums.proofs.verifier.verify.Goals as goal

pub returns-in_err-last-clause-refused : goal.returns-in_err-last-clause-refused
returns-in_err-last-clause-refused g c same p =
    let F = g.F.PrimeNumbers in
    let laws = g.met.F.PrimeNumbers in
    let S = number_field F.numbering F.prime laws.field_law laws.generator_law laws.root_law g.met.F.FftField.roots_law in
    let L = g.F.Challenge.Field.field in
    let C : Checked g.row.F-Challenge.Denot = record {
      spelled = g.F.WordElement.spelled;
      field = L;
      format = g.F.Challenge.Spelled.format Compress.Yes;
      size = g.F.Challenge.Field.element_size;
      degree = g.F.Challenge.ChallengeOf.DEGREE;
      coefficients = λ x. map g.F.PrimeNumbers.numbering.number (g.F.Challenge.ChallengeOf.coefficients x);
    } in
    let error = rw same at c.from_residual.ensures.1 in
    let sum : natural L (number_of_words c.args.sum.now) ≡ c.embed.result =
    ap (natural L) (sym c.in-Some.ensures.some) ∙ by_number S L g.F.Challenge.ExtensionOf.within g.met.F.Challenge.ExtensionOf.embeds c.in-Some.total ∙ sym c.embed.ensures in
    c.in_err-last.ensures.refused (ap Err (sym error))
    (subst (λ s. HasProof C c.args.label.now c.args.statement.now (record { num_vars = c.args.num_vars; degree = c.args.degree; sum = s }) c.args.proof.now) sum p)

pub returns-clause-reduced : goal.returns-clause-reduced
returns-clause-reduced g c =
    let F = g.F.PrimeNumbers in
    let laws = g.met.F.PrimeNumbers in
    let S = number_field F.numbering F.prime laws.field_law laws.generator_law laws.root_law g.met.F.FftField.roots_law in
    let L = g.F.Challenge.Field.field in
    let C : Checked g.row.F-Challenge.Denot = record {
      spelled = g.F.WordElement.spelled;
      field = L;
      format = g.F.Challenge.Spelled.format Compress.Yes;
      size = g.F.Challenge.Field.element_size;
      degree = g.F.Challenge.ChallengeOf.DEGREE;
      coefficients = λ x. map g.F.PrimeNumbers.numbering.number (g.F.Challenge.ChallengeOf.coefficients x);
    } in
    let width : g.F.WordElement.spelled.width ≡ g.F.WordElement.WIDTH = ap (λ f. f.width) g.met.F.WordElement.spelled_law in
    let sum : natural L (number_of_words c.args.sum.now) ≡ c.embed.result =
    ap (natural L) (sym c.in-Some.ensures.some) ∙ by_number S L g.F.Challenge.ExtensionOf.within g.met.F.Challenge.ExtensionOf.embeds c.in-Some.total ∙ sym c.embed.ensures in
    let left = c.in_ok-last.ensures.reduced in (
      left.0,
      c.in_ok-last.last,
      subst (λ s. IsProof C c.args.label.now c.args.statement.now (record { num_vars = c.args.num_vars; degree = c.args.degree; sum = s }) c.args.proof.now left.0 c.in_ok-last.last) (sym sum) left.1,
      subst (λ xs. AreElementsOf C xs c.put_challenges.new.words) (c.deref.ensures.value ∙ sym left.2) c.put_challenges.ensures,
      ap (λ w. numbers w c.put_challenge.new.words) width ∙ c.put_challenge.ensures ∙ sym (append-nil (map F.numbering.number (g.F.Challenge.ChallengeOf.coefficients c.in_ok-last.last))),
    )
