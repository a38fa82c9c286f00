use Rattle.std.proofs.Common.{◌≡◌, IsErrAnd, sym, ap, subst, ◌∙◌}
use Rattle.ark_bytes.specs.declared.compress.Compress.TheVariants.{Yes}
use Rattle.ark_numbers.specs.Fields.{operations}
use Rattle.ark_numbers.proofs.Values.{number_field}
use Rattle.ark_sum_check.specs.Cube.{cube_sum}
use Rattle.ark_sum_check.specs.Embedded.{embedded_sum}
use Rattle.ark_sum_check.specs.Provers.{sum_of}
use Rattle.ark_word_sums.specs.Proofs.{sum_over}
use Rattle.ark_word_sums.specs.Sums.{sum_by}
use Rattle.ark_word_sums.proofs.Made.{checked_by, made_length, made_proof, sum_within, total_within}
use Rattle.ark_word_sums.proofs.Numbers.{by_number, number_of_cube_sum}
use Rattle.ark_word_sums.proofs.SumFaults.{for_memory}
use Rattle.ark_word_sums.proofs.prover.proof_of_sum.Goals as goal

pub returns-in_err-first-clause-fault : goal.returns-in_err-first-clause-fault
returns-in_err-first-clause-fault g c =
    for_memory g.F.WordElement.spelled c.args.num_vars c.args.degree c.args.tables.now c.args.addends.now c.from_residual-in_err-first.result
    c.in_ok-prover.ensures.taken c.from_residual-in_err-first.ensures.1

pub returns-in_err-total-clause-fault : goal.returns-in_err-total-clause-fault
returns-in_err-total-clause-fault g c =
    for_memory g.F.WordElement.spelled c.args.num_vars c.args.degree c.args.tables.now c.args.addends.now c.from_residual-in_err-total.result
    c.in_ok-prover.ensures.taken c.from_residual-in_err-total.ensures.1

pub returns-in_err-made-clause-fault : goal.returns-in_err-made-clause-fault
returns-in_err-made-clause-fault g c =
    for_memory g.F.WordElement.spelled c.args.num_vars c.args.degree c.args.tables.now c.args.addends.now c.from_residual-in_err-made.result
    c.in_ok-prover.ensures.taken c.from_residual-in_err-made.ensures.1

pub returns-in_err-bytes-clause-fault : goal.returns-in_err-bytes-clause-fault
returns-in_err-bytes-clause-fault g c =
    let r = c.from_residual-in_err-bytes.result in
    for_memory g.F.WordElement.spelled c.args.num_vars c.args.degree c.args.tables.now c.args.addends.now r
    c.in_ok-prover.ensures.taken (subst (λ e. IsErrAnd r (λ x. x ≡ e)) c.in_err-bytes.ensures.memory c.from_residual-in_err-bytes.ensures.1)

-- by its number
pub returns-clause-sum : goal.returns-clause-sum
returns-clause-sum g c ps spelled =
    let F = g.F.PrimeNumbers in
    let laws = g.met.F.PrimeNumbers in
    let S = number_field F.numbering F.prime laws.field_law laws.generator_law laws.root_law g.met.F.FftField.roots_law in
    let s = sum_of g.F.Field.field c.in_ok-prover.prover in
    let m = c.args.num_vars in
    let t = sum_by g.F.WordElement.spelled m c.args.tables.now ps in
    number_of_cube_sum S m s t c.in_ok-total.total
    (c.in_ok-total.ensures.sum ∙ ap (λ k. cube_sum g.F.Field.field k s) c.in_ok-prover.ensures.variables)
    (c.in_ok-prover.ensures.sum ps spelled)
    ∙ sym (ap (λ f. cube_sum (operations f.known) m t) g.met.F.WordElement.spelled_law)

pub returns-clause-proof : goal.returns-clause-proof
returns-clause-proof g c ps spelled =
    let F = g.F.PrimeNumbers in
    let E = g.F.Challenge in
    let laws = g.met.F.PrimeNumbers in
    let S = number_field F.numbering F.prime laws.field_law laws.generator_law laws.root_law g.met.F.FftField.roots_law in
    let f = g.F.WordElement.spelled in
    let L = E.Field.field in
    let w = E.ExtensionOf.within in
    let embeds = g.met.F.Challenge.ExtensionOf.embeds in
    let checked = checked_by f L (E.Spelled.format Yes) E.Field.element_size E.ChallengeOf.DEGREE F.numbering.number E.ChallengeOf.coefficients in
    let prover = c.in_ok-prover.prover in
    let variables = c.in_ok-prover.ensures.variables in
    let s = sum_of g.F.Field.field prover in
    let m = c.args.num_vars in
    let total = c.in_ok-total.total in
    let of_number = sym (by_number S L w embeds total) in
    made_proof checked m c.args.degree c.in_ok-made.made.proof c.in_ok-made.made.point.items
    (c.in_ok-made.ensures.rounds ∙ variables) (c.in_ok-made.ensures.point ∙ variables) c.in_ok-bytes.bytes.items c.in_ok-bytes.ensures.bytes
    c.args.label.now c.args.statement.now (F.numbering.number total) prover.variables _ (w total) _ (embedded_sum w s) (sum_over checked m c.args.tables.now ps)
    c.transcript_of-transcript.result c.prove_transcript_within_from.new.transcript
    variables c.in_ok-prover.ensures.degree of_number
    (total_within S L w embeds prover.variables s total c.in_ok-total.ensures.sum)
    (sum_within S L w embeds s (sum_by f m c.args.tables.now ps) (c.in_ok-prover.ensures.sum ps spelled))
    c.transcript_of-transcript.ensures
    c.in_ok-made.ensures.derived
    c.in_ok-made.ensures.accepted

pub returns-clause-size : goal.returns-clause-size
returns-clause-size g c =
    let E = g.F.Challenge in
    let checked = checked_by g.F.WordElement.spelled E.Field.field (E.Spelled.format Yes) E.Field.element_size E.ChallengeOf.DEGREE g.F.PrimeNumbers.numbering.number E.ChallengeOf.coefficients in
    let variables = c.in_ok-prover.ensures.variables in
    made_length checked c.args.num_vars c.args.degree c.in_ok-made.made.proof c.in_ok-made.made.point.items
    (c.in_ok-made.ensures.rounds ∙ variables) (c.in_ok-made.ensures.point ∙ variables) c.in_ok-bytes.bytes.items c.in_ok-bytes.ensures.bytes
    _ (embedded_sum E.ExtensionOf.within (sum_of g.F.Field.field c.in_ok-prover.prover)) c.in_ok-prover.ensures.degree
    (g.met.F.Challenge.Field.elements_law Yes)
    c.in_ok-made.ensures.truth
