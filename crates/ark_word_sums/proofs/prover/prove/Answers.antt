use Rattle.std.proofs.Common.{sym, subst₂, ◌∙◌}
use Rattle.ark_bytes.specs.declared.compress.Compress.TheVariants.{Yes}
use Rattle.ark_word_sums.specs.Proofs.{ProvesNumber}
use Rattle.ark_word_sums.proofs.Made.{checked_by}
use Rattle.ark_word_sums.proofs.prover.prove.Goals as goal

pub returns-clause-proof : goal.returns-clause-proof
returns-clause-proof g c ps spelled =
    let E = g.F.Challenge in
    let checked = checked_by g.F.WordElement.spelled E.Field.field (E.Spelled.format Yes) E.Field.element_size E.ChallengeOf.DEGREE g.F.PrimeNumbers.numbering.number E.ChallengeOf.coefficients in
    subst₂ (ProvesNumber checked c.args.label.now c.args.statement.now c.args.num_vars c.args.degree c.args.tables.now ps)
    (sym c.write_words.ensures)
    (sym (c.copy_from_slice.ensures.after ∙ c.deref.ensures.value))
    (c.in_ok-total.ensures.proof ps spelled)
