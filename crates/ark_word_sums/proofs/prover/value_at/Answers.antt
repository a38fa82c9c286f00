use Rattle.ark_bytes.specs.declared.compress.Compress.TheVariants.{Yes}
use Rattle.ark_sum_check.specs.Cube.{sum_value}
use Rattle.ark_word_sums.specs.Proofs.{sum_over}
use Rattle.ark_word_sums.proofs.Made.{checked_by}
use Rattle.ark_word_sums.proofs.PointWords.{one_spelled}
use Rattle.ark_word_sums.proofs.Spelling.{width_is}
use Rattle.ark_word_sums.proofs.prover.value_at.Goals as goal

pub returns-clause-value : goal.returns-clause-value
returns-clause-value g c ps spelled =
    let E = g.F.Challenge in
    let f = g.F.WordElement.spelled in
    let checked = checked_by f E.Field.field (E.Spelled.format Yes) E.Field.element_size E.ChallengeOf.DEGREE g.F.PrimeNumbers.numbering.number E.ChallengeOf.coefficients in
    let read = c.in_ok-found.ensures.value ps spelled in (
      read.0,
      read.1,
      one_spelled checked g.F.WordElement.WIDTH c.in_ok-found.found (sum_value E.Field.field (sum_over checked c.args.num_vars c.args.tables.now ps) read.0) c.put_challenge.new.words
          (width_is f g.F.WordElement.WIDTH _ g.met.F.WordElement.spelled_law) read.2 c.put_challenge.ensures,
    )
