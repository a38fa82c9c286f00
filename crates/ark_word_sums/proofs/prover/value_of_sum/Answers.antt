use Rattle.std.proofs.Common.{◌<◌, Err, length, sym, ap, ap₂, subst, ◌∙◌}
use Rattle.std.proofs.lemmas.List.{length-map}
use Rattle.ark_bytes.specs.declared.compress.Compress.TheVariants.{Yes}
use Rattle.ark_numbers.proofs.Values.{number_field}
use Rattle.ark_sum_check.specs.Cube.{sum_value}
use Rattle.ark_sum_check.specs.Provers.{sum_of}
use Rattle.ark_words.specs.Numbers.{AreReduced}
use Rattle.ark_word_sums.specs.Faults.{IsSumFault, of_words}
use Rattle.ark_word_sums.specs.declared.error.SumsError.TheVariants.{Memory}
use Rattle.ark_word_sums.specs.Sums.{HasSum, IsReducedSum, sum_by}
use Rattle.ark_word_sums.proofs.Made.{checked_by, sum_within}
use Rattle.ark_word_sums.proofs.PointWords.{length_of_point, point_below, whole_point}
use Rattle.ark_word_sums.proofs.SumFaults.{fault_at, fault_of_point, fault_of_prover, for_error}
use Rattle.ark_word_sums.proofs.Spelling.{modulus_is, width_is}
use Rattle.ark_word_sums.proofs.prover.value_of_sum.Goals as goal

pub returns-in-Err-clause-fault : goal.returns-in-Err-clause-fault
returns-in-Err-clause-fault g c =
    let f = g.F.WordElement.spelled in
    let h = c.in-Err.ensures in
    let A = HasSum f c.args.num_vars c.args.degree c.args.tables.now c.args.addends.now in
    let R = IsReducedSum f c.args.num_vars c.args.degree c.args.tables.now c.args.addends.now in
    fault_at A R (AreReduced f c.args.point.now) c.in-Err.error c.refusal_at.result
    (fault_of_prover A R c.in-Err.error (λ q. h.addends.0 (ap Err q)) h.refusal h.spelled)
    c.refusal_at.ensures.memory c.refusal_at.ensures.other

pub challenges-requires : goal.challenges-requires
challenges-requires g c =
    let width = width_is g.F.WordElement.spelled g.F.WordElement.WIDTH _ g.met.F.WordElement.spelled_law in
    whole_point (length c.args.point.now) c.args.num_vars g.F.Challenge.ChallengeOf.DEGREE g.F.WordElement.spelled.width
    g.met.F.Challenge.ChallengeOf.positive_law (subst (λ n. 0 < n) (sym width) g.met.F.WordElement.width_law) c.requires.elements

pub returns-in_err-point-clause-fault : goal.returns-in_err-point-clause-fault
returns-in_err-point-clause-fault g c =
    let f = g.F.WordElement.spelled in
    let A = HasSum f c.args.num_vars c.args.degree c.args.tables.now c.args.addends.now in
    let R = IsReducedSum f c.args.num_vars c.args.degree c.args.tables.now c.args.addends.now in
    let P = AreReduced f c.args.point.now in
    let taken = c.in-Ok.ensures.taken in
    let e = c.in_err-point.field-0.0 in
    for_error (IsSumFault A (R × P)) c.from_residual.result (of_words e) c.from_residual.ensures.1
    (fault_of_point A R P e (taken.1, taken.2) taken c.in_err-point.ensures.refusal)

pub value_within-requires : goal.value_within-requires
value_within-requires g c =
    let E = g.F.Challenge in
    let f = g.F.WordElement.spelled in
    let number = g.F.PrimeNumbers.numbering.number in
    let checked = checked_by f E.Field.field (E.Spelled.format Yes) E.Field.element_size E.ChallengeOf.DEGREE number E.ChallengeOf.coefficients in
    let width = width_is f g.F.WordElement.WIDTH _ g.met.F.WordElement.spelled_law in
    ap length c.deref.ensures.value
    ∙ length_of_point checked c.in_ok-point.point.items c.args.point.now c.in_ok-point.ensures.elements c.args.num_vars
    (λ x. length-map (E.ChallengeOf.coefficients x) number ∙ g.met.F.Challenge.ChallengeOf.degree_law x)
    g.met.F.Challenge.ChallengeOf.positive_law (subst (λ n. 0 < n) (sym width) g.met.F.WordElement.width_law) c.requires.elements
    ∙ sym c.in-Ok.ensures.variables

pub returns-in_err-value_within-clause-fault : goal.returns-in_err-value_within-clause-fault
returns-in_err-value_within-clause-fault g c =
    let f = g.F.WordElement.spelled in
    let F = g.F.PrimeNumbers in
    let A = HasSum f c.args.num_vars c.args.degree c.args.tables.now c.args.addends.now in
    let R = IsReducedSum f c.args.num_vars c.args.degree c.args.tables.now c.args.addends.now in
    let P = AreReduced f c.args.point.now in
    let modulus = modulus_is f g.F.WordElement.WIDTH _ g.met.F.WordElement.spelled_law in
    let taken = c.in-Ok.ensures.taken in
    let below = point_below f F.modulus F.numbering.number g.F.Challenge.ChallengeOf.coefficients c.in_ok-point.point.items c.args.point.now modulus F.numbering.below c.in_ok-point.ensures.elements in
    for_error (IsSumFault A (R × P)) c.from_residual-in_err-value_within.result Memory c.from_residual-in_err-value_within.ensures.1 ((taken.1, taken.2), (taken, below))

pub returns-clause-value : goal.returns-clause-value
returns-clause-value g c ps spelled =
    let F = g.F.PrimeNumbers in
    let E = g.F.Challenge in
    let laws = g.met.F.PrimeNumbers in
    let S = number_field F.numbering F.prime laws.field_law laws.generator_law laws.root_law g.met.F.FftField.roots_law in
    let s = sum_of g.F.Field.field c.in-Ok.prover in
    let t = sum_by g.F.WordElement.spelled c.args.num_vars c.args.tables.now ps in (
      c.in_ok-point.point.items,
      c.in_ok-point.ensures.elements,
      c.in_ok-value_within.ensures.value
          ∙ ap₂ (sum_value E.Field.field)
          (sum_within S E.Field.field E.ExtensionOf.within g.met.F.Challenge.ExtensionOf.embeds s t (c.in-Ok.ensures.sum ps spelled))
          c.deref.ensures.value,
    )

pub returns-clause-taken : goal.returns-clause-taken
returns-clause-taken g c =
    let f = g.F.WordElement.spelled in
    let F = g.F.PrimeNumbers in
    let modulus = modulus_is f g.F.WordElement.WIDTH _ g.met.F.WordElement.spelled_law in (
      c.in-Ok.ensures.taken,
      point_below f F.modulus F.numbering.number g.F.Challenge.ChallengeOf.coefficients c.in_ok-point.point.items c.args.point.now modulus F.numbering.below c.in_ok-point.ensures.elements,
    )
