use Rattle.std.proofs.Common.{◌≡◌, ◌≢◌, ◌+◌, ◌≤◌, Err, length, arith, ap, sym, subst, ◌∙◌, ⊎_elim}
use Rattle.std.proofs.lemmas.Bool.{cases_eq}
use Rattle.std.proofs.lemmas.List.{length-map}
use Rattle.ark_bytes.specs.declared.compress.Compress.{Compress}
use Rattle.ark_math_formats.specs.Format.{list}
use Rattle.ark_numbers.proofs.Values.{number_field}
use Rattle.ark_sum_check.specs.Rounds.{AreAccepted, challenges, rounds_at}
use Rattle.ark_sum_check.proofs.Accepted.{length-challenges}
use Rattle.ark_sum_check.proofs.Verified.{challenges-rounds_at, length-rounds_at}
use Rattle.ark_fiat_shamir.specs.Derived.{AreDerived}
use Rattle.ark_word_sums.proofs.Bytes.{values_at}
use Rattle.ark_word_sums.proofs.OneReduction.{counted}
use Rattle.ark_word_sums.proofs.ReadProofs.{rounds_again, values_read}
use Rattle.ark_word_sums.proofs.SoundInNumbers.{different}
use Rattle.ark_word_sums.proofs.verifier.reduction.Goals as goal

pub returns-clause-reduced : goal.returns-clause-reduced
returns-clause-reduced g c =
    let L = g.F.Challenge.Field.field in
    let e = g.F.Challenge.Spelled.format Compress.Yes in
    let size = g.F.Challenge.Field.element_size in
    let claim = c.args.claim in
    let vs = c.in_ok-read.read.rounds.items in
    let xs = c.in-Reduced.challenges.items in
    let v = c.in-Ok.ensures in
    let is = c.in-Reduced.is in
    let point : length xs ≡ claim.num_vars = v.point c.in-Reduced.last c.in-Reduced.challenges is in
    let count : length vs ≡ claim.num_vars = ⊎_elim
    (λ (same : length vs ≡ claim.num_vars). same)
    (λ (other : length vs ≢ claim.num_vars). absurd (cc (v.count.1 other, is)))
    (cases_eq (length vs) claim.num_vars) in
    let most : length xs ≤ length vs = omega (arith, point, count) in (
      rounds_at vs xs,
      record {
        count = length-rounds_at vs xs most ∙ point;
        spelled = c.in_ok-read.ensures.spelled ∙ ap (list (list e)).spelling (sym (values_at vs xs (count ∙ sym point)));
        after = c.verify_transcript.new.transcript;
        derived = subst (λ calls. AreDerived L e size claim calls (rounds_at vs xs) c.verify_transcript.new.transcript) c.transcript_of-transcript.ensures
            (v.derived c.in-Reduced.last c.in-Reduced.challenges is);
        accepted = v.accepted c.in-Reduced.last c.in-Reduced.challenges is;
      },
      challenges-rounds_at vs xs most,
    )

pub returns-in_default-clause-refused : goal.returns-in_default-clause-refused
returns-in_default-clause-refused g c refused (rounds, last, p) =
    let L = g.F.Challenge.Field.field in
    let e = g.F.Challenge.Spelled.format Compress.Yes in
    let size = g.F.Challenge.Field.element_size in
    let A = g.met.F.Challenge.Field.elements_law Compress.Yes in
    let claim = c.args.claim in
    let read = c.in_ok-read.read in
    let vs = read.rounds.items in
    let values = values_read e (g.F.Challenge.Spelled.format_law Compress.Yes) A.one_to_one A.all read rounds (claim.degree + 1)
    (omega (arith, p.count, c.requires.variables)) (omega (arith, c.requires.degree)) (counted L e size A claim.degree claim.sum rounds last p.accepted)
    (sym p.spelled ∙ c.in_ok-read.ensures.spelled) in
    let again = rounds_again vs rounds values in
    let count : length vs ≡ claim.num_vars = sym (length-map vs (λ v. v.items)) ∙ ap length (sym values) ∙ length-map rounds (λ r. r.values) ∙ p.count in
    let found = c.in-Ok.ensures.complete (challenges rounds) p.after last (length-challenges rounds ∙ p.count) count
    (subst (λ rs. AreDerived L e size claim c.transcript_of-transcript.result rs p.after) (sym again)
    (subst (λ calls. AreDerived L e size claim calls rounds p.after) (sym c.transcript_of-transcript.ensures) p.derived))
    (subst (λ rs. AreAccepted L claim.degree claim.sum rs last) (sym again) p.accepted) in
    c.in_default.not-Reduced last found.0 found.2

pub unreachable-requires : goal.unreachable-requires
unreachable-requires g c =
    let F = g.F.PrimeNumbers in
    let laws = g.met.F.PrimeNumbers in
    let S = number_field F.numbering F.prime laws.field_law laws.generator_law laws.root_law g.met.F.FftField.roots_law in
    let E = g.F.Challenge in
    let refused = c.in-Err-SmallCharacteristic in
    c.verify_transcript.ensures.small (refused.is ∙ ap Err refused.field-0-is)
    (different S E.Field.field E.ExtensionOf.within g.met.F.Challenge.ExtensionOf.embeds (c.args.claim.degree + 1) (omega (arith, c.requires.degree, g.met.F.SumElement.large_law)))
