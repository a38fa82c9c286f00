use Rattle.std.proofs.Common.{◌+◌, arith, sym, subst, ◌∙◌}
use Rattle.ark_bytes.specs.declared.compress.Compress.{Compress}
use Rattle.ark_math.specs.Field.{natural}
use Rattle.ark_numbers.proofs.Values.{number_field}
use Rattle.ark_sum_check.specs.Rounds.{AreAccepted}
use Rattle.ark_fiat_shamir.specs.Derived.{IsRoundChallenge, after_claim}
use Rattle.ark_fiat_shamir.proofs.Determined.{determined}
use Rattle.ark_word_sums.specs.Proofs.{begun}
use Rattle.ark_word_sums.proofs.OneReduction.{one_last, one_rounds, one_values}
use Rattle.ark_word_sums.proofs.SoundInNumbers.{different}
use Rattle.ark_word_sums.proofs.laws.one_reduction.Goals as goal

pub returns : goal.returns
returns g c label statement bytes m d n rounds others last other small p q =
    let F = g.F.PrimeNumbers in
    let laws = g.met.F.PrimeNumbers in
    let S = number_field F.numbering F.prime laws.field_law laws.generator_law laws.root_law g.met.F.FftField.roots_law in
    let L = g.F.Challenge.Field.field in
    let e = g.F.Challenge.Spelled.format Compress.Yes in
    let size = g.F.Challenge.Field.element_size in
    let A = g.met.F.Challenge.Field.elements_law Compress.Yes in
    let values = one_values L e size A d (natural L n) rounds others last other (p.count ∙ sym q.count) p.accepted q.accepted (sym p.spelled ∙ q.spelled) in
    let same = one_rounds (IsRoundChallenge L e size) (determined L e size A)
    (after_claim e (record { num_vars = m; degree = d; sum = natural L n }) (begun label statement)) p.after q.after rounds others values p.derived q.derived in
    let apart = different S L g.F.Challenge.ExtensionOf.within g.met.F.Challenge.ExtensionOf.embeds (d + 1) (omega (arith, small, g.met.F.SumElement.large_law)) in
    (same, one_last L g.met.F.Challenge.Field.field_laws d apart (natural L n) rounds last other p.accepted (subst (λ rs. AreAccepted L d (natural L n) rs other) (sym same) q.accepted))
