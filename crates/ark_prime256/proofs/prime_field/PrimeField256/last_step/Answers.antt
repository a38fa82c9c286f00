use Rattle.std.proofs.Common.{refl, inl, inr}
use Rattle.std.proofs.lemmas.Bool.{cases_lt}
use Rattle.ark_prime256.specs.Words.{integer}
use Rattle.ark_prime256.specs.Element.{numbering, field_of}
use Rattle.ark_base.specs.ResiduesLaws.{residues_laws}
use Rattle.ark_prime256.proofs.Element.{read_modulus}
use Rattle.ark_prime256.proofs.Inverses.{first_is_kept, halved_is_kept, lessened_is_kept, turned_is_kept, halved_falls, lessened_falls, turned_falls, right_fits, left_fits, last_is_inverse, modulus_is_zero, multiple_of_modulus}
use Rattle.ark_prime256.proofs.prime_field.PrimeField256.last_step.Goals as goal

pub steps-init : goal.steps-init
steps-init g c =
    let m = g.M.PrimeModulus256 in
    let S = m.modulus in
    let N = numbering {M = g.row.M.Denot} {g = m} S in
    let K = field_of {M = g.row.M.Denot} {g = m} S in
    first_is_kept K (residues_laws N S.numbers.prime) c.args.self m.MODULUS _ c.into_bigint.ensures.natural (modulus_is_zero {M = g.row.M.Denot} {g = m} S) c.into_bigint.ensures.below S.numbers.small
    (read_modulus m S c.MODULUS_WORDS.result c.MODULUS_WORDS.ensures) c.of_word.ensures c.of_word-2.ensures refl refl

pub halved-step-requires-clause-fits : goal.halved-step-requires-clause-fits
halved-step-requires-clause-fits g c =
    let m = g.M.PrimeModulus256 in
    let S = m.modulus in
    let N = numbering {M = g.row.M.Denot} {g = m} S in
    let K = field_of {M = g.row.M.Denot} {g = m} S in
    right_fits K (residues_laws N S.numbers.prime) c.args.self m.MODULUS c.steps.step S.numbers.small c.steps.invariant

pub halved-step-requires-clause-few : goal.halved-step-requires-clause-few
halved-step-requires-clause-few g c = c.steps.invariant.few

pub lessened-step-requires : goal.lessened-step-requires
lessened-step-requires g c =
    let m = g.M.PrimeModulus256 in
    let S = m.modulus in
    let N = numbering {M = g.row.M.Denot} {g = m} S in
    let K = field_of {M = g.row.M.Denot} {g = m} S in
    left_fits K (residues_laws N S.numbers.prime) c.args.self m.MODULUS c.steps.step S.numbers.small c.steps.invariant

pub steps-smaller-then-step-eq0 : goal.steps-smaller-then-step-eq0
steps-smaller-then-step-eq0 g c = halved_falls c.steps.step c.halved-step.result (c.is_zero.ensures.some c.steps-test.true) c.halved-step.ensures

pub steps-preserved-then-step-eq0 : goal.steps-preserved-then-step-eq0
steps-preserved-then-step-eq0 g c =
    let m = g.M.PrimeModulus256 in
    let S = m.modulus in
    let N = numbering {M = g.row.M.Denot} {g = m} S in
    let K = field_of {M = g.row.M.Denot} {g = m} S in
    halved_is_kept K (residues_laws N S.numbers.prime) c.args.self m.MODULUS c.steps.step c.halved-step.result (c.is_zero.ensures.some c.steps-test.true) c.halved-step.ensures c.steps.invariant

pub steps-smaller : goal.steps-smaller
steps-smaller g c =
    elim (cases_lt (integer c.steps.step.left) (integer c.steps.step.right)) [
      | inl less ↦ turned_falls c.steps.step c.lessened-step.result (c.is_zero.ensures.some c.steps-test.true) (c.lessened-step.ensures.turned less)
      | inr more ↦ lessened_falls c.steps.step c.lessened-step.result c.steps.invariant.some (c.lessened-step.ensures.kept more)
    ]

pub steps-preserved : goal.steps-preserved
steps-preserved g c =
    let m = g.M.PrimeModulus256 in
    let S = m.modulus in
    let N = numbering {M = g.row.M.Denot} {g = m} S in
    let K = field_of {M = g.row.M.Denot} {g = m} S in
    let L = residues_laws N S.numbers.prime in
    elim (cases_lt (integer c.steps.step.left) (integer c.steps.step.right)) [
      | inl less ↦ turned_is_kept K L c.args.self m.MODULUS c.steps.step c.lessened-step.result (c.is_zero.ensures.some c.steps-test.true) less (c.lessened-step.ensures.turned less) c.steps.invariant
      | inr more ↦ lessened_is_kept K L c.args.self m.MODULUS c.steps.step c.lessened-step.result (c.lessened-step.ensures.kept more) c.steps.invariant
    ]

pub returns : goal.returns
returns g c =
    let m = g.M.PrimeModulus256 in
    let S = m.modulus in
    let N = numbering {M = g.row.M.Denot} {g = m} S in
    let K = field_of {M = g.row.M.Denot} {g = m} S in
    last_is_inverse K (residues_laws N S.numbers.prime) c.args.self m.MODULUS c.steps.step c.requires (multiple_of_modulus {M = g.row.M.Denot} {g = m} S) (c.is_zero.ensures.zero c.steps-test.false) c.steps.invariant
