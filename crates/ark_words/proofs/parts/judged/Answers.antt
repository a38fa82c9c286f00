use Rattle.std.proofs.Common.{◌<◌, All, sym, subst, IfErr, refl}
use Rattle.ark_words.specs.Faults.{IsFault}
use Rattle.ark_words.specs.Numbers.{HaveReduced}
use Rattle.ark_words.specs.Parts.{HaveParts}
use Rattle.ark_words.proofs.Faults.{for_error, refused_memory, refusal_more}
use Rattle.ark_words.proofs.Multiples.{scaled}
use Rattle.ark_words.proofs.WordLists.{all_below}
use Rattle.ark_numbers.proofs.Values.{number_field, not_zero}
use Rattle.ark_words.proofs.parts.judged.Goals as goal

pub returns-in_err-scaled_elements-clause-fault : goal.returns-in_err-scaled_elements-clause-fault
returns-in_err-scaled_elements-clause-fault g c =
    let F = g.F.PrimeNumbers in
    let laws = g.met.F.PrimeNumbers in
    let S = number_field F.numbering F.prime laws.field_law laws.generator_law laws.root_law g.met.F.FftField.roots_law in
    let below = subst (λ n. n < F.modulus) c.in-Some.ensures.some (F.numbering.below c.in-Some.offset) in
    let some = c.in-Some-parts_of.ensures.some.0 refl in
    subst (λ f. IfErr c.from_residual.result (IsFault (Unit {0}) (HaveReduced f c.args.words.now c.args.offset.now) (HaveParts f c.args.log_rows c.args.log_columns c.args.offset.now))) (sym g.met.F.WordElement.spelled_law)
    (for_error _ c.from_residual.result c.in_err-scaled_elements.field-0.0 c.from_residual.ensures.1
    (refused_memory _ _ _ c.in_err-scaled_elements.field-0.0 tt (some.0, not_zero S c.in-Some.offset _ c.in-Some.ensures.some some.1)
    (refusal_more _ _ _ _ below c.in_err-scaled_elements.ensures.refusal)))

pub returns-clause-taken : goal.returns-clause-taken
returns-clause-taken g c =
    let F = g.F.PrimeNumbers in
    let laws = g.met.F.PrimeNumbers in
    let S = number_field F.numbering F.prime laws.field_law laws.generator_law laws.root_law g.met.F.FftField.roots_law in
    let all = subst (All (λ x. x < F.modulus)) c.in_ok-scaled_elements.ensures.numbers (all_below (scaled S g.F.WordElement.unit) (λ x. F.numbering.below (g.F.Field.field.times g.F.WordElement.unit x)) c.in_ok-scaled_elements.field-0.items) in
    let below = subst (λ n. n < F.modulus) c.in-Some.ensures.some (F.numbering.below c.in-Some.offset) in
    let some = c.in-Some-parts_of.ensures.some.0 refl in
    subst (λ f. HaveReduced f c.args.words.now c.args.offset.now × HaveParts f c.args.log_rows c.args.log_columns c.args.offset.now) (sym g.met.F.WordElement.spelled_law)
    ((all, below), (some.0, not_zero S c.in-Some.offset _ c.in-Some.ensures.some some.1))
