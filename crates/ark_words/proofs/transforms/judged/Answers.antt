use Rattle.std.proofs.Common.{◌<◌, All, sym, subst, IfErr, refl}
use Rattle.ark_words.specs.Faults.{IsFault}
use Rattle.ark_words.specs.Numbers.{HaveLengths, HaveReduced, HaveDomain, AreTransformable}
use Rattle.ark_words.proofs.Faults.{for_error, refused_memory, refusal_more}
use Rattle.ark_numbers.proofs.Values.{number_field, not_zero}
use Rattle.ark_words.proofs.Multiples.{scaled}
use Rattle.ark_words.proofs.WordLists.{all_below}
use Rattle.ark_words.proofs.transforms.judged.Goals as goal

pub returns-in_err-scaled_elements-clause-fault : goal.returns-in_err-scaled_elements-clause-fault
returns-in_err-scaled_elements-clause-fault g c =
    let F = g.F.PrimeNumbers in
    let laws = g.met.F.PrimeNumbers in
    let S = number_field F.numbering F.prime laws.field_law laws.generator_law laws.root_law g.met.F.FftField.roots_law in
    let words = c.args.words.now in
    let offset = c.args.offset.now in
    let whole = rw c.WIDTH-width.ensures at c.if-words-width-ne0.false in
    let one = rw c.WIDTH-width.ensures at c.if-offset-width.false in
    let below = subst (λ n. n < F.modulus) c.in-Some.ensures.some (F.numbering.below c.in-Some.offset) in
    let found = rw c.WIDTH-width.ensures at c.in-Some-exact_domain.ensures.some in
    let some = found.0 refl in
    subst (λ f. IfErr c.from_residual.result (IsFault (HaveLengths f words offset) (HaveReduced f words offset) (HaveDomain f words offset))) (sym g.met.F.WordElement.spelled_law)
    (for_error _ c.from_residual.result c.in_err-scaled_elements.field-0.0 c.from_residual.ensures.1
    (refused_memory _ _ _ c.in_err-scaled_elements.field-0.0 (whole, one) (some.0, not_zero S c.in-Some.offset _ c.in-Some.ensures.some some.1)
    (refusal_more _ _ _ _ below c.in_err-scaled_elements.ensures.refusal)))

pub returns-clause-taken : goal.returns-clause-taken
returns-clause-taken g c =
    let F = g.F.PrimeNumbers in
    let laws = g.met.F.PrimeNumbers in
    let S = number_field F.numbering F.prime laws.field_law laws.generator_law laws.root_law g.met.F.FftField.roots_law in
    let whole = rw c.WIDTH-width.ensures at c.if-words-width-ne0.false in
    let one = rw c.WIDTH-width.ensures at c.if-offset-width.false in
    let all = subst (All (λ x. x < F.modulus)) c.in_ok-scaled_elements.ensures.numbers (all_below (scaled S g.F.WordElement.unit) (λ x. F.numbering.below (g.F.Field.field.times g.F.WordElement.unit x)) c.in_ok-scaled_elements.field-0.items) in
    let below = subst (λ n. n < F.modulus) c.in-Some.ensures.some (F.numbering.below c.in-Some.offset) in
    let found = rw c.WIDTH-width.ensures at c.in-Some-exact_domain.ensures.some in
    let some = found.0 refl in
    subst (λ f. AreTransformable f c.args.words.now c.args.offset.now) (sym g.met.F.WordElement.spelled_law)
    ((whole, one), (all, below), (some.0, not_zero S c.in-Some.offset _ c.in-Some.ensures.some some.1))
