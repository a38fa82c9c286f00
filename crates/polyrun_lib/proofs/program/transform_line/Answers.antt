use Rattle.std.proofs.Common.{◌≡◌, ◌∙◌, ap, subst, inl, inr, refl}
use Rattle.polyrun_lib.specs.Commands.{transform_of}
use Rattle.polyrun_lib.specs.Outcome.{IsOutcome}
use Rattle.polyrun_lib.proofs.Reading.{IsDecimal-same}
use Rattle.ark_numbers.proofs.Values.{number_field, shown_field, too_long, has_no_domain}
use Rattle.polyrun_lib.proofs.Values.{outcome_line, outcome_error, IsShown, gives_transform, some_transform}
use Rattle.polyrun_lib.proofs.program.transform_line.Goals as goal
use Rattle.polyrun_lib.proofs.program.transform_line.Goals.{in-Forward+in_ok-fft_counted-in-Forward, in-Inverse+in_ok-ifft_counted-in-Inverse}

pub returns-in_err-size : goal.returns-in_err-size
returns-in_err-size g c k h xs size offset list =
    let F = g.F.PrimeNumbers in
    let laws = g.met.F.PrimeNumbers in
    let S = number_field F.numbering F.prime laws.field_law laws.generator_law laws.root_law g.met.F.FftField.roots_law in
    let none = c.in_err-size.ensures in
    let long = rw none.ok_part at c.number.ensures.none in
    let value = rw none.ok_part at none.value in
    outcome_error (shown_field S) (transform_of c.args.direction k h xs) _ _ c.from_residual.ensures.1
    (inl (inl (too_long g.F.FftField.adicity k (long k size)), cc))

pub returns-in_err-domain : goal.returns-in_err-domain
returns-in_err-domain g c k h xs size offset list =
    let F = g.F.PrimeNumbers in
    let laws = g.met.F.PrimeNumbers in
    let S = number_field F.numbering F.prime laws.field_law laws.generator_law laws.root_law g.met.F.FftField.roots_law in
    let n = c.in_ok-size.size in
    let given : n ≡ k = IsDecimal-same c.args.size.now n k (rw c.in_ok-size.ensures.ok_part at c.number.ensures.some) size in
    subst (λ m. IsOutcome (shown_field S) (transform_of c.args.direction m h xs) c.from_residual-in_err-domain.result) given
    (outcome_error (shown_field S) (transform_of c.args.direction n h xs) _ _ c.from_residual-in_err-domain.ensures.1
    (inl (has_no_domain S n h _ (c.element.ensures h offset) c.in_err-domain.ensures.cause, c.in_err-domain.ensures.error)))

pub returns-in_err-items : goal.returns-in_err-items
returns-in_err-items g c k h xs size offset list =
    let F = g.F.PrimeNumbers in
    let laws = g.met.F.PrimeNumbers in
    let S = number_field F.numbering F.prime laws.field_law laws.generator_law laws.root_law g.met.F.FftField.roots_law in
    let n = c.in_ok-size.size in
    let given : n ≡ k = IsDecimal-same c.args.size.now n k (rw c.in_ok-size.ensures.ok_part at c.number.ensures.some) size in
    let d = c.in_ok-domain.ensures in
    let offset_is = ap F.numbering.number d.offset ∙ c.element.ensures h offset in
    subst (λ m. IsOutcome (shown_field S) (transform_of c.args.direction m h xs) c.from_residual-in_err-items.result) given
    (outcome_error (shown_field S) (transform_of c.args.direction n h xs) _ _ c.from_residual-in_err-items.ensures.1
    (inr (some_transform S c.args.direction _ n h xs d.chosen d.lawful offset_is, refl)))

pub returns-in_err-fft_counted-in-Forward : goal.returns-in_err-fft_counted-in-Forward
returns-in_err-fft_counted-in-Forward g c k h xs size offset list =
    let F = g.F.PrimeNumbers in
    let laws = g.met.F.PrimeNumbers in
    let S = number_field F.numbering F.prime laws.field_law laws.generator_law laws.root_law g.met.F.FftField.roots_law in
    let n = c.in_ok-size.size in
    let given : n ≡ k = IsDecimal-same c.args.size.now n k (rw c.in_ok-size.ensures.ok_part at c.number.ensures.some) size in
    let d = c.in_ok-domain.ensures in
    let offset_is = ap F.numbering.number d.offset ∙ c.element.ensures h offset in
    subst (λ m. IsOutcome (shown_field S) (transform_of c.args.direction m h xs) c.from_residual-in_err-fft_counted-in-Forward.result) given
    (outcome_error (shown_field S) (transform_of c.args.direction n h xs) _ _ c.from_residual-in_err-fft_counted-in-Forward.ensures.1
    (inr (some_transform S c.args.direction _ n h xs d.chosen d.lawful offset_is, c.in_err-fft_counted-in-Forward.ensures.memory)))

pub returns-in_err-ifft_counted-in-Inverse : goal.returns-in_err-ifft_counted-in-Inverse
returns-in_err-ifft_counted-in-Inverse g c k h xs size offset list =
    let F = g.F.PrimeNumbers in
    let laws = g.met.F.PrimeNumbers in
    let S = number_field F.numbering F.prime laws.field_law laws.generator_law laws.root_law g.met.F.FftField.roots_law in
    let n = c.in_ok-size.size in
    let given : n ≡ k = IsDecimal-same c.args.size.now n k (rw c.in_ok-size.ensures.ok_part at c.number.ensures.some) size in
    let d = c.in_ok-domain.ensures in
    let offset_is = ap F.numbering.number d.offset ∙ c.element.ensures h offset in
    subst (λ m. IsOutcome (shown_field S) (transform_of c.args.direction m h xs) c.from_residual-in_err-ifft_counted-in-Inverse.result) given
    (outcome_error (shown_field S) (transform_of c.args.direction n h xs) _ _ c.from_residual-in_err-ifft_counted-in-Inverse.ensures.1
    (inr (some_transform S c.args.direction _ n h xs d.chosen d.lawful offset_is, c.in_err-ifft_counted-in-Inverse.ensures.memory)))

pub returns : goal.returns
returns g c k h xs size offset list =
    let F = g.F.PrimeNumbers in
    let laws = g.met.F.PrimeNumbers in
    let S = number_field F.numbering F.prime laws.field_law laws.generator_law laws.root_law g.met.F.FftField.roots_law in
    let n = c.in_ok-size.size in
    let given : n ≡ k = IsDecimal-same c.args.size.now n k (rw c.in_ok-size.ensures.ok_part at c.number.ensures.some) size in
    let d = c.in_ok-domain.ensures in
    let offset_is = ap F.numbering.number d.offset ∙ c.element.ensures h offset in
    let V = g.F.DomainCoeff.group in
    let meaning = g.F.DomainCoeff.meaning in
    let items = c.in_ok-items.items.items in
    let shown : IsShown S V meaning c.args.direction _ items c.match-direction.items.items = elim c.match-direction.branch [
      | in-Forward+in_ok-fft_counted-in-Forward w ↦ rw (w.in-Forward.is, w.items-is) w.in_ok-fft_counted-in-Forward.ensures.transform
      | in-Inverse+in_ok-ifft_counted-in-Inverse w ↦ rw (w.in-Inverse.is, w.items-is) w.in_ok-ifft_counted-in-Inverse.ensures.inverse
    ] in
    subst (λ m. IsOutcome (shown_field S) (transform_of c.args.direction m h xs) c.element_line.result) given
    (outcome_line (shown_field S) (transform_of c.args.direction n h xs) _ _
    (gives_transform S V meaning g.met.F.FftField.itself_law c.args.direction _ n h xs items c.deref.result.now
    d.chosen d.lawful offset_is (c.in_ok-items.ensures xs list) (rw c.deref.ensures.value shown))
    c.element_line.ensures.text c.element_line.ensures.memory)
