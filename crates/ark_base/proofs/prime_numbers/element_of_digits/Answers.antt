use Rattle.std.proofs.Common.{◌<◌, arith, ap, sym, subst, ◌∙◌}
use Rattle.std.specs.Char.{digit_value}
use Rattle.std.proofs.lemmas.Int.Digits.{digits_more}
use Rattle.ark_base.proofs.Numerals.{horner, digit_of_all}
use Rattle.ark_base.proofs.prime_numbers.element_of_digits.Goals as goal

pub returns-in_err-digit-clause-none : goal.returns-in_err-digit-clause-none
returns-in_err-digit-clause-none g c =
    let base = c.args.base in
    rw c.from_residual.ensures
    (λ all. c.in_err-digit.ensures.value (subst (λ b. digit_value b < base) (sym c.from.ensures) (digit_of_all base c.args.digits.now c.digits.byte-index all c.digits-test.true)))

pub digits-preserved : goal.digits-preserved
digits-preserved g c =
    let F = g.met.F.Field in
    let base = c.args.base in
    let text = c.args.digits.now in
    let i = c.digits.byte-index in
    let digit = c.in_ok-digit.ensures.value in (
      digits_more base text i c.digits-test.true c.digits.invariant.0 (subst (λ b. digit_value b < base) c.from.ensures digit.0),
      F.add_law _ _ _ c.add-number.ensures
          ∙ ap (λ x. g.F.Field.field.plus x c.from-in-digits.result) (F.mul_law _ _ _ c.mul.ensures)
          ∙ horner F.field_laws base text i c.in_ok-digit.digit _ _ _ c.digits-test.true c.digits.invariant.1 (F.from_law _ _ (omega arith) c.from-times.ensures)
          (F.from_law _ _ (omega arith) c.from-in-digits.ensures) (digit.1 ∙ ap digit_value c.from.ensures),
    )
