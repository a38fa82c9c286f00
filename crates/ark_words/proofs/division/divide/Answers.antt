use Rattle.std.proofs.Common.{◌≡◌, ◌↔◌, ◌<◌, ◌/◌, Result, Err, All, refl, sym, ap, subst, ◌∙◌, rules, true≢false}
use Rattle.ark_math.specs.Univariate.{of_list}
use Rattle.ark_words.specs.declared.error.WordsError.{WordsError}
use Rattle.ark_words.specs.declared.error.WordsError.TheVariants.{Memory, NotReduced, ZeroDivisor}
use Rattle.ark_words.specs.Numbers.{numbers, BothReduced}
use Rattle.ark_words.specs.Products.{FitQuotient, AreZeros, IsDivisible, AreDivided}
use Rattle.ark_numbers.proofs.Values.{number_field}
use Rattle.ark_words.proofs.WordLists.{numbers_below}
use Rattle.ark_words.proofs.Refusals.{numbers_told, refused_zero, no_zero_told}
use Rattle.ark_words.proofs.WordPolynomials.{AreWritten, quotient_written, written_below, nothing_zeros}
use Rattle.ark_words.proofs.division.divide.Goals as goal

pub returns-then-are_zeros-clause-not_reduced : goal.returns-then-are_zeros-clause-not_reduced
returns-then-are_zeros-clause-not_reduced g c =
    let whole = rw c.WIDTH-width.ensures at c.if-dividend-width-ne0.false in
    let divisor_whole = rw c.WIDTH-width.ensures at c.if-divisor-width-ne0.false in
    subst (λ f. (◌≡◌ {A = Result (Unit {0}) WordsError} (Err c.refusal_of_both.result) (Err NotReduced)) ↔ (FitQuotient f c.args.dividend.now c.args.divisor.now c.args.quotient.now c.args.remainder.now × (¬ BothReduced f c.args.dividend.now c.args.divisor.now)))
    (sym g.met.F.WordElement.spelled_law)
    (numbers_told _ _ (Err c.refusal_of_both.result) c.refusal_of_both.result ZeroDivisor (λ e. search rules) (whole, divisor_whole, c.if-quotient-dividend.false, c.if-remainder-divisor.false)
    refl c.refusal_of_both.ensures)

pub returns-then-are_zeros-clause-zero_divisor : goal.returns-then-are_zeros-clause-zero_divisor
returns-then-are_zeros-clause-zero_divisor g c =
    let whole = rw c.WIDTH-width.ensures at c.if-dividend-width-ne0.false in
    let divisor_whole = rw c.WIDTH-width.ensures at c.if-divisor-width-ne0.false in
    subst (λ f. (◌≡◌ {A = Result (Unit {0}) WordsError} (Err c.refusal_of_both.result) (Err ZeroDivisor)) ↔ (FitQuotient f c.args.dividend.now c.args.divisor.now c.args.quotient.now c.args.remainder.now × BothReduced f c.args.dividend.now c.args.divisor.now × AreZeros f c.args.divisor.now))
    (sym g.met.F.WordElement.spelled_law)
    (refused_zero _ _ _ (Err c.refusal_of_both.result) c.refusal_of_both.result (whole, divisor_whole, c.if-quotient-dividend.false, c.if-remainder-divisor.false) (c.are_zeros.ensures.0 c.if-are_zeros.true)
    refl c.refusal_of_both.ensures)

pub returns-in_err-dividend-clause-not_reduced : goal.returns-in_err-dividend-clause-not_reduced
returns-in_err-dividend-clause-not_reduced g c =
    let whole = rw c.WIDTH-width.ensures at c.if-dividend-width-ne0.false in
    let divisor_whole = rw c.WIDTH-width.ensures at c.if-divisor-width-ne0.false in
    subst (λ f. (c.from_residual.result ≡ Err NotReduced) ↔ (FitQuotient f c.args.dividend.now c.args.divisor.now c.args.quotient.now c.args.remainder.now × (¬ BothReduced f c.args.dividend.now c.args.divisor.now)))
    (sym g.met.F.WordElement.spelled_law)
    (numbers_told _ _ c.from_residual.result c.in_err-dividend.field-0.0 Memory (λ e. search rules) (whole, divisor_whole, c.if-quotient-dividend.false, c.if-remainder-divisor.false)
    c.from_residual.ensures.1 c.in_err-dividend.ensures.refusal)

pub returns-in_err-dividend-clause-zero_divisor : goal.returns-in_err-dividend-clause-zero_divisor
returns-in_err-dividend-clause-zero_divisor g c =
    let some : (¬ All (λ x. x ≡ 0) (numbers g.F.WordElement.WIDTH c.args.divisor.now)) = λ all. true≢false (sym (c.are_zeros.ensures.1 all) ∙ c.if-are_zeros.false) in
    subst (λ f. (c.from_residual.result ≡ Err ZeroDivisor) ↔ (FitQuotient f c.args.dividend.now c.args.divisor.now c.args.quotient.now c.args.remainder.now × BothReduced f c.args.dividend.now c.args.divisor.now × AreZeros f c.args.divisor.now))
    (sym g.met.F.WordElement.spelled_law)
    (no_zero_told _ _ _ c.from_residual.result c.in_err-dividend.field-0.0 Memory (λ e. search rules) some c.from_residual.ensures.1 c.in_err-dividend.ensures.refusal)

pub quotient_of-requires : goal.quotient_of-requires
quotient_of-requires g c =
    let F = g.F.PrimeNumbers in
    let laws = g.met.F.PrimeNumbers in
    let S = number_field F.numbering F.prime laws.field_law laws.generator_law laws.root_law g.met.F.FftField.roots_law in
    λ none. true≢false
    (sym (c.are_zeros.ensures.1
    (nothing_zeros S g.F.WordElement.WIDTH c.in_ok-dividend.divisor.items c.args.divisor.now _ c.in_ok-dividend.ensures.right c.from_coefficients_vec-divisor.ensures.coefficients none))
    ∙ c.if-are_zeros.false)

pub returns-clause-quotient : goal.returns-clause-quotient
returns-clause-quotient g c =
    let F = g.F.PrimeNumbers in
    let laws = g.met.F.PrimeNumbers in
    let S = number_field F.numbering F.prime laws.field_law laws.generator_law laws.root_law g.met.F.FftField.roots_law in
    let read = c.in_ok-dividend.ensures in
    let width = g.F.WordElement.WIDTH in
    let quotient = c.put_with_zeros.new.words in
    let remainder = c.put_with_zeros-2.new.words in
    let same_q = c.put_with_zeros.auto.words in
    let same_r = c.put_with_zeros-2.auto.words in
    let whole = of_list g.F.Field.field c.in_ok-whole.whole in
    let rest = of_list g.F.Field.field c.in_ok-whole.rest in
    let written_q : AreWritten S width whole quotient =
    λ i l. c.put_with_zeros.ensures i (subst (λ n. i < n / width) same_q l) ∙ ap (λ items. F.numbering.number (of_list g.F.Field.field items i)) c.coeffs.ensures.same in
    let written_r : AreWritten S width rest remainder =
    λ i l. c.put_with_zeros-2.ensures i (subst (λ n. i < n / width) same_r l) ∙ ap (λ items. F.numbering.number (of_list g.F.Field.field items i)) c.coeffs-2.ensures.same in
    subst (λ f. AreDivided f c.args.dividend.now c.args.divisor.now quotient remainder) (sym g.met.F.WordElement.spelled_law) (
      quotient_written S width c.args.dividend.now c.args.divisor.now quotient remainder c.in_ok-dividend.dividend.items c.in_ok-dividend.divisor.items _ _ whole rest read.left read.right
          c.from_coefficients_vec-dividend.ensures.coefficients c.from_coefficients_vec-divisor.ensures.coefficients c.in_ok-whole.ensures.quotient
          (same_q ∙ c.if-quotient-dividend.false) (same_r ∙ c.if-remainder-divisor.false) written_q written_r,
      written_below S width whole quotient written_q,
      written_below S width rest remainder written_r,
    )

pub returns-in_err-whole-clause-not_reduced : goal.returns-in_err-whole-clause-not_reduced
returns-in_err-whole-clause-not_reduced g c =
    let F = g.F.PrimeNumbers in
    let P = All (λ x. x < F.modulus) in
    let read = c.in_ok-dividend.ensures in
    let reduced = subst (λ f. BothReduced f c.args.dividend.now c.args.divisor.now) (sym g.met.F.WordElement.spelled_law)
    (subst P read.left (numbers_below F.numbering c.in_ok-dividend.dividend.items), subst P read.right (numbers_below F.numbering c.in_ok-dividend.divisor.items)) in
    ((λ e. absurd (search rules)), (λ h. absurd (h.1 reduced)))

pub returns-in_err-whole-clause-zero_divisor : goal.returns-in_err-whole-clause-zero_divisor
returns-in_err-whole-clause-zero_divisor g c =
    let some = subst (λ f. ¬ AreZeros f c.args.divisor.now) (sym g.met.F.WordElement.spelled_law) (λ all. true≢false (sym (c.are_zeros.ensures.1 all) ∙ c.if-are_zeros.false)) in
    ((λ e. absurd (search rules)), (λ h. absurd (some h.2)))

pub returns-clause-taken : goal.returns-clause-taken
returns-clause-taken g c =
    let F = g.F.PrimeNumbers in
    let P = All (λ x. x < F.modulus) in
    let read = c.in_ok-dividend.ensures in
    let whole = rw c.WIDTH-width.ensures at c.if-dividend-width-ne0.false in
    let divisor_whole = rw c.WIDTH-width.ensures at c.if-divisor-width-ne0.false in
    subst (λ f. IsDivisible f c.args.dividend.now c.args.divisor.now c.args.quotient.now c.args.remainder.now) (sym g.met.F.WordElement.spelled_law) (
      (whole, divisor_whole, c.if-quotient-dividend.false, c.if-remainder-divisor.false),
      (subst P read.left (numbers_below F.numbering c.in_ok-dividend.dividend.items), subst P read.right (numbers_below F.numbering c.in_ok-dividend.divisor.items)),
      (λ all. true≢false (sym (c.are_zeros.ensures.1 all) ∙ c.if-are_zeros.false)),
    )

pub returns-clause-not_reduced : goal.returns-clause-not_reduced
returns-clause-not_reduced g c =
    let F = g.F.PrimeNumbers in
    let P = All (λ x. x < F.modulus) in
    let read = c.in_ok-dividend.ensures in
    let reduced = subst (λ f. BothReduced f c.args.dividend.now c.args.divisor.now) (sym g.met.F.WordElement.spelled_law)
    (subst P read.left (numbers_below F.numbering c.in_ok-dividend.dividend.items), subst P read.right (numbers_below F.numbering c.in_ok-dividend.divisor.items)) in
    ((λ e. absurd (search rules)), (λ h. absurd (h.1 reduced)))

pub returns-clause-zero_divisor : goal.returns-clause-zero_divisor
returns-clause-zero_divisor g c =
    let some = subst (λ f. ¬ AreZeros f c.args.divisor.now) (sym g.met.F.WordElement.spelled_law) (λ all. true≢false (sym (c.are_zeros.ensures.1 all) ∙ c.if-are_zeros.false)) in
    ((λ e. absurd (search rules)), (λ h. absurd (some h.2)))
