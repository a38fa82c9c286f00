use Rattle.std.proofs.Common.{[], get_or, refl, sym, ap, subst, ◌∙◌}
use Rattle.std.specs.Prelude.{string_bytes}
use Rattle.polyrun_lib.specs.declared.command.Direction.TheVariants.{Forward, Inverse}
use Rattle.ark_base.specs.Numerals.{IsDecimal}
use Rattle.polyrun_lib.specs.Words.{IsList}
use Rattle.polyrun_lib.specs.Commands.{product_of, division_of, value_of, size_for}
use Rattle.polyrun_lib.proofs.Commands.{IfNone-weaker, map-first, map-one, map-two, reads, not_transform, not_multiplied, not_divided, not_evaluated, not_extended}
use Rattle.polyrun_lib.proofs.command.parse.Goals as goal

pub returns-in-fft-clause-none : goal.returns-in-fft-clause-none
returns-in-fft-clause-none c = IfNone-weaker _ c.parse_transform.ensures.none
    (not_transform _ _ _ Forward (map-first string_bytes c.args.words.now c.name-item.result c.in-len1-up.len_at_least c.name-item.is) (sym c.as_str.ensures.value ∙ c.in-fft.is))

pub returns-in-ifft-clause-none : goal.returns-in-ifft-clause-none
returns-in-ifft-clause-none c = IfNone-weaker _ c.parse_transform-in-ifft.ensures.none
    (not_transform _ _ _ Inverse (map-first string_bytes c.args.words.now c.name-item.result c.in-len1-up.len_at_least c.name-item.is) (sym c.as_str.ensures.value ∙ c.in-ifft.is))

pub returns-in_err-left-in-mul-clause-none : goal.returns-in_err-left-in-mul-clause-none
returns-in_err-left-in-mul-clause-none c =
    let words = map-first string_bytes c.args.words.now c.name-item.result c.in-len1-up.len_at_least c.name-item.is in
    rw c.from_residual.ensures (not_multiplied _ _ _ words (sym c.as_str.ensures.value ∙ c.in-mul.is) c.in_err-left-in-mul.ensures.none)

pub returns-in_ok-left-in-mul-clause-some : goal.returns-in_ok-left-in-mul-clause-some
returns-in_ok-left-in-mul-clause-some c =
    let words = map-first string_bytes c.args.words.now c.name-item.result c.in-len1-up.len_at_least c.name-item.is in
    let lists = c.in_ok-left-in-mul.ensures.some in
    let command = product_of lists.0 lists.1 in
    (command, reads _ _ _ command words (sym c.as_str.ensures.value ∙ c.in-mul.is) lists.2, (lists.0, lists.1, lists.3, lists.4, refl))

pub returns-in_err-left-in-div-clause-none : goal.returns-in_err-left-in-div-clause-none
returns-in_err-left-in-div-clause-none c =
    let words = map-first string_bytes c.args.words.now c.name-item.result c.in-len1-up.len_at_least c.name-item.is in
    rw c.from_residual-in_err-left-in-div.ensures (not_divided _ _ _ words (sym c.as_str.ensures.value ∙ c.in-div.is) c.in_err-left-in-div.ensures.none)

pub returns-in_ok-left-in-div-clause-some : goal.returns-in_ok-left-in-div-clause-some
returns-in_ok-left-in-div-clause-some c =
    let words = map-first string_bytes c.args.words.now c.name-item.result c.in-len1-up.len_at_least c.name-item.is in
    let lists = c.in_ok-left-in-div.ensures.some in
    let command = division_of lists.0 lists.1 in
    (command, reads _ _ _ command words (sym c.as_str.ensures.value ∙ c.in-div.is) lists.2, (lists.0, lists.1, lists.3, lists.4, refl))

pub returns-in_err-list_word-in-eval-clause-none : goal.returns-in_err-list_word-in-eval-clause-none
returns-in_err-list_word-in-eval-clause-none c =
    let words = map-first string_bytes c.args.words.now c.name-item.result c.in-len1-up.len_at_least c.name-item.is in
    let arguments = map-two string_bytes _ _ _ c.in-len2.len_at_least c.in-len2.len_below c.list-item.is c.point-item.is in
    rw c.from_residual-in_err-list_word-in-eval.ensures
    (not_evaluated _ _ _ words (sym c.as_str.ensures.value ∙ c.in-eval.is)
    (λ xs x taken. c.in_err-list_word-in-eval.ensures.none xs (subst (λ w. IsList w xs) (ap (λ l. get_or l 0 []) (sym taken.2 ∙ arguments) ∙ sym c.as_str-in-eval.ensures.value) taken.3)))

pub returns-in_err-number_word-in-eval-clause-none : goal.returns-in_err-number_word-in-eval-clause-none
returns-in_err-number_word-in-eval-clause-none c =
    let words = map-first string_bytes c.args.words.now c.name-item.result c.in-len1-up.len_at_least c.name-item.is in
    let arguments = map-two string_bytes _ _ _ c.in-len2.len_at_least c.in-len2.len_below c.list-item.is c.point-item.is in
    rw c.from_residual-in_err-number_word-in-eval.ensures
    (not_evaluated _ _ _ words (sym c.as_str.ensures.value ∙ c.in-eval.is)
    (λ xs x taken. c.in_err-number_word-in-eval.ensures.none x (subst (λ w. IsDecimal w x) (ap (λ l. get_or l 1 []) (sym taken.2 ∙ arguments) ∙ sym c.as_str-in-eval-2.ensures.value) taken.4)))

pub returns-in_ok-number_word-in-eval-clause-some : goal.returns-in_ok-number_word-in-eval-clause-some
returns-in_ok-number_word-in-eval-clause-some c =
    let words = map-first string_bytes c.args.words.now c.name-item.result c.in-len1-up.len_at_least c.name-item.is in
    let arguments = map-two string_bytes _ _ _ c.in-len2.len_at_least c.in-len2.len_below c.list-item.is c.point-item.is in
    let list = c.in_ok-list_word-in-eval.ensures.some in
    let point = c.in_ok-number_word-in-eval.ensures.some in
    let command = value_of list.1.0 point.1.0 in (
      command,
      reads _ _ _ command words (sym c.as_str.ensures.value ∙ c.in-eval.is)
          (c.as_str-in-eval.result.now, c.as_str-in-eval-2.result.now, rw (c.as_str-in-eval.ensures.value, c.as_str-in-eval-2.ensures.value) arguments, list.1.1, point.1.1),
      (list.1.0, point.1.0, rw list.0 list.1.1, rw point.0 point.1.1, refl),
    )

pub returns-in-mle-clause-none : goal.returns-in-mle-clause-none
returns-in-mle-clause-none c = IfNone-weaker _ c.parse_extension.ensures.none
    (not_extended _ _ _ (map-first string_bytes c.args.words.now c.name-item.result c.in-len1-up.len_at_least c.name-item.is) (sym c.as_str.ensures.value ∙ c.in-mle.is))

pub returns-in_ok-number_word-in-size-clause-some : goal.returns-in_ok-number_word-in-size-clause-some
returns-in_ok-number_word-in-size-clause-some c =
    let words = map-first string_bytes c.args.words.now c.name-item.result c.in-len1-up.len_at_least c.name-item.is in
    let argument = map-one string_bytes _ _ c.in-len1.len_at_least c.in-len1.len_below c.num_coeffs-item.is in
    let num_coeffs = c.in_ok-number_word-in-size.ensures.some in
    let command = size_for num_coeffs.1.0 in (
      command,
      reads _ _ _ command words (sym c.as_str.ensures.value ∙ c.in-size.is) (c.as_str-in-size.result.now, rw c.as_str-in-size.ensures.value argument, num_coeffs.1.1),
      (num_coeffs.1.0, rw num_coeffs.0 num_coeffs.1.1, refl),
    )
