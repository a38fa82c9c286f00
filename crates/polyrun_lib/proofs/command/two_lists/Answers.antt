use Rattle.std.proofs.Common.{[], get_or, sym, ap, subst, ◌∙◌}
use Rattle.std.specs.Prelude.{string_bytes}
use Rattle.polyrun_lib.specs.Words.{IsList}
use Rattle.polyrun_lib.proofs.Commands.{map-two}
use Rattle.polyrun_lib.proofs.command.two_lists.Goals as goal

pub returns-in_err-list_word-clause-none : goal.returns-in_err-list_word-clause-none
returns-in_err-list_word-clause-none c =
    let words = map-two string_bytes c.args.words.now _ _ c.in-len2.len_at_least c.in-len2.len_below c.left-item.is c.right-item.is in
    rw c.from_residual.ensures
    (λ xs ys taken. c.in_err-list_word.ensures.none xs (subst (λ w. IsList w xs) (ap (λ l. get_or l 0 []) (sym taken.2 ∙ words) ∙ sym c.as_str.ensures.value) taken.3))

pub returns-in_err-list_word-2-clause-none : goal.returns-in_err-list_word-2-clause-none
returns-in_err-list_word-2-clause-none c =
    let words = map-two string_bytes c.args.words.now _ _ c.in-len2.len_at_least c.in-len2.len_below c.left-item.is c.right-item.is in
    rw c.from_residual-in_err-list_word-2.ensures
    (λ xs ys taken. c.in_err-list_word-2.ensures.none ys (subst (λ w. IsList w ys) (ap (λ l. get_or l 1 []) (sym taken.2 ∙ words) ∙ sym c.as_str-2.ensures.value) taken.4))

pub returns-clause-some : goal.returns-clause-some
returns-clause-some c =
    let words = map-two string_bytes c.args.words.now _ _ c.in-len2.len_at_least c.in-len2.len_below c.left-item.is c.right-item.is in
    let left = c.in_ok-list_word.ensures.some in
    let right = c.in_ok-list_word-2.ensures.some in (
      left.1.0,
      right.1.0,
      (c.as_str.result.now, c.as_str-2.result.now, rw (c.as_str.ensures.value, c.as_str-2.ensures.value) words, left.1.1, right.1.1),
      rw left.0 left.1.1,
      rw right.0 right.1.1,
    )
