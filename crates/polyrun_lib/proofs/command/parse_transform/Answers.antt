use Rattle.std.proofs.Common.{[], get_or, refl, sym, ap, subst, ◌∙◌}
use Rattle.std.specs.Prelude.{string_bytes}
use Rattle.polyrun_lib.specs.Words.{IsList}
use Rattle.polyrun_lib.proofs.Commands.{map-three}
use Rattle.polyrun_lib.proofs.command.parse_transform.Goals as goal

pub returns-in_err-list_word-clause-none : goal.returns-in_err-list_word-clause-none
returns-in_err-list_word-clause-none c =
    let words = map-three string_bytes c.args.words.now _ _ _ c.in-len3.len_at_least c.in-len3.len_below c.size-item.is c.offset-item.is c.list-item.is in
    rw c.from_residual-in_err-list_word.ensures
    (λ k h xs taken. c.in_err-list_word.ensures.none xs (subst (λ w. IsList w xs) (ap (λ l. get_or l 2 []) (sym taken.3 ∙ words) ∙ sym c.as_str-3.ensures.value) taken.6))

pub returns-clause-some : goal.returns-clause-some
returns-clause-some c =
    let words = map-three string_bytes c.args.words.now _ _ _ c.in-len3.len_at_least c.in-len3.len_below c.size-item.is c.offset-item.is c.list-item.is in
    let size = c.in_ok-number_word.ensures.some in
    let offset = c.in_ok-number_word-2.ensures.some in
    let list = c.in_ok-list_word.ensures.some in (
      size.1.0,
      offset.1.0,
      list.1.0,
      (c.as_str.result.now, c.as_str-2.result.now, c.as_str-3.result.now, rw (c.as_str.ensures.value, c.as_str-2.ensures.value, c.as_str-3.ensures.value) words, size.1.1, offset.1.1, list.1.1),
      (size.1.0, offset.1.0, list.1.0, rw size.0 size.1.1, rw offset.0 offset.1.1, rw list.0 list.1.1, refl),
    )
