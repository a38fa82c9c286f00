use Rattle.std.proofs.Common.{[], get_or, refl, sym, ap, subst, ◌∙◌, arith}
use Rattle.std.specs.Prelude.{string_bytes}
use Rattle.ark_base.specs.Numerals.{IsDecimal}
use Rattle.polyrun_lib.specs.Words.{IsList}
use Rattle.polyrun_lib.proofs.Commands.{map-three}
use Rattle.polyrun_lib.proofs.command.parse_extension.Goals as goal

pub returns-in_err-list-clause-none : goal.returns-in_err-list-clause-none
returns-in_err-list-clause-none c =
    let words = map-three string_bytes c.args.words.now _ _ _ c.in-len3.len_at_least c.in-len3.len_below c.num_vars-item.is c.list-item.is c.point-item.is in
    rw c.from_residual-in_err-list.ensures
    (λ n xs x taken. c.in_err-list.ensures.none xs (subst (λ w. IsList w xs) (ap (λ l. get_or l 1 []) (sym taken.3 ∙ words) ∙ sym c.as_str-2.ensures.value) taken.5))

pub returns-in_err-point-clause-none : goal.returns-in_err-point-clause-none
returns-in_err-point-clause-none c =
    let words = map-three string_bytes c.args.words.now _ _ _ c.in-len3.len_at_least c.in-len3.len_below c.num_vars-item.is c.list-item.is c.point-item.is in
    rw c.from_residual-in_err-point.ensures
    (λ n xs x taken. c.in_err-point.ensures.none x (subst (λ w. IsList w x) (ap (λ l. get_or l 2 []) (sym taken.3 ∙ words) ∙ sym c.as_str-3.ensures.value) taken.6))

pub returns-in_err-num_vars-clause-none : goal.returns-in_err-num_vars-clause-none
returns-in_err-num_vars-clause-none c =
    let words = map-three string_bytes c.args.words.now _ _ _ c.in-len3.len_at_least c.in-len3.len_below c.num_vars-item.is c.list-item.is c.point-item.is in
    rw c.from_residual.ensures
    (λ n xs x taken. let small = taken.7.0 in let large = c.in_err-num_vars.ensures.none n (subst (λ w. IsDecimal w n) (ap (λ l. get_or l 0 []) (sym taken.3 ∙ words) ∙ sym c.as_str.ensures.value) taken.4) in absurd (omega (arith, small, large)))

pub returns-then-are_values_and_point-clause-some : goal.returns-then-are_values_and_point-clause-some
returns-then-are_values_and_point-clause-some c =
    let words = map-three string_bytes c.args.words.now _ _ _ c.in-len3.len_at_least c.in-len3.len_below c.num_vars-item.is c.list-item.is c.point-item.is in
    let list = c.in_ok-list.ensures.some in
    let point = c.in_ok-point.ensures.some in
    let xs = list.1.0 in
    let x = point.1.0 in
    let spelled : IsList c.in_ok-list.list.now xs = rw list.0 list.1.1 in
    let told : IsList c.in_ok-point.point.now x = rw point.0 point.1.1 in
    let values = (c.are_values_and_point.ensures xs x spelled told).0 c.if-are_values_and_point.true in (
      c.in_ok-num_vars.num_vars,
      xs,
      x,
      (c.as_str.result.now, c.as_str-2.result.now, c.as_str-3.result.now, rw (c.as_str.ensures.value, c.as_str-2.ensures.value, c.as_str-3.ensures.value) words, c.in_ok-num_vars.ensures.some, list.1.1, point.1.1, values),
      (xs, x, spelled, told, values, refl),
    )
