use Rattle.std.proofs.Common.{◌≡◌, ◌+◌, ◌<◌, ℕ, List, ◌∷◌, ◌++◌, length, take, drop, get_or, sym, ap, ◌∙◌, take-append-drop}
use Rattle.std.proofs.lemmas.List.{drop_more}
use Rattle.std.proofs.lemmas.Result.{err_from_is_err_and}
use Rattle.ark_bytes.proofs.Writing.{stops_before, stops_at_item}
use Rattle.ark_bytes.proofs.lists.write_list.Goals as goal

split : {X : Type 0} (xs : List X) (i : ℕ) (v : X) → i < length xs → v ≡ get_or xs i v → xs ≡ take i xs ++ (v ∷ drop (i + 1) xs)
split xs i v h e = sym (take-append-drop i xs) ∙ ap (λ l. take i xs ++ l) (drop_more xs i v h ∙ ap (λ w. w ∷ drop (i + 1) xs) (sym e))

pub returns-in_err-write_number : goal.returns-in_err-write_number
returns-in_err-write_number g c =
    let p = err_from_is_err_and c.from_residual.result c.from_residual.ensures.1 in
    rw (p.1, p.2) (stops_before _ _ _ _ _ c.in_err-write_number.ensures)

pub returns-in_err-serialize_with_mode : goal.returns-in_err-serialize_with_mode
returns-in_err-serialize_with_mode g c =
    let p = err_from_is_err_and c.from_residual-in_err-serialize_with_mode.result c.from_residual-in_err-serialize_with_mode.ensures.1 in
    rw (p.1, p.2) (stops_at_item (g.T.Spelled.format c.args.mode) _ _ _ _ _ _ _ _ (split c.args.items.now c.loop-item.item-index c.item-item.result c.loop-item-test.true c.item-item.is) c.loop-item.invariant c.in_err-serialize_with_mode.ensures)
