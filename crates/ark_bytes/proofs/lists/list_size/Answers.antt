use Rattle.std.proofs.Common.{◌≡◌, ◌+◌, ◌<◌, ℕ, List, ◌∷◌, ◌++◌, length, take, drop, get_or, refl, sym, ap, ◌∙◌, take-append-drop, arith}
use Rattle.std.proofs.lemmas.List.{drop_more}
use Rattle.ark_bytes.proofs.Writing.{length_items}
use Rattle.ark_bytes.proofs.lists.list_size.Goals as goal

split : {X : Type 0} (xs : List X) (i : ℕ) (v : X) → i < length xs → v ≡ get_or xs i v → xs ≡ take i xs ++ (v ∷ drop (i + 1) xs)
split xs i v h e = sym (take-append-drop i xs) ∙ ap (λ l. take i xs ++ l) (drop_more xs i v h ∙ ap (λ w. w ∷ drop (i + 1) xs) (sym e))

pub returns-in_err-serialized_size-clause-none : goal.returns-in_err-serialized_size-clause-none
returns-in_err-serialized_size-clause-none g c =
    let xs = c.args.items.now in
    let i = c.loop-item.item-index in
    let v = c.item-item.result in
    let whole = length_items (g.T.Spelled.format c.args.mode) xs (take i xs) (drop (i + 1) xs) v (split xs i v c.loop-item-test.true c.item-item.is) in
    λ _. omega (arith, whole, c.in_err-serialized_size.ensures.none refl)

pub returns-in_err-size-clause-none : goal.returns-in_err-size-clause-none
returns-in_err-size-clause-none g c =
    let xs = c.args.items.now in
    let i = c.loop-item.item-index in
    let v = c.item-item.result in
    let whole = length_items (g.T.Spelled.format c.args.mode) xs (take i xs) (drop (i + 1) xs) v (split xs i v c.loop-item-test.true c.item-item.is) in
    let past = c.in_err-size.ensures in
    λ _. omega (arith, whole, past, c.in_ok-serialized_size.ensures.some, c.loop-item.invariant)
