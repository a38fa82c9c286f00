-- What holds of each item of a list that is changed one item after another, beside the item that was there at first.
use Rattle.std.proofs.Common.{◌≡◌, ℕ, ◌+◌, ◌<◌, ◌≤◌, List, length, get_or, arith, ap, sym, ◌∙◌, subst, below_more, inl, inr}
use Rattle.std.proofs.lemmas.List.{get_or-set_same, get_or-set_other, get_or_default}
use Rattle.std.proofs.Math.ListN.{set}
use Rattle.std.proofs.lemmas.Bool.{cases_eq, cases_lt}

module _ {X : Type 0} (P : ℕ → X → X → Type 0) (old now : List X) (i : ℕ) (x y : X) (inside : i < length now)
    (done : (j : ℕ) (d : X) → j < i → P j (get_or old j d) (get_or now j d))
    (rest : (j : ℕ) (d : X) → i ≤ j → get_or now j d ≡ get_or old j d) (this : P i (get_or now i x) y) where
  this_item : (d : X) → P i (get_or old i d) (get_or (set now i y) i d)
  this_item d =
      let was : get_or now i x ≡ get_or old i d = get_or_default now i x d inside ∙ rest i d (omega arith) in
      subst (λ (z : X). P i (get_or old i d) z) (sym (get_or-set_same now i y d inside)) (subst (λ (z : X). P i z y) was this)

  item_before : (j : ℕ) (d : X) → j < i → P j (get_or old j d) (get_or (set now i y) j d)
  item_before j d h = subst (λ (z : X). P j (get_or old j d) z) (sym (get_or-set_other now i j y d (omega (arith, h)))) (done j d h)

  -- one item more
  pub items_more : (j : ℕ) (d : X) → j < i + 1 → P j (get_or old j d) (get_or (set now i y) j d)
  items_more j d h = below_more (λ j. P j (get_or old j d) (get_or (set now i y) j d)) i (λ j l. item_before j d l) (this_item d) j h

  pub rest_after : (j : ℕ) (d : X) → i + 1 ≤ j → get_or (set now i y) j d ≡ get_or old j d
  rest_after j d h = get_or-set_other now i j y d (omega (arith, h)) ∙ rest j d (omega (arith, h))

  -- this item is the last that was changed
  pub items_all : ((j : ℕ) (z w : X) → w ≡ z → P j z w) → (j : ℕ) (d : X) → P j (get_or old j d) (get_or (set now i y) j d)
  items_all same j d = elim (cases_lt j (i + 1)) [
    | inl h ↦ items_more j d h
    | inr h ↦ same j (get_or old j d) (get_or (set now i y) j d) (rest_after j d h)
  ]

-- what a view shows of the items stays, where it does of the one that is written
pub item_kept : {X Y : Type 0} (view : X → Y) (now : List X) (i : ℕ) (x y : X) → i < length now → view y ≡ view (get_or now i x) → (j : ℕ) (d : X) → view (get_or (set now i y) j d) ≡ view (get_or now j d)
item_kept view now i x y inside same j d = elim (cases_eq j i) [
  | inl e ↦ subst (λ m. view (get_or (set now i y) m d) ≡ view (get_or now m d)) (sym e)
      (ap view (get_or-set_same now i y d inside) ∙ same ∙ ap view (get_or_default now i x d inside))
  | inr ne ↦ ap view (get_or-set_other now i j y d (λ e. ne e))
]
