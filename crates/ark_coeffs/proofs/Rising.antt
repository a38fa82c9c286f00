-- What a test of each item and the next tells of all pairs of items.
use Rattle.std.proofs.Common.{◌≡◌, ℕ, zero, suc, Bool, true, false, Decides, IsTrue, ◌↔◌, AllPairs, ◌+◌, ◌-◌, ◌<◌, List, [], ◌∷◌, length, get_or, sym, ◌∙◌, subst, arith, refl}
use Rattle.std.specs.List.{AllAdjacentBelow, IsAllAdjacentAnswer}
use Rattle.std.proofs.lemmas.Bool.{true≢false}

-- of a relation that e decides, and of which two steps make one
module _ {X : Type 0} (R : X → X → Type 0) (e : X → X → Bool) (decides : (x y : X) → Decides (e x y) (R x y)) (joined : (x y z : X) → R x y → R y z → R x z) where
  next : (xs : List X) (i j : ℕ) (d : X) → AllAdjacentBelow (λ x y. true ≡ e x y) xs (length xs) → j ≡ i + 1 → j < length xs → R (get_or xs i d) (get_or xs j d)
  next xs i j d h same l =
      subst (λ m. R (get_or xs i d) (get_or xs m d)) (sym same) ((decides (get_or xs i d) (get_or xs (i + 1) d)).0 (sym (h i d (omega (arith, same, l)))))

  later : (xs : List X) (i k j : ℕ) (d : X) → AllAdjacentBelow (λ x y. true ≡ e x y) xs (length xs) → j ≡ i + 1 + k → j < length xs → R (get_or xs i d) (get_or xs j d)
  later xs i zero j d h same l = next xs i j d h (omega (arith, same)) l
  later xs i (suc k) j d h same l =
      joined (get_or xs i d) (get_or xs (j - 1) d) (get_or xs j d)
      (later xs i k (j - 1) d h (omega (arith, same)) (omega (arith, l)))
      (next xs (j - 1) j d h (omega (arith, same)) l)

  not_all : (xs : List X) (k : ℕ) → k + 1 < length xs → ((d : X) → false ≡ e (get_or xs k d) (get_or xs (k + 1) d)) → AllPairs R xs → ⊥
  not_all [] k l out h = omega (arith, l)
  not_all (x ∷ xs) k l out h =
      let yes = (decides (get_or (x ∷ xs) k x) (get_or (x ∷ xs) (k + 1) x)).1 (h k (k + 1) x (omega arith) l) in
      true≢false (sym yes ∙ sym (out x))

  pub rising_answer : (xs : List X) (r : Bool) → IsAllAdjacentAnswer (λ x y b. b ≡ e x y) xs r → IsTrue r ↔ AllPairs R xs
  rising_answer xs true h = (λ _ i j d below l. later xs i (j - (i + 1)) j d h (omega (arith, below)) l, λ _. refl)
  rising_answer xs false h = (λ no. absurd (true≢false (sym no)), λ all. absurd (not_all xs h.0 h.1 h.2 all))
