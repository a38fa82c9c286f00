-- Lists that are made by pushing, and the powers that they take in turn.
use Rattle.std.proofs.Common.{◌≡◌, ℕ, suc, ◌+◌, ◌<◌, List, [], ◌∷◌, ◌++◌, length, get_or, refl, sym, ap, ap₂, subst, ◌∙◌, add-one, arith}
use Rattle.std.proofs.lemmas.List.{get_or_append_left, get_or_push}
use borrow.Author.Count.{below_more}
use Rattle.ark_math.specs.Field.{FieldOn, IsField, power}
use Rattle.ark_math.proofs.Algebra.Solve.{◌⊗◌}
use Rattle.ark_math.proofs.Algebra.Ring.{ring3}

-- what holds at each place of a list holds with one more item, where it holds of that item
pub pushed_more : {X : Type 0} (z : X) (P : ℕ → X → Type 0) (xs : List X) (x : X) (n : ℕ) → length xs ≡ n → ((k : ℕ) → k < n → P k (get_or xs k z)) → P n x → (k : ℕ) → k < n + 1 → P k (get_or (xs ++ x ∷ []) k z)
pushed_more z P xs x n len below here =
    below_more (λ k. P k (get_or (xs ++ x ∷ []) k z)) n
    (λ k l. subst (P k) (sym (get_or_append_left xs (x ∷ []) z k (omega arith))) (below k l))
    (subst (P n) (sym (get_or_push xs x z n len)) here)

module _ {F : Type 0} (K : FieldOn F) (N : IsField K) where
  pub power_after : (s r a : F) → a ≡ K.times s r → a ≡ K.times s (power K r 1)
  power_after s r a e = e ∙ ap (K.times s) (sym (N.times_one r))

  -- a power times the ratio's square is the power two places on
  pub power_two_on : (s r a q : F) (n : ℕ) → a ≡ K.times s (power K r n) → q ≡ K.times r r → K.times a q ≡ K.times s (power K r (n + 1 + 1))
  power_two_on s r a q n e f =
      ap₂ K.times e f
      ∙ ring3 K N (λ s p r. ((s ⊗ p) ⊗ (r ⊗ r), s ⊗ (r ⊗ (r ⊗ p)))) refl s (power K r n) r
      ∙ ap (λ k. K.times s (power K r k)) (sym (add-one (n + 1) ∙ ap suc (add-one n)))
