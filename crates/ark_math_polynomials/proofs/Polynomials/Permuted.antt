-- Sums over the items of a list, which no order changes.
use Rattle.std.proofs.Common.{◌≡◌, ◌≢◌, ℕ, zero, suc, ◌<◌, List, [], ◌∷◌, length, get_or, set, swap, IsPermutation, sym, ◌∙◌, ap, refl, subst, arith, get_or-set_same, get_or-set_other, length-set, ⊎_elim}
use Rattle.std.proofs.lemmas.Bool.{cases_eq}
use Rattle.std.proofs.lemmas.List.Sorted.{IsPermutation-keeps}
use Rattle.ark_math.specs.Field.{FieldOn, IsField}
use Rattle.ark_math.specs.Module.{ModuleOn, IsModule}
use Rattle.ark_math.proofs.Algebra.Groups.{cancel_left}
use Rattle.ark_math.proofs.Algebra.Solve.{◌⊞◌}
use Rattle.ark_math.proofs.Algebra.Ring.{module0_3}

-- total adds up what f gives of each item
module _ {F M X : Type 0} {K : FieldOn F} {V : ModuleOn F M} (N : IsField K) (L : IsModule K V) (f : X → M) (total : List X → M) (step : (x : X) (xs : List X) → total (x ∷ xs) ≡ V.plus (f x) (total xs)) where
  -- an item in place of another
  total-set : (xs : List X) (k : ℕ) (x d : X) → k < length xs → V.plus (f (get_or xs k d)) (total (set xs k x)) ≡ V.plus (f x) (total xs)
  total-set [] k x d l = absurd (omega arith)
  total-set (y ∷ xs) zero x d l =
      ap (V.plus (f y)) (step x xs)
      ∙ module0_3 N L (λ y x p. (y ⊞ (x ⊞ p), x ⊞ (y ⊞ p))) refl (f y) (f x) (total xs)
      ∙ ap (V.plus (f x)) (sym (step y xs))
  total-set (y ∷ xs) (suc k) x d l =
      ap (V.plus (f (get_or xs k d))) (step y (set xs k x))
      ∙ module0_3 N L (λ y z q. (z ⊞ (y ⊞ q), y ⊞ (z ⊞ q))) refl (f y) (f (get_or xs k d)) (total (set xs k x))
      ∙ ap (V.plus (f y)) (total-set xs k x d (omega arith))
      ∙ module0_3 N L (λ y x p. (y ⊞ (x ⊞ p), x ⊞ (y ⊞ p))) refl (f y) (f x) (total xs)
      ∙ ap (V.plus (f x)) (sym (step y xs))

  swap_both : (xs : List X) (i j : ℕ) (d : X) → i < length xs → j < length xs → total (set (set xs i (get_or xs j d)) j (get_or xs i d)) ≡ total xs
  swap_both xs i j d a b =
      let x = get_or xs i d in
      let y = get_or xs j d in
      let ys = set xs i y in
      let inside : j < length ys = omega (arith, length-set xs i y) in
      let there : get_or ys j d ≡ y = ⊎_elim
      (λ (e : j ≡ i). subst (λ t. get_or ys t d ≡ y) (sym e) (get_or-set_same xs i y d a))
      (λ (ne : j ≢ i). get_or-set_other xs i j y d ne)
      (cases_eq j i) in
      cancel_left L (f y) (total (set ys j x)) (total xs)
      (ap (λ t. V.plus (f t) (total (set ys j x))) (sym there) ∙ total-set ys j x d inside ∙ total-set xs i y d a)

  total-swap : (xs : List X) (i j : ℕ) → i < length xs → j < length xs → total (swap xs i j) ≡ total xs
  total-swap [] i j a b = refl
  total-swap (x ∷ xs) i j a b = swap_both (x ∷ xs) i j x a b

  pub total-permutation : (xs ys : List X) → IsPermutation xs ys → total ys ≡ total xs
  total-permutation xs ys h = IsPermutation-keeps xs (λ zs. total zs ≡ total xs) refl (λ zs i j a b e. total-swap zs i j a b ∙ e) ys h
