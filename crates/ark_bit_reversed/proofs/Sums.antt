-- A sum by four sums.
use Rattle.std.proofs.Common.{◌≡◌, ℕ, suc, ◌+◌, ◌*◌, refl, sym, ◌∙◌, ap, ap₂, arith}
use Rattle.ark_math.specs.Field.{FieldOn, IsField}
use Rattle.ark_math.specs.Module.{itself, sum_below}
use Rattle.ark_math.proofs.Algebra.Groups.{itself_is_module, plus_swap}
use Rattle.ark_math.proofs.Algebra.Ring.{ring5}
use Rattle.ark_math.proofs.Algebra.Solve.{◌⊕◌}

module _ {F : Type 0} (K : FieldOn F) (N : IsField K) where
  -- each with one more
  pub sum_of_four_sums : (f : ℕ → F) (k : ℕ) (a b c d : F) → K.plus (K.plus a b) (K.plus c d) ≡ sum_below (itself K) (4 * k) f
      → K.plus (K.plus (K.plus a (f (4 * k))) (K.plus b (f (4 * k + 1)))) (K.plus (K.plus c (f (4 * k + 2))) (K.plus d (f (4 * k + 3)))) ≡ sum_below (itself K) (4 * (k + 1)) f
  sum_of_four_sums f k a b c d is =
      let L = itself_is_module K N in
      let n : ℕ = 4 * k in
      let x : F = f n in
      let y : F = f (n + 1) in
      let z : F = f (n + 2) in
      let u : F = f (n + 3) in
      let second : n + 1 ≡ suc n = omega arith in
      let third : n + 2 ≡ suc (suc n) = omega arith in
      let fourth : n + 3 ≡ suc (suc (suc n)) = omega arith in
      let all : 4 * (k + 1) ≡ suc (suc (suc (suc n))) = omega arith in
      ap₂ K.plus (plus_swap L a x b y) (plus_swap L c z d u)
      ∙ plus_swap L (K.plus a b) (K.plus x y) (K.plus c d) (K.plus z u)
      ∙ ap (λ s. K.plus s (K.plus (K.plus x y) (K.plus z u))) is
      ∙ ring5 K N (λ s x y z u. (s ⊕ ((x ⊕ y) ⊕ (z ⊕ u)), ((s ⊕ x) ⊕ y) ⊕ z ⊕ u)) refl (sum_below (itself K) n f) x y z u
      ∙ ap₂ K.plus (ap₂ K.plus (ap (λ i. K.plus (K.plus (sum_below (itself K) n f) x) (f i)) second) (ap f third)) (ap f fourth)
      ∙ ap (λ i. sum_below (itself K) i f) (sym all)
