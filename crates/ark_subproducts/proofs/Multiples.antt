-- Multiples of polynomials: of products, by half of twice as much, and of the coefficients of a list.
use Rattle.std.proofs.Common.{◌≡◌, ℕ, suc, ◌-◌, ◌<◌, ◌≤◌, List, length, refl, sym, ◌∙◌, ap, arith, ⊎_elim}
use mathlib.Core.Path.{fun_ext}
use Rattle.std.proofs.lemmas.Bool.{cases_lt}
use Rattle.ark_math.specs.Field.{FieldOn, IsField}
use Rattle.ark_math.specs.Module.{itself}
use Rattle.ark_math.specs.Univariate.{added, of_list, product, scaled}
use Rattle.ark_math.proofs.Algebra.Groups.{itself_is_module, one_times}
use Rattle.ark_math.proofs.Algebra.Powers.{times_zero}
use Rattle.ark_math.proofs.Algebra.Ring.{ring3}
use Rattle.ark_math.proofs.Algebra.Solve.{◌⊗◌, ◌⊕◌, unit}
use Rattle.ark_math.proofs.Algebra.Sums.{sum_below-same, sum_below-scale}
use Rattle.ark_math_polynomials.proofs.Polynomials.UnivariateLists.{of_list-past}
use Rattle.ark_math_polynomials.proofs.Polynomials.UnivariateLoops.{cut, cut-inside, cut-outside}

module _ {F : Type 0} (K : FieldOn F) (N : IsField K) where
  pub product-scaled : (c a : ℕ → F) (s : F) (j : ℕ) → product K c (scaled K s a) j ≡ K.times s (product K c a j)
  product-scaled c a s j =
      sum_below-same (itself K) (suc j) (λ i. K.times (c i) (K.times s (a (j - i)))) (λ i. K.times s (K.times (c i) (a (j - i))))
      (λ i l. ring3 K N (λ x s y. (x ⊗ (s ⊗ y), s ⊗ (x ⊗ y))) refl (c i) s (a (j - i)))
      ∙ sum_below-scale (itself_is_module K N) (suc j) s (λ i. K.times (c i) (a (j - i)))

  pub scaled-one : (a : ℕ → F) → scaled K K.one a ≡ a
  scaled-one a = fun_ext (λ i. one_times K N (a i))

  -- by a factor, and by half of it twice as much
  pub scaled_by_half : (s half : F) (a : ℕ → F) → K.times (K.plus K.one K.one) half ≡ K.one → scaled K (K.times s half) (added K a a) ≡ scaled K s a
  scaled_by_half s half a two = fun_ext (λ i.
      ring3 K N (λ s h a. ((s ⊗ h) ⊗ (a ⊕ a), (s ⊗ a) ⊗ ((unit ⊕ unit) ⊗ h))) refl s half (a i)
      ∙ ap (K.times (K.times s (a i))) two
      ∙ N.times_one (K.times s (a i)))

  -- of the first coefficients, in a list
  pub of_list-multiples : (xs : List F) (n : ℕ) (s : F) (a : ℕ → F) → length xs ≡ n → ((i : ℕ) → i < n → of_list K xs i ≡ K.times (a i) s) → of_list K xs ≡ scaled K s (cut K n a)
  of_list-multiples xs n s a len each = fun_ext (λ i. ⊎_elim
      (λ (l : i < n). each i l ∙ N.times_comm (a i) s ∙ ap (K.times s) (sym (cut-inside K n a i l)))
      (λ (l : n ≤ i). of_list-past K xs i (omega (arith, l, len)) ∙ sym (ap (K.times s) (cut-outside K n a i l) ∙ times_zero K N s))
      (cases_lt i n))
