-- Tables' values along the lines on which they lie as the first variable goes from 0 to 1, 2 and so on.
use Rattle.std.proofs.Common.{◌≡◌, ℕ, suc, ◌+◌, ◌*◌, ◌^◌, ◌<◌, List, length, replicate, refl, sym, ◌∙◌, ap, ap₂, arith}
use mathlib.Core.Path.{fun_ext}
use Rattle.std.proofs.lemmas.List.{get_or-replicate}
use Rattle.ark_math.specs.Field.{FieldOn, IsField, minus, natural}
use Rattle.ark_math.specs.Module.{itself, sum_below}
use Rattle.ark_math.specs.Univariate.{of_list}
use Rattle.ark_math.proofs.Algebra.Solve.{nought, unit, ◌⊕◌, ◌⊗◌}
use Rattle.ark_math.proofs.Algebra.Ring.{ring2, ring3}
use Rattle.ark_math_variables.proofs.Polynomials.Multilinear.{fixed-one}
use Rattle.ark_sum_check.specs.Cube.{SumOfProducts, bound_to, combined, sum_at}
use Rattle.ark_sum_check.specs.Rounds.{IsTrueRound}
use Rattle.ark_sum_check.proofs.TrueRounds.{round_value-bound}

module _ {F : Type 0} (K : FieldOn F) (N : IsField K) where
  pub step-first : (a b : F) → a ≡ K.plus a (K.times (natural K 0) b)
  step-first a b = ring2 K N (λ a b. (a, a ⊕ nought ⊗ b)) refl a b

  pub step-next : (a b : F) (i : ℕ) → K.plus (K.plus a (K.times (natural K i) b)) b ≡ K.plus a (K.times (natural K (i + 1)) b)
  step-next a b i =
      let s : suc i ≡ i + 1 = omega arith in
      ring3 K N (λ a b n. ((a ⊕ n ⊗ b) ⊕ b, a ⊕ (n ⊕ unit) ⊗ b)) refl a b (natural K i) ∙ ap (λ k. K.plus a (K.times (natural K k) b)) s

  -- a sum one corner further
  pub sum_along : (s : SumOfProducts F) (c i : ℕ) (v w : ℕ → F) (p q : F) → ((k : ℕ) → v k ≡ s.tables k (2 * c)) → ((k : ℕ) → w k ≡ minus K (s.tables k (2 * c + 1)) (s.tables k (2 * c)))
      → p ≡ sum_below (itself K) c (sum_at K (bound_to K (natural K i) s)) → q ≡ K.plus p (combined K s.addends (λ k. K.plus (v k) (K.times (natural K i) (w k)))) → q ≡ sum_below (itself K) (c + 1) (sum_at K (bound_to K (natural K i) s))
  sum_along s c i v w p q first step e is =
      let more : suc c ≡ c + 1 = omega arith in
      is
      ∙ ap₂ (λ a b. K.plus a (combined K s.addends b)) e
      (fun_ext (λ k. ap₂ (λ a b. K.plus a (K.times (natural K i) b)) (first k) (step k) ∙ sym (ap (λ f. f c) (fixed-one K N (s.tables k) (natural K i)))))
      ∙ ap (λ n. sum_below (itself K) n (sum_at K (bound_to K (natural K i) s))) more

  -- a round by these sums
  pub round_along : (d m h : ℕ) (s : SumOfProducts F) (values : List F) → h ≡ 2 ^ m → length values ≡ d + 1 → ((i : ℕ) → i < d + 1 → of_list K values i ≡ sum_below (itself K) h (sum_at K (bound_to K (natural K i) s))) → IsTrueRound K d m s values
  round_along d m h s values power count sums = record { count = count; sums = λ i l. sums i l ∙ round_value-bound K N m h s (natural K i) power }

-- zeros
pub of_zeros : {F : Type 0} (K : FieldOn F) (n i : ℕ) → i < n → of_list K (replicate n K.zero) i ≡ K.zero
of_zeros K n i l = get_or-replicate n i K.zero K.zero l
