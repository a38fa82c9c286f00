-- The quotient by x - z.
use Rattle.std.proofs.Common.{◌≡◌, ℕ, zero, suc, ◌+◌, ◌≤◌, inl, inr, List, [], ◌∷◌, length, refl, sym, ◌∙◌, ap, ap₂, arith, add-one}
use Rattle.std.proofs.lemmas.Bool.{cases_lt}
use mathlib.Core.Path.{fun_ext}
use Rattle.std.proofs.lemmas.List.{drop_all}
use Rattle.ark_math.specs.Field.{FieldOn, IsField, minus}
use Rattle.ark_math_polynomials.specs.Linear.{constant, linear_factor}
use Rattle.ark_math.specs.Module.{itself}
use Rattle.ark_math.specs.Transform.{value_at}
use Rattle.ark_math.specs.Univariate.{IsBelow, IsQuotient, added, of_list, product}
use Rattle.ark_math.proofs.Algebra.Solve.{◌⊗◌, ◌⊕◌, ◌⊖◌, nought}
use Rattle.ark_math.proofs.Algebra.Ring.{ring2, ring3}
use Rattle.ark_math_polynomials.proofs.Polynomials.UnivariateLists.{of_list-past, of_list-below}
use Rattle.ark_math_polynomials.proofs.Polynomials.UnivariateValues.{value_from, value_from-one}
use Rattle.ark_math_polynomials.proofs.Polynomials.LinearFactors.{linear-product}

-- no coefficients from there on
pub value_from-past : {F : Type 0} (K : FieldOn F) (c : List F) (z : F) (i : ℕ) → length c ≤ i → value_from K c z i ≡ K.zero
value_from-past K c z i l = ap (λ t. value_at K (itself K) t z) (drop_all i c l)

module _ {F : Type 0} (K : FieldOn F) (N : IsField K) where
  -- Horner's step, past the last coefficient too
  step : (c : List F) (z : F) (i : ℕ) → K.plus (K.times (value_from K c z (i + 1)) z) (of_list K c i) ≡ value_from K c z i
  step c z i = elim (cases_lt i (length c)) [
    | inl l ↦ value_from-one K N c z i (value_from K c z (i + 1)) l refl
    | inr l ↦
        let none : value_from K c z i ≡ K.zero = value_from-past K c z i l in
        let after : value_from K c z (i + 1) ≡ K.zero = value_from-past K c z (i + 1) (omega arith) in
        ap₂ (λ u w. K.plus (K.times u z) w) after (of_list-past K c i l)
        ∙ ring2 K N (λ z o. (nought ⊗ z ⊕ nought, nought)) refl z K.one
        ∙ sym none
  ]

  -- the values of the coefficients from 1 on, from 2 on, .., are those of the quotient, and that of all is what is left
  pub divided : (c : List F) (q : ℕ → F) (z v : F) → ((i : ℕ) → q i ≡ value_from K c z (i + 1)) → v ≡ value_from K c z 0 → of_list K c ≡ added K (product K q (linear_factor K z)) (constant K v)
  divided c q z v is all = fun_ext (at c q z v is all)
    where
      at : (c : List F) (q : ℕ → F) (z v : F) → ((i : ℕ) → q i ≡ value_from K c z (i + 1)) → v ≡ value_from K c z 0 → (i : ℕ) → of_list K c i ≡ added K (product K q (linear_factor K z)) (constant K v) i
      at c q z v is all zero =
          ring3 K N (λ a z q. (a, (nought ⊖ z ⊗ q) ⊕ (q ⊗ z ⊕ a))) refl (of_list K c 0) z (q 0)
          ∙ ap₂ K.plus (sym (linear-product K N q z 0)) (ap (λ t. K.plus (K.times t z) (of_list K c 0)) (is 0) ∙ step c z 0 ∙ sym all)
      at c q z v is all (suc i) =
          ring3 K N (λ a z q. (a, ((q ⊗ z ⊕ a) ⊖ z ⊗ q) ⊕ nought)) refl (of_list K c (suc i)) z (q (suc i))
          ∙ ap₂ K.plus
          (ap (λ t. minus K t (K.times z (q (suc i)))) (ap (λ t. K.plus (K.times t z) (of_list K c (suc i))) (is (suc i)) ∙ step c z (suc i) ∙ ap (value_from K c z) (sym (add-one i)) ∙ sym (is i)) ∙ sym (linear-product K N q z (suc i)))
          (sym (of_list-past K (v ∷ []) (suc i) (omega arith)))

  -- so it is a quotient with remainder
  pub divided_quotient : (a q : ℕ → F) (n : ℕ) (z v : F) → IsBelow K n q → a ≡ added K (product K q (linear_factor K z)) (constant K v) → IsQuotient K a (linear_factor K z) q (constant K v)
  divided_quotient a q n z v below whole = record {
    finite = (n, below);
    whole = whole;
    degree = (1, N.one_not_zero, of_list-below K (K.negated z ∷ K.one ∷ []), of_list-below K (v ∷ []));
  }
