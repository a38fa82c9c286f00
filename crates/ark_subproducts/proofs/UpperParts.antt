-- What a product has from a place on, by what its factors have.
use Rattle.std.proofs.Common.{◌≡◌, ℕ, suc, ◌+◌, ◌-◌, ◌<◌, ◌≤◌, List, length, drop, min, sym, ◌∙◌, ap, ap₂, arith, inl, inr}
use mathlib.Core.Path.{fun_ext}
use Rattle.std.proofs.lemmas.Bool.{cases_lt}
use Rattle.std.proofs.lemmas.List.{get_or-drop}
use Rattle.ark_math.specs.Field.{FieldOn, IsField}
use Rattle.ark_math.specs.Module.{itself, sum_below}
use Rattle.ark_math.specs.Univariate.{IsBelow, of_list, product}
use Rattle.ark_math.proofs.Algebra.Groups.{itself_is_module, scale_zero, zero_plus, zero_scale}
use Rattle.ark_math.proofs.Algebra.Regrouped.{sum_below-past, sum_below-zero}
use Rattle.ark_math.proofs.Algebra.Sums.{sum_below-add, sum_below-same}
use Rattle.ark_math_polynomials.proofs.Polynomials.UnivariateLists.{of_list-below, of_list-past}
use Rattle.ark_math_polynomials.proofs.Polynomials.UnivariateProducts.{product-below}

-- the coefficients from a place on, moved down to zero
abbrev pub past : {F : Type 0} → ℕ → (ℕ → F) → ℕ → F
past start a i = a (start + i)

module _ {F : Type 0} (K : FieldOn F) (N : IsField K) where
  -- of one factor only what stands from s on counts, from s and the other one's degree on
  pub product-past : (s e i : ℕ) (a b : ℕ → F) → IsBelow K (e + 1) b → product K (past s a) b (e + i) ≡ product K a b (s + (e + i))
  product-past s e i a b below =
      let f : ℕ → F = λ j. K.times (a j) (b (s + (e + i) - j)) in
      let count : suc (s + (e + i)) ≡ s + suc (e + i) = omega arith in
      sym (
      ap (λ n. sum_below (itself K) n f) count
      ∙ sum_below-add (itself_is_module K N) s (suc (e + i)) f
      ∙ ap (λ x. K.plus x (sum_below (itself K) (suc (e + i)) (λ j. f (s + j))))
      (sum_below-zero (itself_is_module K N) s f (λ j l. ap (K.times (a j)) (below (s + (e + i) - j) (omega arith)) ∙ scale_zero (itself_is_module K N) (a j)))
      ∙ zero_plus (itself_is_module K N) _
      ∙ sum_below-same (itself K) (suc (e + i)) (λ j. f (s + j)) (λ j. K.times (a (s + j)) (b (e + i - j)))
      (λ j l. let same : s + (e + i) - (s + j) ≡ e + i - j = omega arith in ap (λ k. K.times (a (s + j)) (b k)) same)
      )

  -- the coefficient at the degree of a list, by as many terms as both have
  pub product_at_degree : (xs ys : List F) (n : ℕ) → n ≡ min (length xs) (length ys) → sum_below (itself K) n (λ j. K.times (of_list K xs j) (of_list K ys (length ys - 1 - j))) ≡ product K (of_list K xs) (of_list K ys) (length ys - 1)
  product_at_degree xs ys n e =
      sym (sum_below-past (itself_is_module K N) n (suc (length ys - 1)) (λ j. K.times (of_list K xs j) (of_list K ys (length ys - 1 - j))) (omega (arith, e))
      (λ j l m. elim (cases_lt j (length xs)) [
        | inl inside ↦
            ap (K.times (of_list K xs j)) (of_list-past K ys (length ys - 1 - j) (omega (arith, e, l, m, inside)))
            ∙ scale_zero (itself_is_module K N) (of_list K xs j)
        | inr outside ↦
            ap (λ x. K.times x (of_list K ys (length ys - 1 - j))) (of_list-past K xs j outside)
            ∙ zero_scale N (itself_is_module K N) (of_list K ys (length ys - 1 - j))
      ]))

  below-degree : (ys : List F) → IsBelow K (length ys - 1 + 1) (of_list K ys)
  below-degree ys k l = of_list-past K ys k (omega arith)

  -- and past that degree, by the items from a place on
  pub product_from_degree : (xs ys : List F) (a : ℕ → F) (i : ℕ) → ((k : ℕ) → i ≤ k → of_list K xs k ≡ a k) → product K (of_list K (drop i xs)) (of_list K ys) (length ys - 1) ≡ product K a (of_list K ys) (length ys - 1 + i)
  product_from_degree xs ys a i rest =
      let flat : length ys - 1 + 0 ≡ length ys - 1 = omega arith in
      let place : i + (length ys - 1 + 0) ≡ length ys - 1 + i = omega arith in
      ap₂ (λ b k. product K b (of_list K ys) k) (fun_ext (λ j. get_or-drop i xs j K.zero ∙ rest (i + j) (omega arith))) (sym flat)
      ∙ product-past i (length ys - 1) 0 a (of_list K ys) (below-degree ys)
      ∙ ap (product K a (of_list K ys)) place

  -- what a list with these coefficients has past its own length is zero
  pub product_past_degree : (xs zs ys : List F) → length zs ≡ length xs → ((k : ℕ) → k < length xs → of_list K zs k ≡ product K (of_list K xs) (of_list K ys) (length ys - 1 + k)) →
      (k : ℕ) → of_list K zs k ≡ product K (of_list K xs) (of_list K ys) (length ys - 1 + k)
  product_past_degree xs zs ys len done k = elim (cases_lt k (length xs)) [
    | inl inside ↦ done k inside
    | inr outside ↦
        of_list-past K zs k (omega (arith, len, outside))
        ∙ sym (product-below K N (length xs) (length ys) (of_list K xs) (of_list K ys) (of_list-below K xs) (of_list-below K ys) (length ys - 1 + k) (omega (arith, outside)))
  ]

  -- the items of a list from a place on, which may be past its end
  pub past-drop : (xs : List F) (s : ℕ) → of_list K (drop (min s (length xs)) xs) ≡ past s (of_list K xs)
  past-drop xs s = fun_ext (λ j. get_or-drop (min s (length xs)) xs j K.zero ∙ elim (cases_lt (length xs) s) [
    | inl beyond ↦ of_list-past K xs (min s (length xs) + j) (omega (arith, beyond)) ∙ sym (of_list-past K xs (s + j) (omega (arith, beyond)))
    | inr inside ↦ let same : min s (length xs) + j ≡ s + j = omega (arith, inside) in ap (of_list K xs) same
  ])
