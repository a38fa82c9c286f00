-- Weights of the corners at a point, doubled item by item.
use Rattle.std.proofs.Common.{◌≡◌, ℕ, suc, ◌+◌, ◌-◌, ◌*◌, ◌<◌, ◌≤◌, ◌^◌, List, [], ◌∷◌, ◌++◌, length, sym, ◌∙◌, ap, refl, arith, ⊎_elim}
use Rattle.std.proofs.lemmas.Bool.{cases_lt}
use Rattle.std.proofs.lemmas.List.{length_push}
use Rattle.ark_math.specs.Field.{FieldOn, IsField, minus}
use Rattle.ark_math_variables.specs.Multilinear.{weight}
use Rattle.ark_math.specs.Univariate.{of_list}
use Rattle.ark_math.proofs.Algebra.Solve.{unit, ◌⊖◌, ◌⊗◌}
use Rattle.ark_math.proofs.Algebra.Ring.{ring2}
use Rattle.ark_math_variables.proofs.Polynomials.Cube.{pow_twice, weight-push_low, weight-push_high}

-- the first i of ws are doubled
pub record IsDoubling {F : Type 0} (K : FieldOn F) (x : F) (ws vs : List F) (i : ℕ) : Type 0 where
  pub whole : length vs ≡ length ws + i
  pub low : (b : ℕ) → b < i → of_list K vs b ≡ minus K (of_list K ws b) (K.times (of_list K ws b) x)
  pub rest : (b : ℕ) → i ≤ b → b < length ws → of_list K vs b ≡ of_list K ws b
  pub high : (b : ℕ) → b < i → of_list K vs (length ws + b) ≡ K.times (of_list K ws b) x

-- the weights of the corners at p
pub record AreWeights {F : Type 0} (K : FieldOn F) (p ws : List F) : Type 0 where
  pub whole : length ws ≡ 2 ^ length p
  pub values : (b : ℕ) → b < 2 ^ length p → of_list K ws b ≡ weight K p b

module _ {F : Type 0} (K : FieldOn F) (N : IsField K) where
  pub AreWeights-next : (p ws vs : List F) (x : F) → AreWeights K p ws → length vs ≡ 2 * length ws
      → ((b : ℕ) → b < length ws → of_list K vs b ≡ minus K (of_list K ws b) (K.times (of_list K ws b) x))
      → ((b : ℕ) → b < length ws → of_list K vs (length ws + b) ≡ K.times (of_list K ws b) x)
      → AreWeights K (p ++ x ∷ []) vs
  AreWeights-next p ws vs x h twice low high = record {
    whole = twice ∙ ap (λ n. 2 * n) h.whole ∙ sym (pow_twice (length p)) ∙ ap (λ n. 2 ^ n) (sym longer);
    values = λ b l. ⊎_elim
        (λ (s : b < 2 ^ length p).
        low b (omega (arith, h.whole))
        ∙ ap (λ v. minus K v (K.times v x)) (h.values b s)
        ∙ ring2 K N (λ v x. (v ⊖ v ⊗ x, v ⊗ (unit ⊖ x))) refl (weight K p b) x
        ∙ sym (weight-push_low K N p x b s))
        (λ (s : 2 ^ length p ≤ b).
        let c = b - 2 ^ length p in
        let e : b ≡ 2 ^ length p + c = omega arith in
        let f : b ≡ length ws + c = omega (arith, h.whole) in
        let m : c < 2 ^ length p = omega (arith, l, ap (λ n. 2 ^ n) longer, pow_twice (length p)) in
        ap (of_list K vs) f
        ∙ high c (omega (arith, h.whole))
        ∙ ap (λ v. K.times v x) (h.values c m)
        ∙ sym (weight-push_high K N p x c m)
        ∙ ap (weight K (p ++ x ∷ [])) (sym e))
        (cases_lt b (2 ^ length p));
  } where
    longer : length (p ++ x ∷ []) ≡ suc (length p)
    longer = let e = length_push p x in omega arith
