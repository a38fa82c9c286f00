-- The polynomial with known roots: its coefficients, its values and those of x times its derivative.
use Rattle.std.proofs.Common.{◌≡◌, ℕ, zero, suc, ◌+◌, ◌<◌, List, [], ◌∷◌, length, sym, ◌∙◌, ap, ap₂, refl, subst, arith}
use mathlib.Core.Path.{fun_ext}
use Rattle.ark_math.specs.Field.{FieldOn, IsField, minus}
use Rattle.ark_math_polynomials.specs.Linear.{linear_factor}
use Rattle.ark_math.specs.Module.{itself}
use Rattle.ark_math.specs.Univariate.{monomial, product, IsBelow, IsValue}
use Rattle.ark_math.proofs.Algebra.Groups.{itself_is_module, zero_scale}
use Rattle.ark_math.proofs.Algebra.Solve.{◌⊕◌, ◌⊖◌, ◌⊗◌, negative, unit, nought}
use Rattle.ark_math.proofs.Algebra.Ring.{ring2, ring3}
use Rattle.ark_math_polynomials.proofs.Polynomials.Univariate.{monomial-below}
use Rattle.ark_math_polynomials.proofs.Polynomials.UnivariateProducts.{product_comm}
use Rattle.ark_math_polynomials.proofs.Polynomials.UnivariateValues.{value_below-monomial, value_below-past}
use Rattle.ark_math_polynomials.specs.Nodes.{nodes}
use Rattle.ark_math_polynomials.proofs.Polynomials.LinearFactors.{before, linear-product}
use Rattle.rs_code.specs.Locator.{locator_at, derivative_at, euler, by_factor, by_factors}
use Rattle.rs_code.proofs.Locators.{value, IsShort, by_factors-short, by_factors-value, euler-value, euler-short}

module _ {F : Type 0} (K : FieldOn F) (N : IsField K) where
  by_factor-step : (r : F) (a : ℕ → F) (i : ℕ) → minus K (before K a i) (K.times r (a i)) ≡ by_factor K (itself K) r a i
  by_factor-step r a zero = ring2 K N (λ r a. (nought ⊖ r ⊗ a, negative r ⊗ a)) refl r (a 0)
  by_factor-step r a (suc i) = ring3 K N (λ r a b. (a ⊖ r ⊗ b, a ⊕ negative r ⊗ b)) refl r (a i) (a (suc i))

  pub factor-product : (r : F) (a : ℕ → F) → product K (linear_factor K r) a ≡ by_factor K (itself K) r a
  factor-product r a = product_comm K N (linear_factor K r) a ∙ fun_ext (λ i. linear-product K N a r i ∙ by_factor-step r a i)

  nodes-factors : (rs : List F) → nodes K rs ≡ by_factors K (itself K) rs (monomial K 0 K.one)
  nodes-factors [] = refl
  nodes-factors (r ∷ rs) = factor-product r (nodes K rs) ∙ ap (by_factor K (itself K) r) (nodes-factors rs)

  one-short : IsShort (itself K) 1 (monomial K 0 K.one)
  one-short = monomial-below K 0 1 K.one (omega arith)

  -- the value of 1
  one-value : (n : ℕ) (x : F) → 0 < n → value K (itself K) n (monomial K 0 K.one) x ≡ K.one
  one-value n x l = value_below-monomial K N n 0 K.one x l ∙ N.times_one K.one

  pub nodes-short : (rs : List F) → IsBelow K (1 + length rs) (nodes K rs)
  nodes-short rs = subst (IsBelow K (1 + length rs)) (sym (nodes-factors rs)) (by_factors-short N (itself_is_module K N) 1 (1 + length rs) rs (monomial K 0 K.one) one-short (omega arith))

  pub nodes-value : (rs : List F) (x : F) → IsValue K (nodes K rs) x (locator_at K rs x)
  nodes-value rs x =
      let n = 1 + length rs in
      (n, nodes-short rs, sym (ap (λ t. value K (itself K) n t x) (nodes-factors rs) ∙ by_factors-value N (itself_is_module K N) 1 n rs x (monomial K 0 K.one) one-short (omega arith) ∙ ap (K.times (locator_at K rs x)) (one-value n x (omega arith)) ∙ N.times_one (locator_at K rs x)))

  -- 1 has no coefficient that is multiplied by its exponent
  euler-one : IsShort (itself K) 0 (euler K (itself K) (monomial K 0 K.one))
  euler-one zero l = zero_scale N (itself_is_module K N) K.one
  euler-one (suc i) l = euler-short N (itself_is_module K N) 1 (monomial K 0 K.one) one-short (suc i) (omega arith)

  pub derivative_at-value : (rs : List F) (x : F) → IsValue K (euler K (itself K) (nodes K rs)) x (K.times x (derivative_at K rs x))
  derivative_at-value rs x =
      let n = 1 + length rs in
      let one = monomial K 0 K.one in
      let none : value K (itself K) n (euler K (itself K) one) x ≡ K.zero = value_below-past K N 0 n (euler K (itself K) one) x (omega arith) euler-one in (
        n,
        euler-short N (itself_is_module K N) n (nodes K rs) (nodes-short rs),
        sym (ap (λ t. value K (itself K) n (euler K (itself K) t) x) (nodes-factors rs)
            ∙ euler-value N (itself_is_module K N) 1 n rs x one one-short (omega arith)
            ∙ ap₂ (λ u v. K.plus (K.times (K.times x (derivative_at K rs x)) u) (K.times (locator_at K rs x) v)) (one-value n x (omega arith)) none
            ∙ ring2 K N (λ s l. (s ⊗ unit ⊕ l ⊗ nought, s)) refl (K.times x (derivative_at K rs x)) (locator_at K rs x)),
      )
