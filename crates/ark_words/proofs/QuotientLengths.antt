-- A quotient has no more coefficients than the dividend, and a remainder no more than the divisor.
use Rattle.std.proofs.Common.{◌≡◌, zero, suc, ◌+◌, ◌<◌, ◌≤◌, ℕ, sym, ap, ap₂, ◌∙◌, ⊎_elim, arith}
use Rattle.std.proofs.lemmas.Bool.{cases_lt}
use Rattle.ark_math.specs.Field.{FieldOn, IsField}
use Rattle.ark_math.specs.Univariate.{IsBelow, IsQuotient}
use Rattle.ark_math.proofs.Algebra.Powers.{zero_factor}
use Rattle.ark_math_polynomials.proofs.Polynomials.Univariate.{IsBelow-more, IsBelow-less}
use Rattle.ark_math_polynomials.proofs.Polynomials.UnivariateProducts.{product_leading}

module _ {F : Type 0} (K : FieldOn F) (N : IsField K) where
  -- a coefficient of the quotient past the dividend's, where those above it are zero
  quotient_last : (a d q r : ℕ → F) (m n : ℕ) → IsQuotient K a d q r → IsBelow K m a → m ≤ n → IsBelow K (n + 1) q → q n ≡ K.zero
  quotient_last a d q r m n Q short l below =
      let k = Q.degree.0 in
      let whole : K.zero ≡ K.plus (K.times (q n) (d k)) K.zero =
      sym (short (n + k) (omega arith)) ∙ ap (λ h. h (n + k)) Q.whole
      ∙ ap₂ K.plus (product_leading K N n k q d below Q.degree.2) (Q.degree.3 (n + k) (omega arith)) in
      let none : K.times (d k) (q n) ≡ K.zero = N.times_comm (d k) (q n) ∙ sym (N.plus_zero (K.times (q n) (d k))) ∙ sym whole in
      zero_factor K N (d k) (q n) Q.degree.1 none

  quotient_short : (a d q r : ℕ → F) (m n : ℕ) → IsQuotient K a d q r → IsBelow K m a → IsBelow K n q → IsBelow K m q
  quotient_short a d q r m zero Q short below = IsBelow-more K zero m q (omega arith) below
  quotient_short a d q r m (suc n) Q short below =
      ⊎_elim
      (λ (l : n < m). IsBelow-more K (suc n) m q (omega arith) below)
      (λ (l : m ≤ n). quotient_short a d q r m n Q short
      (IsBelow-less K n q (quotient_last a d q r m n Q short l (λ i s. below i (omega arith))) below))
      (cases_lt n m)

  pub quotient_below : (a d q r : ℕ → F) (m : ℕ) → IsQuotient K a d q r → IsBelow K m a → IsBelow K m q
  quotient_below a d q r m Q short = quotient_short a d q r m Q.finite.0 Q short Q.finite.1

  pub remainder_below : (a d q r : ℕ → F) (n : ℕ) → IsQuotient K a d q r → IsBelow K n d → IsBelow K n r
  remainder_below a d q r n Q short =
      let k = Q.degree.0 in
      ⊎_elim
      (λ (l : k < n). IsBelow-more K k n r (omega arith) Q.degree.3)
      (λ (l : n ≤ k). absurd (Q.degree.1 (short k l)))
      (cases_lt k n)
