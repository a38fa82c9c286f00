-- The elements of a domain are zeros of x ^ n - offset ^ n.
use Rattle.std.proofs.Common.{ℕ, ap₂, subst}
use Rattle.ark_math.specs.Field.{FieldOn, IsField, power, minus}
use Rattle.ark_math.specs.Root.{HasOrder}
use Rattle.ark_math.specs.Domain.{Domain, element}
use Rattle.ark_math.specs.Univariate.{IsValue, monomial}
use Rattle.ark_math_domains.specs.Points.{vanishing}
use Rattle.ark_math.proofs.Algebra.Groups.{one_times}
use Rattle.ark_math.proofs.Algebra.NonZero.{minus_same}
use Rattle.ark_math_domains.proofs.Domains.Elements.{element-power}
use Rattle.ark_math_polynomials.proofs.Polynomials.UnivariateValues.{value-difference, value-monomial}

module _ {F : Type 0} (K : FieldOn F) (N : IsField K) (d : Domain F) where
  pub value-vanishing : (x : F) → IsValue K (vanishing K d) x (minus K (power K x d.size) (power K d.offset d.size))
  value-vanishing x =
      subst (IsValue K (vanishing K d) x) (ap₂ (minus K) (N.times_one (power K x d.size)) (one_times K N (power K d.offset d.size)))
      (value-difference K N (monomial K d.size K.one) (monomial K 0 (power K d.offset d.size)) x _ _
      (value-monomial K N d.size K.one x) (value-monomial K N 0 (power K d.offset d.size) x))

  pub element-vanishes : HasOrder K d.root d.size → (i : ℕ) → IsValue K (vanishing K d) (element K d i) K.zero
  element-vanishes o i = subst (IsValue K (vanishing K d) (element K d i)) (minus_same K N _ _ (element-power K N d o i)) (value-vanishing (element K d i))
