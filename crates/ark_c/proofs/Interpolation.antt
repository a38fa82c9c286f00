-- The call of polynomials through points.
use Rattle.std.proofs.Common.{◌≡◌, ◌≢◌, ◌≤◌, ◌↔◌, ℕ, List, Some, Ok, Err, OnOk, OnErr, IfErr, subst, arith}
use Rattle.ark_words.specs.declared.error.WordsError.TheVariants.{Memory, Length, NotReduced, NoDomain, ZeroDivisor, EqualPoints, TooFew, NoCodeword}
use Rattle.ark_words.specs.Faults.{IsOfPoints}
use Rattle.ark_words.specs.Interpolations.{FitInterpolation, ArePointsDifferent, HasEqualPoints, AreInterpolating}
use Rattle.ark_words.specs.Numbers.{Spelled, BothReduced}
use Rattle.ark_c.specs.Statuses.{status_of}
use Rattle.ark_c.proofs.Outcomes.{Outcome}

-- what it says over one field
pub record TellsInterpolation (points values old : List ℕ) (f : Spelled) (new : List ℕ) (r : Outcome) : Type 0 where
  pub coefficients : OnOk r (AreInterpolating f points values new)
  pub kept : OnErr r (new ≡ old)
  pub taken : OnOk r (FitInterpolation f points values old × BothReduced f points values × ArePointsDifferent f points)
  pub length : (r ≡ Err Length) ↔ (¬ FitInterpolation f points values old)
  pub not_reduced : (r ≡ Err NotReduced) ↔ (FitInterpolation f points values old × (¬ BothReduced f points values))
  pub equal_points : (r ≡ Err EqualPoints) ↔ (FitInterpolation f points values old × BothReduced f points values × HasEqualPoints f points)
  pub no_other : IfErr r IsOfPoints

pub interpolation_number : (r : Outcome) → IfErr r IsOfPoints → status_of (Some r) ≤ 7
interpolation_number (Ok done) h = omega arith
interpolation_number (Err Memory) h = omega arith
interpolation_number (Err Length) h = omega arith
interpolation_number (Err NotReduced) h = omega arith
interpolation_number (Err NoDomain) h = absurd h
interpolation_number (Err ZeroDivisor) h = absurd h
interpolation_number (Err EqualPoints) h = omega arith
interpolation_number (Err TooFew) h = absurd h
interpolation_number (Err NoCodeword) h = absurd h

pub no_domain_wanted : (r : Outcome) → IfErr r IsOfPoints → r ≢ Err NoDomain
no_domain_wanted r h e = subst (λ o. IfErr o IsOfPoints) e h

pub no_divisor : (r : Outcome) → IfErr r IsOfPoints → r ≢ Err ZeroDivisor
no_divisor r h e = subst (λ o. IfErr o IsOfPoints) e h
