-- The call of quotients and remainders.
use Rattle.std.proofs.Common.{◌≡◌, ◌≢◌, ◌≤◌, ◌↔◌, ℕ, List, Some, Ok, Err, OnOk, OnErr, IfErr, subst, arith}
use Rattle.ark_words.specs.declared.error.WordsError.TheVariants.{Memory, Length, NotReduced, NoDomain, ZeroDivisor, EqualPoints, TooFew, NoCodeword}
use Rattle.ark_words.specs.Faults.{IsOfDivision}
use Rattle.ark_words.specs.Numbers.{Spelled, BothReduced}
use Rattle.ark_words.specs.Products.{FitQuotient, AreZeros, IsDivisible, AreDivided}
use Rattle.ark_c.specs.Statuses.{status_of}
use Rattle.ark_c.proofs.Outcomes.{Outcome}

-- what it says over one field
pub record TellsQuotient (dividend divisor old_quotient old_remainder : List ℕ) (f : Spelled) (new : List ℕ × List ℕ) (r : Outcome) : Type 0 where
  pub quotient : OnOk r (AreDivided f dividend divisor new.0 new.1)
  pub kept : OnErr r ((new.0 ≡ old_quotient) × (new.1 ≡ old_remainder))
  pub taken : OnOk r (IsDivisible f dividend divisor old_quotient old_remainder)
  pub length : (r ≡ Err Length) ↔ (¬ FitQuotient f dividend divisor old_quotient old_remainder)
  pub not_reduced : (r ≡ Err NotReduced) ↔ (FitQuotient f dividend divisor old_quotient old_remainder × (¬ BothReduced f dividend divisor))
  pub zero_divisor : (r ≡ Err ZeroDivisor) ↔ (FitQuotient f dividend divisor old_quotient old_remainder × BothReduced f dividend divisor × AreZeros f divisor)
  pub no_other : IfErr r IsOfDivision

pub division_number : (r : Outcome) → IfErr r IsOfDivision → status_of (Some r) ≤ 6
division_number (Ok done) h = omega arith
division_number (Err Memory) h = omega arith
division_number (Err Length) h = omega arith
division_number (Err NotReduced) h = omega arith
division_number (Err NoDomain) h = absurd h
division_number (Err ZeroDivisor) h = omega arith
division_number (Err EqualPoints) h = absurd h
division_number (Err TooFew) h = absurd h
division_number (Err NoCodeword) h = absurd h

pub no_domain_wanted : (r : Outcome) → IfErr r IsOfDivision → r ≢ Err NoDomain
no_domain_wanted r h e = subst (λ o. IfErr o IsOfDivision) e h
