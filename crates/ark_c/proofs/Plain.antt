-- Calls that ask for lengths and numbers alone.
use Rattle.std.proofs.Common.{◌≡◌, ◌≢◌, ◌≤◌, ◌↔◌, ℕ, Option, Some, None, Ok, Err, OnOk, OnErr, IfErr, IsNone, IsSomeAnd, arith}
use Rattle.ark_words.specs.declared.error.WordsError.TheVariants.{Memory, Length, NotReduced, NoDomain, ZeroDivisor, EqualPoints, TooFew, NoCodeword}
use Rattle.ark_words.specs.Faults.{IsPlain}
use Rattle.ark_words.specs.Numbers.{Spelled}
use Rattle.ark_c.specs.Statuses.{status_of}
use Rattle.ark_c.proofs.Outcomes.{Outcome, IsOver, told_done, told_kept, told_no_field, told_error, told_most}

plain_number : (r : Outcome) → IfErr r IsPlain → status_of (Some r) ≤ 4
plain_number (Ok done) h = omega arith
plain_number (Err Memory) h = omega arith
plain_number (Err Length) h = omega arith
plain_number (Err NotReduced) h = omega arith
plain_number (Err NoDomain) h = absurd h
plain_number (Err ZeroDivisor) h = absurd h
plain_number (Err EqualPoints) h = absurd h
plain_number (Err TooFew) h = absurd h
plain_number (Err NoCodeword) h = absurd h

module _ {X : Type 0} (Done : Spelled → X → Type 0) (Fit Reduced : Spelled → Type 0) (old : X) where
  -- what the call over one field says
  pub record TellsPlain (f : Spelled) (new : X) (r : Outcome) : Type 0 where
    pub done : OnOk r (Done f new)
    pub kept : OnErr r (new ≡ old)
    pub taken : OnOk r (Fit f × Reduced f)
    pub length : (r ≡ Err Length) ↔ (¬ Fit f)
    pub not_reduced : (r ≡ Err NotReduced) ↔ (Fit f × (¬ Reduced f))
    pub no_other : IfErr r IsPlain

  -- what its number tells
  pub record IsPlainCall (new : X) (field : Option Spelled) (status : ℕ) : Type 0 where
    pub done : status ≡ 0 → IsSomeAnd field (λ f. Done f new)
    pub kept : status ≢ 0 → new ≡ old
    pub taken : status ≡ 0 → IsSomeAnd field (λ f. Fit f × Reduced f)
    pub no_field : (status ≡ 2) ↔ IsNone field
    pub length : (status ≡ 3) ↔ IsSomeAnd field (λ f. ¬ Fit f)
    pub not_reduced : (status ≡ 4) ↔ IsSomeAnd field (λ f. Fit f × (¬ Reduced f))
    pub no_other : status ≤ 4

  pub plain_call : (new : X) (field : Option Spelled) {answer : Option Outcome} {status : ℕ} → status ≡ status_of answer → IsOver TellsPlain old new field answer → IsPlainCall new field status
  plain_call new field e is = record {
    done = told_done TellsPlain old new e (λ f. Done f new) (λ f r says. says.done) field is;
    kept = told_kept TellsPlain old new e (λ same. same) (λ f r says. says.kept) field is;
    taken = told_done TellsPlain old new e (λ f. Fit f × Reduced f) (λ f r says. says.taken) field is;
    no_field = told_no_field TellsPlain old new e field is;
    length = told_error TellsPlain old new e Length (λ f. ¬ Fit f) (λ f r says. says.length) field is;
    not_reduced = told_error TellsPlain old new e NotReduced (λ f. Fit f × (¬ Reduced f)) (λ f r says. says.not_reduced) field is;
    no_other = told_most TellsPlain old new e 4 (omega arith) (λ f r says. plain_number r says.no_other) field is;
  }
