-- Calls that ask for a domain too.
use Rattle.std.proofs.Common.{◌≡◌, ◌≢◌, ◌≤◌, ◌↔◌, ℕ, Option, Some, None, Ok, Err, OnOk, OnErr, IfErr, IsNone, IsSomeAnd, arith}
use Rattle.ark_words.specs.declared.error.WordsError.TheVariants.{Memory, Length, NotReduced, NoDomain, ZeroDivisor, EqualPoints, TooFew, NoCodeword}
use Rattle.ark_words.specs.Faults.{IsOfDomains}
use Rattle.ark_words.specs.Numbers.{Spelled}
use Rattle.ark_c.specs.Statuses.{status_of}
use Rattle.ark_c.proofs.Outcomes.{Outcome, IsOver, told_done, told_kept, told_no_field, told_error, told_most}

domain_number : (r : Outcome) → IfErr r IsOfDomains → status_of (Some r) ≤ 5
domain_number (Ok done) h = omega arith
domain_number (Err Memory) h = omega arith
domain_number (Err Length) h = omega arith
domain_number (Err NotReduced) h = omega arith
domain_number (Err NoDomain) h = omega arith
domain_number (Err ZeroDivisor) h = absurd h
domain_number (Err EqualPoints) h = absurd h
domain_number (Err TooFew) h = absurd h
domain_number (Err NoCodeword) h = absurd h

module _ {X : Type 0} (Done : Spelled → X → Type 0) (Fit Reduced Domain : Spelled → Type 0) (old : X) where
  -- what the call over one field says
  pub record TellsOfDomains (f : Spelled) (new : X) (r : Outcome) : Type 0 where
    pub done : OnOk r (Done f new)
    pub kept : OnErr r (new ≡ old)
    pub taken : OnOk r (Fit f × Reduced f × Domain f)
    pub length : (r ≡ Err Length) ↔ (¬ Fit f)
    pub not_reduced : (r ≡ Err NotReduced) ↔ (Fit f × (¬ Reduced f))
    pub no_domain : (r ≡ Err NoDomain) ↔ (Fit f × Reduced f × (¬ Domain f))
    pub no_other : IfErr r IsOfDomains

  -- what its number tells
  pub record IsDomainCall (new : X) (field : Option Spelled) (status : ℕ) : Type 0 where
    pub done : status ≡ 0 → IsSomeAnd field (λ f. Done f new)
    pub kept : status ≢ 0 → new ≡ old
    pub taken : status ≡ 0 → IsSomeAnd field (λ f. Fit f × Reduced f × Domain f)
    pub no_field : (status ≡ 2) ↔ IsNone field
    pub length : (status ≡ 3) ↔ IsSomeAnd field (λ f. ¬ Fit f)
    pub not_reduced : (status ≡ 4) ↔ IsSomeAnd field (λ f. Fit f × (¬ Reduced f))
    pub no_domain : (status ≡ 5) ↔ IsSomeAnd field (λ f. Fit f × Reduced f × (¬ Domain f))
    pub no_other : status ≤ 5

  pub domain_call : (new : X) (field : Option Spelled) {answer : Option Outcome} {status : ℕ} → status ≡ status_of answer → IsOver TellsOfDomains old new field answer → IsDomainCall new field status
  domain_call new field e is = record {
    done = told_done TellsOfDomains old new e (λ f. Done f new) (λ f r says. says.done) field is;
    kept = told_kept TellsOfDomains old new e (λ same. same) (λ f r says. says.kept) field is;
    taken = told_done TellsOfDomains old new e (λ f. Fit f × Reduced f × Domain f) (λ f r says. says.taken) field is;
    no_field = told_no_field TellsOfDomains old new e field is;
    length = told_error TellsOfDomains old new e Length (λ f. ¬ Fit f) (λ f r says. says.length) field is;
    not_reduced = told_error TellsOfDomains old new e NotReduced (λ f. Fit f × (¬ Reduced f)) (λ f r says. says.not_reduced) field is;
    no_domain = told_error TellsOfDomains old new e NoDomain (λ f. Fit f × Reduced f × (¬ Domain f)) (λ f r says. says.no_domain) field is;
    no_other = told_most TellsOfDomains old new e 5 (omega arith) (λ f r says. domain_number r says.no_other) field is;
  }
