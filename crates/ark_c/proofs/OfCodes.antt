-- Calls over the words of a code, with places lost.
use Rattle.std.proofs.Common.{◌≡◌, ◌≢◌, ◌≤◌, ◌↔◌, ℕ, Option, Some, None, Ok, Err, Result, OnOk, OnErr, IfErr, MatchResult, IsNone, IsSomeAnd, refl, subst, arith, rules}
use Rattle.ark_words.specs.declared.error.WordsError.{WordsError}
use Rattle.ark_words.specs.declared.error.WordsError.TheVariants.{Memory, Length, NotReduced, NoDomain, ZeroDivisor, EqualPoints, TooFew, NoCodeword}
use Rattle.ark_words.specs.Faults.{IsWordFault}
use Rattle.ark_words.specs.Numbers.{Spelled}
use Rattle.ark_c.specs.Statuses.{status_of}
use Rattle.ark_c.proofs.Outcomes.{Outcome, IsOver, told_done, told_kept, told_no_field, told_error, told_only, told_most, told_never}

-- the conditions of a code's words, and what each error but the last tells of them
record AreWordsTold {T : Type 0} (L R D E : Type 0) (r : Result T WordsError) : Type 0 where
  pub length : (r ≡ Err Length) ↔ (¬ L)
  pub not_reduced : (r ≡ Err NotReduced) ↔ (L × (¬ R))
  pub no_domain : (r ≡ Err NoDomain) ↔ (L × R × (¬ D))
  pub too_few : (r ≡ Err TooFew) ↔ (L × R × D × (¬ E))

told_words : {T : Type 0} (L R D E C : Type 0) (r : Result T WordsError) → MatchResult r (λ x. L × R × D × E) (IsWordFault L R D E C) → AreWordsTold L R D E r
told_words L R D E C (Ok x) h = record {
  length = ((λ e. absurd (search rules)), (λ no. absurd (no h.0)));
  not_reduced = ((λ e. absurd (search rules)), (λ no. absurd (no.1 h.1)));
  no_domain = ((λ e. absurd (search rules)), (λ no. absurd (no.2 h.2)));
  too_few = ((λ e. absurd (search rules)), (λ no. absurd (no.3 h.3)));
}
told_words L R D E C (Err Length) h = record {
  length = ((λ e. h), (λ no. refl));
  not_reduced = ((λ e. absurd (search rules)), (λ no. absurd (h no.0)));
  no_domain = ((λ e. absurd (search rules)), (λ no. absurd (h no.0)));
  too_few = ((λ e. absurd (search rules)), (λ no. absurd (h no.0)));
}
told_words L R D E C (Err NotReduced) h = record {
  length = ((λ e. absurd (search rules)), (λ no. absurd (no h.0)));
  not_reduced = ((λ e. h), (λ no. refl));
  no_domain = ((λ e. absurd (search rules)), (λ no. absurd (h.1 no.1)));
  too_few = ((λ e. absurd (search rules)), (λ no. absurd (h.1 no.1)));
}
told_words L R D E C (Err NoDomain) h = record {
  length = ((λ e. absurd (search rules)), (λ no. absurd (no h.0)));
  not_reduced = ((λ e. absurd (search rules)), (λ no. absurd (no.1 h.1)));
  no_domain = ((λ e. h), (λ no. refl));
  too_few = ((λ e. absurd (search rules)), (λ no. absurd (h.2 no.2)));
}
told_words L R D E C (Err TooFew) h = record {
  length = ((λ e. absurd (search rules)), (λ no. absurd (no h.0)));
  not_reduced = ((λ e. absurd (search rules)), (λ no. absurd (no.1 h.1)));
  no_domain = ((λ e. absurd (search rules)), (λ no. absurd (no.2 h.2)));
  too_few = ((λ e. h), (λ no. refl));
}
told_words L R D E C (Err NoCodeword) h = record {
  length = ((λ e. absurd (search rules)), (λ no. absurd (no h.0)));
  not_reduced = ((λ e. absurd (search rules)), (λ no. absurd (no.1 h.1)));
  no_domain = ((λ e. absurd (search rules)), (λ no. absurd (no.2 h.2)));
  too_few = ((λ e. absurd (search rules)), (λ no. absurd (no.3 h.3)));
}
told_words L R D E C (Err ZeroDivisor) h = absurd h
told_words L R D E C (Err EqualPoints) h = absurd h
told_words L R D E C (Err Memory) h = record {
  length = ((λ e. absurd (search rules)), (λ no. absurd (no h.0)));
  not_reduced = ((λ e. absurd (search rules)), (λ no. absurd (no.1 h.1)));
  no_domain = ((λ e. absurd (search rules)), (λ no. absurd (no.2 h.2)));
  too_few = ((λ e. absurd (search rules)), (λ no. absurd (no.3 h.3)));
}

both_ways : (A : Type 0) (B : WordsError → Type 0) (r : Outcome) → OnOk r A → IfErr r B → MatchResult r (λ x. A) B
both_ways A B (Ok x) a b = a
both_ways A B (Err e) a b = b

any_number : (r : Outcome) → status_of (Some r) ≤ 9
any_number (Ok done) = omega arith
any_number (Err Memory) = omega arith
any_number (Err Length) = omega arith
any_number (Err NotReduced) = omega arith
any_number (Err NoDomain) = omega arith
any_number (Err ZeroDivisor) = omega arith
any_number (Err EqualPoints) = omega arith
any_number (Err TooFew) = omega arith
any_number (Err NoCodeword) = omega arith

module _ {X : Type 0} (Done : Spelled → X → Type 0) (Fit Reduced Code Enough Codewords : Spelled → Type 0) (old : X) where
  -- what the call over one field says
  pub record TellsOfCodes (f : Spelled) (new : X) (r : Outcome) : Type 0 where
    pub done : OnOk r (Done f new)
    pub kept : OnErr r (new ≡ old)
    pub taken : OnOk r (Fit f × Reduced f × Code f × Enough f)
    pub fault : IfErr r (IsWordFault (Fit f) (Reduced f) (Code f) (Enough f) (Codewords f))

  -- what its number tells
  pub record IsCodeCall (new : X) (field : Option Spelled) (status : ℕ) : Type 0 where
    pub done : status ≡ 0 → IsSomeAnd field (λ f. Done f new)
    pub kept : status ≢ 0 → new ≡ old
    pub taken : status ≡ 0 → IsSomeAnd field (λ f. Fit f × Reduced f × Code f × Enough f)
    pub no_field : (status ≡ 2) ↔ IsNone field
    pub length : (status ≡ 3) ↔ IsSomeAnd field (λ f. ¬ Fit f)
    pub not_reduced : (status ≡ 4) ↔ IsSomeAnd field (λ f. Fit f × (¬ Reduced f))
    pub no_domain : (status ≡ 5) ↔ IsSomeAnd field (λ f. Fit f × Reduced f × (¬ Code f))
    pub too_few : (status ≡ 8) ↔ IsSomeAnd field (λ f. Fit f × Reduced f × Code f × (¬ Enough f))
    pub no_codeword : status ≡ 9 → IsSomeAnd field (λ f. Fit f × Reduced f × Code f × Enough f × (¬ Codewords f))
    pub no_other : (status ≤ 9) × (status ≢ 6) × (status ≢ 7)

  words_told : (f : Spelled) (new : X) (r : Outcome) → TellsOfCodes f new r → AreWordsTold (Fit f) (Reduced f) (Code f) (Enough f) r
  words_told f new r says = told_words (Fit f) (Reduced f) (Code f) (Enough f) (Codewords f) r
      (both_ways (Fit f × Reduced f × Code f × Enough f) (IsWordFault (Fit f) (Reduced f) (Code f) (Enough f) (Codewords f)) r says.taken says.fault)

  fault_at : (f : Spelled) (new : X) (r : Outcome) → TellsOfCodes f new r → (x : WordsError) → r ≡ Err x → IsWordFault (Fit f) (Reduced f) (Code f) (Enough f) (Codewords f) x
  fault_at f new r says x e = subst (λ o. IfErr o (IsWordFault (Fit f) (Reduced f) (Code f) (Enough f) (Codewords f))) e says.fault

  pub code_call : (new : X) (field : Option Spelled) {answer : Option Outcome} {status : ℕ} → status ≡ status_of answer → IsOver TellsOfCodes old new field answer → IsCodeCall new field status
  code_call new field e is = record {
    done = told_done TellsOfCodes old new e (λ f. Done f new) (λ f r says. says.done) field is;
    kept = told_kept TellsOfCodes old new e (λ same. same) (λ f r says. says.kept) field is;
    taken = told_done TellsOfCodes old new e (λ f. Fit f × Reduced f × Code f × Enough f) (λ f r says. says.taken) field is;
    no_field = told_no_field TellsOfCodes old new e field is;
    length = told_error TellsOfCodes old new e Length (λ f. ¬ Fit f) (λ f r says. (words_told f new r says).length) field is;
    not_reduced = told_error TellsOfCodes old new e NotReduced (λ f. Fit f × (¬ Reduced f)) (λ f r says. (words_told f new r says).not_reduced) field is;
    no_domain = told_error TellsOfCodes old new e NoDomain (λ f. Fit f × Reduced f × (¬ Code f)) (λ f r says. (words_told f new r says).no_domain) field is;
    too_few = told_error TellsOfCodes old new e TooFew (λ f. Fit f × Reduced f × Code f × (¬ Enough f)) (λ f r says. (words_told f new r says).too_few) field is;
    no_codeword = told_only TellsOfCodes old new e NoCodeword (λ f. Fit f × Reduced f × Code f × Enough f × (¬ Codewords f)) (λ f r says. fault_at f new r says NoCodeword) field is;
    no_other = (
      told_most TellsOfCodes old new e 9 (omega arith) (λ f r says. any_number r) field is,
      told_never TellsOfCodes old new e ZeroDivisor (λ f r says. fault_at f new r says ZeroDivisor) field is,
      told_never TellsOfCodes old new e EqualPoints (λ f r says. fault_at f new r says EqualPoints) field is,
    );
  }
