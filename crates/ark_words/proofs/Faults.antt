-- From the first condition that doesn't hold to the error of each.
use Rattle.std.proofs.Common.{◌≡◌, ◌↔◌, Result, Ok, Err, IsErrAnd, IfErr, MatchResult, inl, inr, refl, sym, subst, rules}
use Rattle.ark_words.specs.declared.error.WordsError.{WordsError}
use Rattle.ark_words.specs.declared.error.WordsError.TheVariants.{Memory, Length, NotReduced, NoDomain, ZeroDivisor, EqualPoints, TooFew, NoCodeword}
use Rattle.ark_words.specs.Faults.{IsFault, IsWordFault, IsRefusal}

pub for_error : {T : Type 0} (P : WordsError → Type 0) (r : Result T WordsError) (e : WordsError) → IsErrAnd r (λ x. x ≡ e) → P e → IfErr r P
for_error P (Ok x) e same p = absurd same
for_error P (Err x) e same p = subst P (sym same) p

pub same_error : {T E : Type 0} (r : Result T E) (e f : E) → IsErrAnd r (λ x. x ≡ e) → r ≡ Err f → e ≡ f
same_error r e f same is = sym (subst (λ t. IsErrAnd t (λ x. x ≡ e)) is same)

-- one more number that is below the modulus
pub refusal_more : (A B : Type 0) (error e : WordsError) → B → IsRefusal A error e → IsRefusal (A × B) error e
refusal_more A B error e b (inl h) = inl ((h.0, b), h.1)
refusal_more A B error e b (inr h) = inr ((λ both. h.0 both.0), h.1)

module _ (L R D : Type 0) where
  -- what a call that doesn't go on for want of numbers below the modulus answers
  pub refused : (e : WordsError) → L → (¬ D) → IsRefusal R NoDomain e → IsFault L R D e
  refused e l none (inl h) = subst (IsFault L R D) (sym h.1) (l, h.0, none)
  refused e l none (inr h) = subst (IsFault L R D) (sym h.1) (l, h.0)

  pub refused_memory : (e : WordsError) → L → D → IsRefusal R Memory e → IsFault L R D e
  refused_memory e l some (inl h) = subst (IsFault L R D) (sym h.1) (l, h.0, some)
  refused_memory e l some (inr h) = subst (IsFault L R D) (sym h.1) (l, h.0)

-- of the words of a code, whose lengths are judged before
module _ (R D E : Type 0) where
  pub refused_code : (e : WordsError) → (¬ D) → IsRefusal R NoDomain e → IsWordFault (Unit {0}) R D E (Unit {0}) e
  refused_code e none (inl h) = subst (IsWordFault (Unit {0}) R D E (Unit {0})) (sym h.1) (tt, h.0, none)
  refused_code e none (inr h) = subst (IsWordFault (Unit {0}) R D E (Unit {0})) (sym h.1) (tt, h.0)

  pub refused_few : (e : WordsError) → D → (¬ E) → IsRefusal R TooFew e → IsWordFault (Unit {0}) R D E (Unit {0}) e
  refused_few e some few (inl h) = subst (IsWordFault (Unit {0}) R D E (Unit {0})) (sym h.1) (tt, h.0, some, few)
  refused_few e some few (inr h) = subst (IsWordFault (Unit {0}) R D E (Unit {0})) (sym h.1) (tt, h.0)

  pub refused_words : (e : WordsError) → D → E → IsRefusal R Memory e → IsWordFault (Unit {0}) R D E (Unit {0}) e
  refused_words e some enough (inl h) = subst (IsWordFault (Unit {0}) R D E (Unit {0})) (sym h.1) (tt, h.0, some, enough)
  refused_words e some enough (inr h) = subst (IsWordFault (Unit {0}) R D E (Unit {0})) (sym h.1) (tt, h.0)

-- before any codeword is looked for
pub with_lengths : (L R D E C : Type 0) (e : WordsError) → L → IsWordFault (Unit {0}) R D E (Unit {0}) e → IsWordFault L R D E C e
with_lengths L R D E C Length l h = absurd (h tt)
with_lengths L R D E C NotReduced l h = (l, h.1)
with_lengths L R D E C NoDomain l h = (l, h.1, h.2)
with_lengths L R D E C TooFew l h = (l, h.1, h.2, h.3)
with_lengths L R D E C NoCodeword l h = absurd (h.4 tt)
with_lengths L R D E C ZeroDivisor l h = h
with_lengths L R D E C EqualPoints l h = h
with_lengths L R D E C Memory l h = (l, h.1, h.2, h.3)

-- the three conditions of a call, and what each error tells of them
pub record AreTold {T : Type 0} (L R D : Type 0) (r : Result T WordsError) : Type 0 where
  pub length : (r ≡ Err Length) ↔ (¬ L)
  pub not_reduced : (r ≡ Err NotReduced) ↔ (L × (¬ R))
  pub no_domain : (r ≡ Err NoDomain) ↔ (L × R × (¬ D))

pub told : {T : Type 0} (L R D : Type 0) (r : Result T WordsError) → MatchResult r (λ x. L × R × D) (IsFault L R D) → AreTold L R D r
told L R D (Ok x) h = record {
  length = ((λ e. absurd (search rules)), (λ no. absurd (no h.0)));
  not_reduced = ((λ e. absurd (search rules)), (λ no. absurd (no.1 h.1)));
  no_domain = ((λ e. absurd (search rules)), (λ no. absurd (no.2 h.2)));
}
told L R D (Err Length) h = record {
  length = ((λ e. h), (λ no. refl));
  not_reduced = ((λ e. absurd (search rules)), (λ no. absurd (h no.0)));
  no_domain = ((λ e. absurd (search rules)), (λ no. absurd (h no.0)));
}
told L R D (Err NotReduced) h = record {
  length = ((λ e. absurd (search rules)), (λ no. absurd (no h.0)));
  not_reduced = ((λ e. h), (λ no. refl));
  no_domain = ((λ e. absurd (search rules)), (λ no. absurd (h.1 no.1)));
}
told L R D (Err NoDomain) h = record {
  length = ((λ e. absurd (search rules)), (λ no. absurd (no h.0)));
  not_reduced = ((λ e. absurd (search rules)), (λ no. absurd (no.1 h.1)));
  no_domain = ((λ e. h), (λ no. refl));
}
told L R D (Err Memory) h = record {
  length = ((λ e. absurd (search rules)), (λ no. absurd (no h.0)));
  not_reduced = ((λ e. absurd (search rules)), (λ no. absurd (no.1 h.1)));
  no_domain = ((λ e. absurd (search rules)), (λ no. absurd (no.2 h.2)));
}
told L R D (Err ZeroDivisor) h = absurd h
told L R D (Err EqualPoints) h = absurd h
told L R D (Err TooFew) h = absurd h
told L R D (Err NoCodeword) h = absurd h
