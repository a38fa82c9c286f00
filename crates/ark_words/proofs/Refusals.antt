-- What an error tells of the numbers, where the lengths fit.
use Rattle.std.proofs.Common.{◌≡◌, ◌≢◌, ◌↔◌, Result, Ok, Err, IsErrAnd, inl, inr, sym, ap, ◌∙◌, rules}
use Rattle.ark_words.specs.declared.error.WordsError.{WordsError}
use Rattle.ark_words.specs.declared.error.WordsError.TheVariants.{NotReduced, ZeroDivisor}
use Rattle.ark_words.specs.Faults.{IsRefusal}

pub err_same : {T : Type 0} (x y : WordsError) → ◌≡◌ {A = Result T WordsError} (Err x) (Err y) → x ≡ y
err_same x y e = search rules

pub numbers_told : {T : Type 0} (L R : Type 0) (r : Result T WordsError) (e error : WordsError) → error ≢ NotReduced → L → IsErrAnd r (λ x. x ≡ e) → IsRefusal R error e
    → (r ≡ Err NotReduced) ↔ (L × (¬ R))
numbers_told L R (Ok x) e error other l same h = absurd same
numbers_told L R (Err x) e error other l same (inl h) = ((λ n. absurd (other (sym h.1 ∙ sym same ∙ err_same x NotReduced n))), (λ no. absurd (no.1 h.0)))
numbers_told L R (Err x) e error other l same (inr h) = ((λ n. (l, h.0)), (λ no. ap Err (same ∙ h.1)))

two_errors : ◌≡◌ {A = WordsError} NotReduced ZeroDivisor → ⊥
two_errors e = search rules

pub refused_zero : {T : Type 0} (L R Z : Type 0) (r : Result T WordsError) (e : WordsError) → L → Z → IsErrAnd r (λ x. x ≡ e) → IsRefusal R ZeroDivisor e
    → (r ≡ Err ZeroDivisor) ↔ (L × R × Z)
refused_zero L R Z (Ok x) e l z same h = absurd same
refused_zero L R Z (Err x) e l z same (inl h) = ((λ n. (l, h.0, z)), (λ all. ap Err (same ∙ h.1)))
refused_zero L R Z (Err x) e l z same (inr h) = ((λ n. absurd (two_errors (sym (same ∙ h.1) ∙ err_same x ZeroDivisor n))), (λ all. absurd (h.0 all.1)))

pub no_zero_told : {T : Type 0} (L R Z : Type 0) (r : Result T WordsError) (e error : WordsError) → error ≢ ZeroDivisor → (¬ Z) → IsErrAnd r (λ x. x ≡ e) → IsRefusal R error e
    → (r ≡ Err ZeroDivisor) ↔ (L × R × Z)
no_zero_told L R Z (Ok x) e error other some same h = absurd same
no_zero_told L R Z (Err x) e error other some same (inl h) = ((λ n. absurd (other (sym (same ∙ h.1) ∙ err_same x ZeroDivisor n))), (λ all. absurd (some all.2)))
no_zero_told L R Z (Err x) e error other some same (inr h) = ((λ n. absurd (two_errors (sym (same ∙ h.1) ∙ err_same x ZeroDivisor n))), (λ all. absurd (some all.2)))
