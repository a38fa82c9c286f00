-- Calls that ask for lengths and numbers alone.
use Rattle.std.proofs.Common.{◌≡◌, ◌↔◌, Result, Ok, Err, IsErrAnd, inl, inr, ap, ◌∙◌, rules}
use Rattle.ark_words.specs.declared.error.WordsError.{WordsError}
use Rattle.ark_words.specs.declared.error.WordsError.TheVariants.{Memory, NotReduced}
use Rattle.ark_words.specs.Faults.{IsRefusal}

-- what such a call's error tells, where the lengths fit
pub refused_told : {T : Type 0} (L R : Type 0) (r : Result T WordsError) (e : WordsError) → IsErrAnd r (λ x. x ≡ e) → L → IsRefusal R Memory e → (r ≡ Err NotReduced) ↔ (L × (¬ R))
refused_told L R (Ok x) e same l h = absurd same
refused_told L R (Err x) e same l (inl h) = ((λ q. let p : x ≡ Memory = same ∙ h.1 in absurd (search rules)), (λ no. absurd (no.1 h.0)))
refused_told L R (Err x) e same l (inr h) = ((λ q. (l, h.0)), (λ no. ap Err (same ∙ h.1)))
