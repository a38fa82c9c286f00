-- What the error of a call over sums tells of the words.
use Rattle.std.proofs.Common.{◌≡◌, ◌≢◌, ℕ, List, Result, Ok, Err, IfErr, IsErrAnd, inl, inr, refl, sym, subst, rules}
use Rattle.ark_words.specs.Faults.{IsRefusal}
use Rattle.ark_words.specs.Numbers.{Spelled}
use Rattle.ark_words.specs.declared.error.WordsError.{WordsError}
use Rattle.ark_words.specs.declared.error.WordsError.TheVariants as words
use Rattle.ark_word_sums.specs.Faults.{IsRefusalOfNumbers, IsSumFault, of_words}
use Rattle.ark_word_sums.specs.Sums.{HasSum, IsReducedSum}
use Rattle.ark_word_sums.specs.declared.error.SumsError.{SumsError}
use Rattle.ark_word_sums.specs.declared.error.SumsError.TheVariants.{Memory, Length, Addends, NotReduced, Refused}

-- the error that a call hands on
pub for_error : {T : Type 0} (P : SumsError → Type 0) (r : Result T SumsError) (e : SumsError) → IsErrAnd r (λ x. x ≡ e) → P e → IfErr r P
for_error P (Ok x) e same p = absurd same
for_error P (Err x) e same p = subst P (sym same) p

-- memory alone, where all else is there
pub for_memory : {T : Type 0} (f : Spelled) (m d : ℕ) (tables addends : List ℕ) (r : Result T SumsError) → IsReducedSum f m d tables addends → IsErrAnd r (λ x. x ≡ Memory)
    → IfErr r (IsSumFault (HasSum f m d tables addends) (IsReducedSum f m d tables addends))
for_memory f m d tables addends r h same =
    for_error (IsSumFault (HasSum f m d tables addends) (IsReducedSum f m d tables addends)) r Memory same ((h.1, h.2), h)

-- what the clauses of `prover_of` say of its error
pub fault_of_prover : (A R : Type 0) (e : SumsError) → (e ≡ Addends → ¬ A) → (A → IsRefusalOfNumbers R e) → (e ≢ Addends → A) → IsSumFault A R e
fault_of_prover A R Memory none refusal some = let a = some (λ q. search rules) in (a, refusal a)
fault_of_prover A R Length none refusal some = refusal (some (λ q. search rules))
fault_of_prover A R Addends none refusal some = none refl
fault_of_prover A R NotReduced none refusal some = let a = some (λ q. search rules) in (a, refusal a)
fault_of_prover A R Refused none refusal some = refusal (some (λ q. search rules))

-- with the numbers of a point, of which one may not be below the modulus
pub fault_at : (A R P : Type 0) (e r : SumsError) → IsSumFault A R e → (e ≡ Memory → IsRefusalOfNumbers P r) → (e ≢ Memory → r ≡ e) → IsSumFault A (R × P) r
fault_at A R P Memory r h memory other = at_point r (memory refl)
  where
    at_point : (r : SumsError) → IsRefusalOfNumbers P r → IsSumFault A (R × P) r
    at_point Memory p = (h.0, (h.1, p))
    at_point Length p = absurd p
    at_point Addends p = absurd p
    at_point NotReduced p = (h.0, λ both. p both.1)
    at_point Refused p = absurd p
fault_at A R P Length r h memory other = absurd h
fault_at A R P Addends r h memory other = subst (IsSumFault A (R × P)) (sym (other (λ q. search rules))) h
fault_at A R P NotReduced r h memory other = subst (IsSumFault A (R × P)) (sym (other (λ q. search rules))) (h.0, λ both. h.1 both.0)
fault_at A R P Refused r h memory other = absurd h

-- where a point is read, and there is a sum
pub fault_of_point : (A R P : Type 0) (e : WordsError) → A → R → IsRefusal P words.Memory e → IsSumFault A (R × P) (of_words e)
fault_of_point A R P e a r (inl h) = subst (λ x. IsSumFault A (R × P) (of_words x)) (sym h.1) (a, (r, h.0))
fault_of_point A R P e a r (inr h) = subst (λ x. IsSumFault A (R × P) (of_words x)) (sym h.1) (a, λ both. h.0 both.1)
