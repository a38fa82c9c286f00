-- What the error of a call at points tells.
use Rattle.std.proofs.Common.{◌≡◌, ◌↔◌, ℕ, Option, Some, None, Result, Err, IsNone, IsSome, refl, rules}
use Rattle.ark_math_points.specs.AtPoints.{AreDifferent, HasRepeated}
use Rattle.ark_words.specs.declared.error.WordsError.{WordsError}
use Rattle.ark_words.specs.declared.error.WordsError.TheVariants.{Memory, Length, NotReduced, NoDomain, ZeroDivisor, EqualPoints, TooFew, NoCodeword}
use Rattle.ark_words.specs.Faults.{IsOfPoints, IsRefusalOfPoints}

abbrev Answer : Type 0
Answer = Result (Unit {0}) WordsError

pub of_points : (R E : Type 0) (e : WordsError) → IsRefusalOfPoints R E e → IsOfPoints e
of_points R E Memory h = tt
of_points R E Length h = absurd h
of_points R E NotReduced h = tt
of_points R E NoDomain h = absurd h
of_points R E ZeroDivisor h = absurd h
of_points R E EqualPoints h = tt
of_points R E TooFew h = absurd h
of_points R E NoCodeword h = absurd h

pub points_not_reduced : (L R E : Type 0) (e : WordsError) → L → IsRefusalOfPoints R E e → (◌≡◌ {A = Answer} (Err e) (Err NotReduced)) ↔ (L × (¬ R))
points_not_reduced L R E Memory l h = ((λ n. absurd (search rules)), (λ no. absurd (no.1 h.0)))
points_not_reduced L R E Length l h = absurd h
points_not_reduced L R E NotReduced l h = ((λ n. (l, h)), (λ no. refl))
points_not_reduced L R E NoDomain l h = absurd h
points_not_reduced L R E ZeroDivisor l h = absurd h
points_not_reduced L R E EqualPoints l h = ((λ n. absurd (search rules)), (λ no. absurd (no.1 h.0)))
points_not_reduced L R E TooFew l h = absurd h
points_not_reduced L R E NoCodeword l h = absurd h

pub points_equal : (L R E : Type 0) (e : WordsError) → L → IsRefusalOfPoints R E e → (◌≡◌ {A = Answer} (Err e) (Err EqualPoints)) ↔ (L × R × E)
points_equal L R E Memory l h = ((λ n. absurd (search rules)), (λ all. absurd (h.1 all.2)))
points_equal L R E Length l h = absurd h
points_equal L R E NotReduced l h = ((λ n. absurd (search rules)), (λ all. absurd (h all.1)))
points_equal L R E NoDomain l h = absurd h
points_equal L R E ZeroDivisor l h = absurd h
points_equal L R E EqualPoints l h = ((λ n. (l, h.0, h.1)), (λ all. refl))
points_equal L R E TooFew l h = absurd h
points_equal L R E NoCodeword l h = absurd h

pub points_length : (L R E : Type 0) (e : WordsError) → L → IsRefusalOfPoints R E e → (◌≡◌ {A = Answer} (Err e) (Err Length)) ↔ (¬ L)
points_length L R E Memory l h = ((λ n. absurd (search rules)), (λ no. absurd (no l)))
points_length L R E Length l h = absurd h
points_length L R E NotReduced l h = ((λ n. absurd (search rules)), (λ no. absurd (no l)))
points_length L R E NoDomain l h = absurd h
points_length L R E ZeroDivisor l h = absurd h
points_length L R E EqualPoints l h = ((λ n. absurd (search rules)), (λ no. absurd (no l)))
points_length L R E TooFew l h = absurd h
points_length L R E NoCodeword l h = absurd h

pub some_of : {A : Type 0} (o : Option A) → (IsNone o → ⊥) → IsSome o
some_of None other = absurd (other (search rules))
some_of (Some x) other = search rules

-- different points and others aren't repeated
pub not_repeated : {F : Type 0} (n : ℕ) (x : ℕ → F) → AreDifferent n x → HasRepeated n x → ⊥
not_repeated n x different h = different h.0 h.1 h.2 h.3 h.4
