-- An error that is none of the others is refused memory.
use Rattle.std.proofs.Common.{◌≡◌, ◌==◌, ◌<◌, ℕ, zero, suc, false, true≢false, arith, refl, Result, Ok, Err}
use Rattle.std.specs.Result.{OnOk}
use Rattle.rs_code.specs.declared.error.RsError.{RsError}
use Rattle.rs_code.specs.declared.error.RsError.TheVariants.{Memory, WrongLength, TooManyErased, NoCodeword}

pub only_memory : {X : Type 0} (error : RsError) → (◌≡◌ {A = Result X RsError} (Err error) (Err WrongLength) → ⊥) → (◌≡◌ {A = Result X RsError} (Err error) (Err TooManyErased) → ⊥)
    → (◌≡◌ {A = Result X RsError} (Err error) (Err NoCodeword) → ⊥) → error ≡ Memory
only_memory Memory length many none = refl
only_memory WrongLength length many none = absurd (length refl)
only_memory TooManyErased length many none = absurd (many refl)
only_memory NoCodeword length many none = absurd (none refl)

-- what holds of an answer holds of it in other words
pub on_ok_more : {X E : Type 0} {P Q : Type 0} (result : Result X E) → (P → Q) → OnOk result P → OnOk result Q
on_ok_more (Ok x) f h = f h
on_ok_more (Err e) f h = h

-- what is not empty has some
pub some_rows : (n : ℕ) → (n == 0) ≡ false → 0 < n
some_rows zero e = absurd (true≢false e)
some_rows (suc n) e = omega arith
