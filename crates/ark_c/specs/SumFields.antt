-- The fields over which sums are checked, by the numbers that name them, and the number of each outcome.
use Rattle.std.specs.Prelude.{ℕ, zero, suc, ◌==◌, Option, Some, None, Result, Ok, Err, if◌then◌else◌}
use Rattle.ark_word_sums.specs.declared.error.SumsError.{SumsError}
use Rattle.ark_word_sums.specs.declared.error.SumsError.TheVariants.{Memory, Length, Addends, NotReduced, Refused}

-- their order here
abbrev pub place_of : ℕ → Option ℕ
place_of name =
    if name == 2013265921 then Some 0
    else if name == 2130706433 then Some 1
    else if name == 18446744069414584321 then Some 2
    else if name == 254 then Some 3
    else if name == 12381 then Some 4
    else None

-- what is said of the field at a place; of none nothing holds
abbrev pub at_place : Option ℕ → (babybear koalabear goldilocks bn254 bls12_381 : Type 0) → Type 0
at_place None babybear koalabear goldilocks bn254 bls12_381 = ⊥
at_place (Some zero) babybear koalabear goldilocks bn254 bls12_381 = babybear
at_place (Some (suc zero)) babybear koalabear goldilocks bn254 bls12_381 = koalabear
at_place (Some (suc (suc zero))) babybear koalabear goldilocks bn254 bls12_381 = goldilocks
at_place (Some (suc (suc (suc zero)))) babybear koalabear goldilocks bn254 bls12_381 = bn254
at_place (Some other) babybear koalabear goldilocks bn254 bls12_381 = bls12_381

-- of a call over sums, and where there is no field
abbrev pub sum_status_of : Option (Result (Unit {0}) SumsError) → ℕ
sum_status_of None = 2
sum_status_of (Some (Ok done)) = 0
sum_status_of (Some (Err Memory)) = 1
sum_status_of (Some (Err Length)) = 3
sum_status_of (Some (Err NotReduced)) = 4
sum_status_of (Some (Err Addends)) = 12
sum_status_of (Some (Err Refused)) = 13
