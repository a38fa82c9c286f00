-- How many bytes an element has.
use Rattle.std.specs.Prelude.{◌≡◌, ℕ, refl, ◌^◌, nat_lt, if◌then◌else◌}
use Rattle.ark_math_formats.specs.Format.{Format, number, stored}

-- how many bytes a number below 2^64 has
abbrev pub width_of : ℕ → ℕ
width_of n =
    if nat_lt n (2 ^ 8) then 1
    else if nat_lt n (2 ^ 16) then 2
    else if nat_lt n (2 ^ 24) then 3
    else if nat_lt n (2 ^ 32) then 4
    else if nat_lt n (2 ^ 40) then 5
    else if nat_lt n (2 ^ 48) then 6
    else if nat_lt n (2 ^ 56) then 7
    else 8

-- an element of a prime field: its number below the modulus, in as many bytes as the modulus has
abbrev pub residue : {F : Type 0} → ℕ → (F → ℕ) → Format F
residue modulus number_of_element = stored (number (width_of modulus)) number_of_element

widths : (width_of 5 ≡ 1) × (width_of 433 ≡ 2) × (width_of 65537 ≡ 3) × (width_of 2147483647 ≡ 4) × (width_of 18446744069414584321 ≡ 8)
widths = (refl, refl, refl, refl, refl)
