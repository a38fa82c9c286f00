-- A number below 2^64 fits as many bytes as it has.
use Rattle.std.proofs.Common.{◌≡◌, ℕ, ◌<◌, ◌≤◌, ◌^◌, nat_lt, Bool, true, false, cond, arith, refl, lit<}
use Rattle.std.proofs.lemmas.Bool.{ltb-true}
use Rattle.ark_base.specs.Widths.{width_of}

choose : (P : ℕ → Type 0) (b : Bool) (x y : ℕ) → (b ≡ true → P x) → P y → P (cond b x y)
choose P true x y f g = f refl
choose P false x y f g = g

pub width_fits : (n : ℕ) → n < 2 ^ 64 → n ≤ 256 ^ width_of n
width_fits n h =
    let P = λ (w : ℕ). n ≤ 256 ^ w in
    choose P (nat_lt n (2 ^ 8)) 1 _ (λ e. omega (arith, ltb-true n 256 e))
    (choose P (nat_lt n (2 ^ 16)) 2 _ (λ e. omega (arith, ltb-true n 65536 e))
    (choose P (nat_lt n (2 ^ 24)) 3 _ (λ e. omega (arith, ltb-true n 16777216 e))
    (choose P (nat_lt n (2 ^ 32)) 4 _ (λ e. omega (arith, ltb-true n 4294967296 e))
    (choose P (nat_lt n (2 ^ 40)) 5 _ (λ e. omega (arith, ltb-true n 1099511627776 e))
    (choose P (nat_lt n (2 ^ 48)) 6 _ (λ e. omega (arith, ltb-true n 281474976710656 e))
    (choose P (nat_lt n (2 ^ 56)) 7 8 (λ e. omega (arith, ltb-true n 72057594037927936 e)) (omega arith)))))))

-- what holds of each number from 1 to 8 holds of a width
at_width : (P : ℕ → Type 0) → P 1 → P 2 → P 3 → P 4 → P 5 → P 6 → P 7 → P 8 → (n : ℕ) → P (width_of n)
at_width P a b c d e f g h n =
    choose P (nat_lt n (2 ^ 8)) 1 _ (λ _. a)
    (choose P (nat_lt n (2 ^ 16)) 2 _ (λ _. b)
    (choose P (nat_lt n (2 ^ 24)) 3 _ (λ _. c)
    (choose P (nat_lt n (2 ^ 32)) 4 _ (λ _. d)
    (choose P (nat_lt n (2 ^ 40)) 5 _ (λ _. e)
    (choose P (nat_lt n (2 ^ 48)) 6 _ (λ _. f)
    (choose P (nat_lt n (2 ^ 56)) 7 8 (λ _. g) h))))))

pub width_positive : (n : ℕ) → 0 < width_of n
width_positive = at_width (λ w. 0 < w) (lit< tt) (lit< tt) (lit< tt) (lit< tt) (lit< tt) (lit< tt) (lit< tt) (lit< tt)
