-- More numbers than are used can't all be used.
use Rattle.std.proofs.Common.{◌≡◌, ℕ, zero, suc, ◌<◌, ◌≤◌, Bool, true, false, List, [], ◌∷◌, length, get_or, arith, suc-le-suc, zero-le}
use Rattle.std.proofs.Math.ListN.{set}
use Rattle.std.proofs.lemmas.Bool.Decides.{nat_tests}
use Rattle.shards_format.specs.Parts.{count_true, shown}

pub all_true : (xs : List Bool) → ((j : ℕ) → j < length xs → get_or xs j false ≡ true) → length xs ≤ count_true xs
all_true [] h = zero-le
all_true (true ∷ xs) h = suc-le-suc (all_true xs (λ j l. h (suc j) (omega (arith, l))))
all_true (false ∷ xs) h = let bad : false ≡ true = h 0 (omega arith) in cc bad

pub count_true-set : (xs : List Bool) (i : ℕ) → count_true (set xs i true) ≤ suc (count_true xs)
count_true-set [] i = omega arith
count_true-set (true ∷ xs) zero = omega arith
count_true-set (false ∷ xs) zero = omega arith
count_true-set (true ∷ xs) (suc i) = suc-le-suc (count_true-set xs i)
count_true-set (false ∷ xs) (suc i) = count_true-set xs i

-- ---- how a number is written

pub shown_mark : (mark x : ℕ) → x ≡ 65536 → mark ≡ shown mark x
shown_mark mark x e = grind (arith, nat_tests)

pub shown_itself : (mark x : ℕ) → (x ≡ 65536 → ⊥) → x ≡ shown mark x
shown_itself mark x ne = grind (arith, nat_tests)
