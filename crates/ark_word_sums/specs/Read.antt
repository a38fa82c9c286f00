-- What is read of words.
use Rattle.std.specs.Prelude.{ℕ, ◌*◌, List, drop, map, take}
use Rattle.ark_math.specs.Module.{tabulate}
use Rattle.ark_sum_check.specs.Cube.{Product}
use Rattle.ark_sum_check.specs.declared.addend.Addend.{Addend}

-- addends by the numbers of their coefficients
abbrev pub numbered : {F : Type 0} → (F → ℕ) → List (Addend F) → List (Product ℕ)
numbered number ps = map (λ a. record { coefficient = number a.coefficient; factors = a.factors.items }) ps

-- a list in so many pieces of n items each
abbrev pub table_lists : ℕ → ℕ → List ℕ → List (List ℕ)
table_lists n count xs = tabulate count (λ i. take n (drop (i * n) xs))
