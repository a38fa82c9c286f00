-- The graded order of terms, as a comparison of their lists.
use Rattle.std.specs.Prelude.{ℕ, List}
use Rattle.std.specs.Cmp.Lexicographic.{slice_cmp}
use Rattle.std.specs.declared.cmp.Ordering.{Ordering}
use Rattle.std.specs.Ordering.{nat_cmp, on, flip_args, then_cmp}
use Rattle.ark_math_variables.specs.Term.{total_degree}

-- the lower variable is greater, and of one variable the greater power is
abbrev pub pair_cmp : ℕ × ℕ → ℕ × ℕ → Ordering
pair_cmp = then_cmp (flip_args (on (λ p. p.0) nat_cmp)) (on (λ p. p.1) nat_cmp)

-- by total degree, and of equal totals by the first pairs that differ
abbrev pub graded_cmp : List (ℕ × ℕ) → List (ℕ × ℕ) → Ordering
graded_cmp = then_cmp (on total_degree nat_cmp) (slice_cmp pair_cmp)
