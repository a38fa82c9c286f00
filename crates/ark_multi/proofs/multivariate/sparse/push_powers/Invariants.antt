use Rattle.std.proofs.Common.{ℕ, ◌<◌}
use Rattle.std.specs.List.{All}
use Rattle.ark_math_variables.specs.Term.{IsOnePower, IsWithin}
use Rattle.ark_multi.proofs.multivariate.sparse.push_powers.Given as goal

abbrev pub invariant-loop-power : goal.invariant-loop-power
invariant-loop-power g l = record {
  within : (n : ℕ) → l.variable < n → All (λ c. IsWithin n (g.T.Term.listed c.1)) l.initial.terms.items → All (λ c. IsWithin n (g.T.Term.listed c.1)) l.terms.items;
  powers : All (λ c. IsOnePower l.d (g.T.Term.listed c.1)) l.terms.items;
}
