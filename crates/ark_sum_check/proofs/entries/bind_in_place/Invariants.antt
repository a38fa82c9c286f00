use Rattle.std.proofs.Common.{◌≡◌, ℕ, ◌*◌, ◌<◌, ◌≤◌, [], ◌∷◌, take, drop}
use Rattle.std.specs.Prelude.{All}
use Rattle.ark_math_variables.specs.Multilinear.{fixed}
use Rattle.ark_math.specs.Univariate.{of_pairs}
use Rattle.ark_sum_check.specs.Provers.{AreRising}
use Rattle.ark_sum_check.proofs.EntryTables.{AreBehind}
use Rattle.ark_sum_check.proofs.entries.bind_in_place.Given as goal

abbrev pub invariant-loop-i : goal.invariant-loop-i
invariant-loop-i g l =
    let K = g.F.Field.field in
    record {
      values : of_pairs K (take l.kept l.entries) ≡ fixed K (of_pairs K (take l.i l.initial.entries)) (l.x ∷ []);
      below : (n : ℕ) → All (λ e. e.0 < 2 * n) l.initial.entries → All (λ e. e.0 < n) (take l.kept l.entries);
      rising : AreRising l.initial.entries → AreRising (take l.kept l.entries);
      behind : AreRising l.initial.entries → AreBehind l.initial.entries l.i (take l.kept l.entries);
      rest : (j : ℕ) → l.i ≤ j → drop j l.entries ≡ drop j l.initial.entries;
      few : l.kept ≤ l.i;
    }
