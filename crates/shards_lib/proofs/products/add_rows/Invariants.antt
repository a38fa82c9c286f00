use Rattle.std.proofs.Common.{◌≡◌, ℕ, ◌*◌, ◌<◌, ◌≤◌, get_or, length}
use Rattle.ark_math.specs.Field.{natural}
use Rattle.shards_lib.specs.Products.{weighted_sum}
use Rattle.shards_lib.proofs.products.add_rows.Given as goal

abbrev pub invariant-loop-a : goal.invariant-loop-a
invariant-loop-a g l =
    let K = g.F.Field.field in
    record {
      grown : (s : ℕ) → get_or l.sums s 0 ≤ l.a * 131072;
      sums : (s : ℕ) → s < length l.initial.sums → natural K (get_or l.sums s 0) ≡ weighted_sum K l.weights l.numbers (length l.initial.sums) s l.a;
    }
