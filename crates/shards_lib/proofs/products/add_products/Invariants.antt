use Rattle.std.proofs.Common.{◌≡◌, ℕ, ◌+◌, ◌*◌, ◌<◌, ◌≤◌, get_or, length}
use Rattle.shards_lib.specs.Products.{halves}
use Rattle.shards_lib.proofs.products.add_products.Given as goal

abbrev pub invariant-loop-s : goal.invariant-loop-s
invariant-loop-s l = record {
  done : (s : ℕ) → s < l.s → get_or l.sums s 0 ≡ get_or l.initial.sums s 0 + halves (l.weight * get_or l.row s 0);
  rest : (s : ℕ) → l.s ≤ s → get_or l.sums s 0 ≡ get_or l.initial.sums s 0;
}
