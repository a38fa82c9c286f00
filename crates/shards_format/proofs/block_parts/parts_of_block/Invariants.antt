use Rattle.std.proofs.Common.{◌≡◌, ℕ, ◌<◌, get_or, length, [], map}
use Rattle.shards_format.specs.Stripes.{numbers_at}
use Rattle.shards_format.specs.Parts.{IsPart}
use Rattle.shards_format.proofs.block_parts.parts_of_block.Given as goal

abbrev pub invariant-loop-i : goal.invariant-loop-i
invariant-loop-i g l =
    let code = g.C.StripeCode in
    record {
      len : length l.parts.items ≡ l.i;
      parts : (j : ℕ) → j < l.i → IsPart (code.k_of l.code) j (numbers_at code.number (code.k_of l.code) (code.n_of l.code) l.block j) (get_or (map (λ part. part.items) l.parts.items) j []);
    }
