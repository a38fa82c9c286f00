use Rattle.std.proofs.Common.{◌≡◌, ℕ, ◌<◌, ◌≤◌, ◌*◌, ◌+◌, get_or, map, [], length}
use Rattle.shards_format.specs.Parts.{number_in}
use Rattle.shards_format.specs.Pieces.{chunk, part_size}
use Rattle.shards_format.proofs.reading.read_parts.Given as goal

abbrev pub invariant-loop-a : goal.invariant-loop-a
invariant-loop-a l =
    let k = length l.places in
    record {
      numbers_are : (i s : ℕ) → i < l.a → s < l.count → get_or l.numbers (i * l.count + s) 0
          ≡ number_in k (get_or l.places i 0) (chunk (part_size k (get_or l.places i 0)) l.b (get_or (map (λ body. body.now) l.bodies) i [])) s;
      small : (i s : ℕ) → i < l.a → s < l.count → get_or l.numbers (i * l.count + s) 0 ≤ 65536;
    }
