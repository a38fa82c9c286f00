use Rattle.std.proofs.Common.{◌≡◌, ℕ, ◌<◌, get_or, length}
use Rattle.ark_math.specs.Univariate.{of_list}
use Rattle.shards_lib.specs.Numbers.{place_element}
use Rattle.shards_lib.proofs.stripes.RowCode.elements.Given as goal

abbrev pub invariant-loop-a : goal.invariant-loop-a
invariant-loop-a g l =
    let K = g.F.Field.field in
    record {
      len : length l.elements.items ≡ l.a;
      done : (b : ℕ) → b < l.a → of_list K l.elements.items b ≡ place_element K g.F.FftField.root l.self.n (get_or l.places b 0);
    }
