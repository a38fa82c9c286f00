use Rattle.std.proofs.Common.{◌≡◌, ℕ, ◌*◌, ◌<◌, ◌≤◌, get_or, length}
use Rattle.shards_lib.specs.Numbers.{numbered}
use Rattle.shards_lib.specs.Weights.{GiveAt}
use Rattle.shards_lib.proofs.stripes.RowCode.weights.Given as goal

abbrev pub invariant-loop-b : goal.invariant-loop-b
invariant-loop-b g l =
    let s = numbered g.F.Field.field g.F.FftField.root g.F.NumberField.inverse_of g.F.NumberField.number in
    record {
      len : length l.weights.items ≡ l.b * length l.given;
      fit : (p : ℕ) → get_or l.weights.items p 0 ≤ 65536;
      give : (b : ℕ) → b < l.b → GiveAt s l.self.n l.given l.weights.items (b * length l.given) (get_or l.wanted b 0);
    }
