use Rattle.std.proofs.Common.{◌≡◌, ℕ, ◌≤◌, length}
use Rattle.ark_math.specs.Root.{HasOrder}
use Rattle.ark_math.specs.Domain.{Domain, element}
use Rattle.rs_code.specs.Turns.{AreSortedBelow, IsTableOf, finished_from, roots_of}
use Rattle.rs_code.proofs.turns.sorted.sorted_by_turns.Given as goal

abbrev pub invariant-loop-j : goal.invariant-loop-j
invariant-loop-j g l =
    let K = g.F.Field.field in
    let q = length l.fours in
    record {
      len : length l.lists ≡ 6;
      few : (p : ℕ) → length (roots_of l.lists p) ≤ l.j;
      sorted : (d : Domain g.row.F.Denot) → d.offset ≡ K.one → HasOrder K d.root d.size → IsTableOf K d l.table → AreSortedBelow K d q l.erased l.j (finished_from K (element K d q) l.lists);
    }
