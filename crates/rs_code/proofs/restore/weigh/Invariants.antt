use Rattle.std.proofs.Common.{◌≡◌, ◌+◌, ◌<◌, ◌≤◌, ℕ, true, map, get_or}
use Rattle.ark_math.specs.Module.{item}
use Rattle.ark_math.specs.Univariate.{of_list}
use Rattle.rs_code.specs.Locator.{weighed}
use Rattle.rs_code.proofs.restore.weigh.Given as goal

abbrev pub invariant-loop-i : goal.invariant-loop-i
invariant-loop-i g l =
    let V = g.T.Summand.group in
    let m = g.T.Summand.meaning in
    let K = g.F.Field.field in
    record {
      before : (k : ℕ) → k < l.i → item V (map m l.values) k ≡ weighed V (get_or l.marks k true) (of_list K l.factors k) (item V (map m l.initial.values) k);
      rest : (k : ℕ) → l.i ≤ k → item V (map m l.values) k ≡ item V (map m l.initial.values) k;
      products_are : l.work.products ≤ l.initial.work.products + l.i;
      butterflies_are : l.work.butterflies ≡ l.initial.work.butterflies;
      steps_are : l.work.steps ≡ l.initial.work.steps;
    }
