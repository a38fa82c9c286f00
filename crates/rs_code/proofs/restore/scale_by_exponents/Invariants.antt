use Rattle.std.proofs.Common.{◌≡◌, ◌+◌, ◌<◌, ◌≤◌, ℕ, map}
use Rattle.ark_math.specs.Field.{natural}
use Rattle.ark_math.specs.Module.{item}
use Rattle.rs_code.specs.Locator.{euler}
use Rattle.rs_code.proofs.restore.scale_by_exponents.Given as goal

abbrev pub invariant-loop-i : goal.invariant-loop-i
invariant-loop-i g l =
    let V = g.T.Summand.group in
    let m = g.T.Summand.meaning in
    let K = g.F.Field.field in
    record {
      exponent_is : l.exponent ≡ natural K l.i;
      before : (k : ℕ) → k < l.i → item V (map m l.coeffs) k ≡ euler K V (item V (map m l.initial.coeffs)) k;
      rest : (k : ℕ) → l.i ≤ k → item V (map m l.coeffs) k ≡ item V (map m l.initial.coeffs) k;
      products_are : l.work.products ≤ l.initial.work.products + l.i;
      butterflies_are : l.work.butterflies ≡ l.initial.work.butterflies;
      steps_are : l.work.steps ≡ l.initial.work.steps;
    }
