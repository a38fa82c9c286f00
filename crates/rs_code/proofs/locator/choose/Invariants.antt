use Rattle.std.proofs.Common.{◌≡◌, ◌<◌, ◌≤◌, ℕ, true, get_or, if◌then◌else◌}
use Rattle.ark_math.specs.Univariate.{of_list}
use Rattle.rs_code.proofs.locator.choose.Given as goal

abbrev pub invariant-loop-i : goal.invariant-loop-i
invariant-loop-i g l =
    let K = g.F.Field.field in
    record {
      before : (k : ℕ) → k < l.i → of_list K l.items k ≡ (if get_or l.marks k true then of_list K l.others k else of_list K l.initial.items k);
      rest : (k : ℕ) → l.i ≤ k → of_list K l.items k ≡ of_list K l.initial.items k;
    }
