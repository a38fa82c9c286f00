use Rattle.std.proofs.Common.{◌≡◌, ℕ, ◌-◌, ◌<◌, ◌≤◌, get_or, vec_len}
use Rattle.ark_math.specs.Univariate.{of_list, opposite}
use Rattle.ark_quotients.proofs.series.corrected.Given as goal

abbrev pub invariant-loop-i : goal.invariant-loop-i
invariant-loop-i g l =
    let K = g.F.Field.field in
    record {
      len : vec_len l.corrected ≡ l.i;
      kept : (k : ℕ) → k < l.i → k < l.known → get_or l.corrected.items k K.zero ≡ of_list K l.coeffs k;
      rest : (k : ℕ) → k < l.i → l.known ≤ k → get_or l.corrected.items k K.zero ≡ opposite K (of_list K l.correction) (k - l.known);
    }
