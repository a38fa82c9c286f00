use Rattle.std.proofs.Common.{◌≡◌, ℕ, ◌-◌, ◌<◌, get_or, vec_len}
use Rattle.ark_math.specs.Univariate.{of_list}
use Rattle.ark_quotients.proofs.series.reversed.Given as goal

abbrev pub invariant-loop-i : goal.invariant-loop-i
invariant-loop-i g l =
    let K = g.F.Field.field in
    record {
      len : vec_len l.reversed ≡ l.i;
      same : (k : ℕ) → k < l.i → get_or l.reversed.items k K.zero ≡ of_list K l.coeffs (l.degree - k);
    }
