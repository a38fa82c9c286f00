use Rattle.std.proofs.Common.{◌≡◌, ◌+◌, ◌-◌, ◌<◌, ◌≤◌, ℕ, length}
use Rattle.ark_math.specs.Univariate.{of_list, product}
use Rattle.ark_subproducts.proofs.products.multiply_upper.Given as goal

abbrev pub invariant-loop-i : goal.invariant-loop-i
invariant-loop-i g l =
    let K = g.F.Field.field in
    let a = of_list K l.initial.coeffs in
    let b = of_list K l.factor in
    record {
      len : length l.coeffs ≡ length l.initial.coeffs;
      done : (k : ℕ) → k < l.i → of_list K l.coeffs k ≡ product K a b (length l.factor - 1 + k);
      rest : (k : ℕ) → l.i ≤ k → of_list K l.coeffs k ≡ a k;
    }
