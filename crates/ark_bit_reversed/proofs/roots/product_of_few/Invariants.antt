use Rattle.std.proofs.Common.{◌≡◌, ◌+◌, ◌*◌, length, take}
use Rattle.ark_math.specs.Univariate.{of_list}
use Rattle.ark_math_polynomials.specs.Nodes.{nodes}
use Rattle.ark_bit_reversed.proofs.roots.product_of_few.Given as goal

abbrev pub invariant-loop-k : goal.invariant-loop-k
invariant-loop-k g l =
    let K = g.F.Field.field in
    record {
      product : of_list K l.coeffs.items ≡ nodes K (take (2 * l.k) l.roots);
      len : length l.coeffs.items ≡ 2 * l.k + 1;
    }
