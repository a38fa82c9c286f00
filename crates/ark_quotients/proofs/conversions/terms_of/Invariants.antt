use Rattle.std.proofs.Common.{◌≡◌, ◌<◌}
use Rattle.std.specs.List.{All}
use Rattle.ark_math.specs.Univariate.{IsSparse, of_list, of_pairs}
use Rattle.ark_math_polynomials.proofs.Polynomials.UnivariateLoops.{cut}
use Rattle.ark_quotients.proofs.conversions.terms_of.Given as goal

abbrev pub invariant-loop-i : goal.invariant-loop-i
invariant-loop-i g l =
    let K = g.F.Field.field in
    record {
      sparse : IsSparse K l.terms.items;
      below : All (λ t. t.0 < l.i) l.terms.items;
      sum : of_pairs K l.terms.items ≡ cut K l.i (of_list K l.coeffs);
    }
