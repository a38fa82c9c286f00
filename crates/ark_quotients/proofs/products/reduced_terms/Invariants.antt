use Rattle.std.proofs.Common.{◌≡◌, length, take}
use Rattle.ark_math.specs.Univariate.{of_list, of_pairs}
use Rattle.ark_math_polynomials.proofs.Polynomials.PairProducts.{IsReduced}
use Rattle.ark_quotients.proofs.products.reduced_terms.Given as goal

abbrev pub invariant-loop-i : goal.invariant-loop-i
invariant-loop-i g l =
    let K = g.F.Field.field in
    (length l.reduced.items ≡ l.n) × IsReduced K l.n l.constant (of_pairs K (take l.i l.terms)) (of_list K l.reduced.items)
