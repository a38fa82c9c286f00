use Rattle.std.proofs.Common.{◌≡◌, take}
use Rattle.ark_math.specs.Univariate.{of_list, of_pairs, difference, monomial, product}
use Rattle.ark_quotients.proofs.division.subtract_terms.Given as goal

abbrev pub invariant-loop-i : goal.invariant-loop-i
invariant-loop-i g l =
    let K = g.F.Field.field in
    of_list K l.coeffs ≡ difference K (of_list K l.initial.coeffs) (product K (monomial K l.places l.fn.factor) (of_pairs K (take l.i l.terms)))
