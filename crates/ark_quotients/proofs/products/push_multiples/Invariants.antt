use Rattle.std.proofs.Common.{◌≡◌, take}
use Rattle.ark_math.specs.Univariate.{of_pairs, added, product, monomial}
use Rattle.ark_quotients.proofs.products.push_multiples.Given as goal

abbrev pub invariant-loop-i : goal.invariant-loop-i
invariant-loop-i g l =
    let K = g.F.Field.field in
    of_pairs K l.products.items ≡ added K (of_pairs K l.initial.products.items) (product K (monomial K l.term.0 l.term.1.0) (of_pairs K (take l.i l.terms)))
