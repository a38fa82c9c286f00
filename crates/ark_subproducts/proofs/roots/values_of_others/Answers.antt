use Rattle.std.proofs.Common.{arith}
use Rattle.ark_math.specs.Univariate.{of_list}
use Rattle.ark_math_polynomials.proofs.Polynomials.UnivariateLists.{of_list-past}
use Rattle.ark_subproducts.proofs.roots.values_of_others.Goals as goal

pub returns-in-Some-clause-values : goal.returns-in-Some-clause-values
returns-in-Some-clause-values g c =
    let K = g.F.Field.field in
    let p = c.args.known.now.polynomial.now in
    (rw c.in-Some.is at c.in_ok-values.ensures.values) (of_list K p) (λ i l. of_list-past K p i (omega (arith, l, c.requires.known.few))) c.requires.known.values
