use Rattle.std.proofs.Common.{ap, arith, length, sym, subst, subst₂}
use Rattle.ark_bit_reversed.specs.Blocks.{AreFirstValues, size_of}
use Rattle.ark_math.specs.Univariate.{of_list}
use Rattle.ark_math_polynomials.proofs.Polynomials.UnivariateLists.{of_list-past}
use Rattle.ark_subproducts.proofs.roots.values_by_tree.Goals as goal

pub returns-in-Some-clause-values : goal.returns-in-Some-clause-values
returns-in-Some-clause-values g c =
    let K = g.F.Field.field in
    let p = c.args.polynomial.now in
    (rw c.in-Some.is at c.in_ok-found.ensures.values) (of_list K p)
    (λ i l. of_list-past K p i (omega (arith, l, ap length c.coeffs.ensures.same, c.if-coeffs-size.false, c.size-size.ensures.size)))
    (subst₂ (λ a v. AreFirstValues K c.args.blocks.now (size_of c.args.blocks.now) (of_list K a) v) c.coeffs-2.ensures.same (sym c.deref-2.ensures.value)
    (subst (λ k. AreFirstValues K c.args.blocks.now k (of_list K c.coeffs-2.result.now) c.in_ok-values.values.items) c.size-size.ensures.size c.in_ok-values.ensures.values))
