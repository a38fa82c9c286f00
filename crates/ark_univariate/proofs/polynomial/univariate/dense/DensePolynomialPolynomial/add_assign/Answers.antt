use Rattle.std.proofs.Common.{◌≡◌, ap, ap₂, ◌∙◌, arith}
use Rattle.ark_math.specs.Univariate.{of_list, added}
use Rattle.ark_math.proofs.Lists.Lists.{written_back}
use Rattle.ark_univariate.proofs.polynomial.univariate.dense.DensePolynomialPolynomial.add_assign.Goals as goal

pub returns-clause-sum : goal.returns-clause-sum
returns-clause-sum g c =
    let K = g.F.Field.field in
    let mine : of_list K c.as_mut_slice.result.now ≡ of_list K c.args.self.now =
    ap (of_list K) c.as_mut_slice.ensures.value ∙ c.in_ok-grow.ensures.same ∙ ap (of_list K) c.self.view_is in
    let others : c.deref.result.now ≡ c.args.other.now = c.deref.ensures.value ∙ c.other.view_is in
    c.trim.ensures.same
    ∙ ap (of_list K) (written_back c.add_each.new.coeffs _ _ (omega (arith, c.add_each.auto.coeffs, c.as_mut_slice.ensures.len)))
    ∙ c.add_each.ensures
    ∙ ap₂ (λ a b. added K a b) mine (ap (of_list K) others)
