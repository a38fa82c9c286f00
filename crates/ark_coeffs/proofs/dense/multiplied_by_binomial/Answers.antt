use Rattle.std.proofs.Common.{◌≡◌, ◌-◌, ◌++◌, [], take, replicate, ap, ap₂, ◌∙◌, arith}
use Rattle.std.proofs.lemmas.List.{take_all}
use Rattle.ark_math.specs.Univariate.{of_list}
use Rattle.ark_math.proofs.Lists.Lists.{written_back}
use Rattle.ark_math_polynomials.proofs.Polynomials.Binomials.{multiplied_list}
use Rattle.ark_coeffs.proofs.dense.multiplied_by_binomial.Goals as goal

pub returns : goal.returns
returns g c =
    let K = g.F.Field.field in
    let n = c.args.n in
    let xs = c.args.coeffs.now in
    let z = c.zero.result in
    let whole : n - 0 ≡ n = omega arith in
    let zeros : c.resize.new.self.items ≡ replicate n z =
    c.in_ok-resize.ensures.items
    ∙ ap₂ (λ t m. take n t ++ replicate (n - m) z) c.in_ok-product.ensures.items c.in_ok-product.ensures.len
    ∙ ap₂ (λ t m. t ++ replicate m z) (take_all n [] (omega arith)) whole in
    let moved : c.as_mut_slice.result.now ≡ replicate n z ++ xs =
    c.as_mut_slice.ensures.value ∙ c.in_ok-extend_from_slice.ensures.items ∙ ap (λ t. t ++ xs) zeros in
    ap (of_list K) (written_back c.add_scaled.new.coeffs _ _ (omega (arith, c.add_scaled.auto.coeffs, c.as_mut_slice.ensures.len)))
    ∙ c.add_scaled.ensures
    ∙ multiplied_list K g.met.F.Field.field_laws n c.args.constant xs c.as_mut_slice.result.now z c.neg.result
    (c.zero.ensures ∙ g.met.F.Field.zero_law) (g.met.F.Field.neg_law _ _ c.neg.ensures) moved
