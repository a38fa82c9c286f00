use Rattle.std.proofs.Common.{◌≡◌, length, take, drop, sym, ap, ◌∙◌, arith}
use Rattle.std.proofs.lemmas.List.{length-take}
use Rattle.ark_math.specs.Univariate.{of_list, added, product}
use Rattle.ark_math.proofs.Lists.Lists.{written_back}
use Rattle.ark_math_polynomials.proofs.Polynomials.Binomials.{binomial}
use Rattle.ark_coeffs.proofs.dense.reduce_by_binomial.Goals as goal

pub returns-clause-division : goal.returns-clause-division
returns-clause-division g c =
    let K = g.F.Field.field in
    let n = c.args.n in
    let ys = c.divide_by_binomial.new.coeffs in
    let kept : c.truncate.new.self.items ≡ take n ys =
    c.truncate.ensures.items ∙ ap (take n) (written_back ys _ _ (omega (arith, c.divide_by_binomial.auto.coeffs, c.as_mut_slice.ensures.len))) in (
      drop n ys,
      ap (of_list K) (sym c.as_mut_slice.ensures.value)
          ∙ c.divide_by_binomial.ensures
          ∙ ap (λ t. added K (product K (of_list K (drop n ys)) (binomial K n c.args.constant)) (of_list K t)) (sym kept),
    )

pub returns-clause-len : goal.returns-clause-len
returns-clause-len g c =
    let n = c.args.n in
    let ys = c.divide_by_binomial.new.coeffs in
    let kept : c.truncate.new.self.items ≡ take n ys =
    c.truncate.ensures.items ∙ ap (take n) (written_back ys _ _ (omega (arith, c.divide_by_binomial.auto.coeffs, c.as_mut_slice.ensures.len))) in
    omega (arith, ap length kept, length-take n ys)
