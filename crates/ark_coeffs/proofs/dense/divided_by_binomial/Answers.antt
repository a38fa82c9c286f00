use Rattle.std.proofs.Common.{◌≡◌, ◌++◌, length, take, drop, min, sym, ap, ap₂, ◌∙◌, arith}
use Rattle.std.proofs.lemmas.List.{take_min, drop_min}
use Rattle.ark_math.specs.Univariate.{of_list, added, product}
use Rattle.ark_math.proofs.Lists.Lists.{written_back}
use Rattle.ark_math_polynomials.proofs.Polynomials.Binomials.{binomial}
use Rattle.ark_coeffs.proofs.dense.divided_by_binomial.Goals as goal

pub returns-clause-division : goal.returns-clause-division
returns-clause-division g c =
    let K = g.F.Field.field in
    let n = c.args.n in
    let ys = c.divide_by_binomial.new.coeffs in
    let same : length ys ≡ c.in_ok-remainder.remainder.len = omega (arith, c.divide_by_binomial.auto.coeffs, c.as_mut_slice.ensures.len) in
    let back : take c.in_ok-remainder.remainder.len (ys ++ drop (length ys) c.in_ok-remainder.remainder.items) ≡ ys = written_back ys _ _ same in
    let kept : c.min-kept.result ≡ min n (length ys) = c.min-kept.ensures ∙ ap (min n) (c.len.ensures ∙ sym same) in
    let high : c.in_ok-quotient.quotient.items ≡ drop n ys = c.in_ok-quotient.ensures.tail ∙ ap₂ drop kept back ∙ drop_min n ys in
    let low : c.split_off.new.self.items ≡ take n ys = c.in_ok-quotient.ensures.items ∙ ap₂ take kept back ∙ take_min n ys in
    ap (of_list K) (sym (c.as_mut_slice.ensures.value ∙ c.in_ok-remainder.ensures.items))
    ∙ c.divide_by_binomial.ensures
    ∙ sym (ap₂ (λ s t. added K (product K (of_list K s) (binomial K n c.args.constant)) (of_list K t)) high low)
