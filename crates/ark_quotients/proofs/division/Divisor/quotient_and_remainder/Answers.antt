use Rattle.std.proofs.Common.{◌≡◌, ◌≤◌, ◌++◌, length, take, drop, min, sym, subst, ap, ap₂, ◌∙◌, arith}
use Rattle.std.proofs.lemmas.List.{take_min, drop_min, length-take}
use Rattle.ark_math.specs.Univariate.{of_list, added, product}
use Rattle.ark_math.proofs.Lists.Lists.{written_back}
use Rattle.ark_quotients.proofs.LongDivision.{divided_quotient}
use Rattle.ark_quotients.proofs.division.Divisor.quotient_and_remainder.Goals as goal

pub returns : goal.returns
returns g c d h =
    let K = g.F.Field.field in
    let v = c.args.self.now in
    let n = v.degree in
    let ys = c.divide.new.coeffs in
    let len = c.args.dividend.len in
    let same : length ys ≡ len = omega (arith, c.divide.auto.coeffs, c.as_mut_slice.ensures.len) in
    let back : take len (ys ++ drop (length ys) c.args.dividend.items) ≡ ys = written_back ys _ _ same in
    let kept : c.min-kept.result ≡ min n (length ys) = c.min-kept.ensures ∙ ap (min n) (c.len.ensures ∙ sym same) in
    let high : c.in_ok-quotient.quotient.items ≡ drop n ys = c.in_ok-quotient.ensures.tail ∙ ap₂ drop kept back ∙ drop_min n ys in
    let low : c.split_off.new.self.items ≡ take n ys = c.in_ok-quotient.ensures.items ∙ ap₂ take kept back ∙ take_min n ys in
    let short : length (take n ys) ≤ n = omega (arith, length-take n ys) in
    divided_quotient K g.met.F.Field.field_laws d (of_list K c.args.dividend.items) n v.inverse _ _ h.leading h.rest
    (subst (λ t. length t ≤ n) (sym low) short)
    (ap (of_list K) (sym c.as_mut_slice.ensures.value)
    ∙ c.divide.ensures d h
    ∙ sym (ap₂ (λ s t. added K (product K (of_list K s) d) (of_list K t)) high low))
