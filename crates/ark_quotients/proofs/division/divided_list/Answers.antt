use Rattle.std.proofs.Common.{◌≡◌, ◌+◌, ◌-◌, length, ap, subst, arith}
use Rattle.std.proofs.lemmas.List.{get_or-take, length-take}
use Rattle.ark_math.specs.Univariate.{of_list, IsBelow, IsQuotient}
use Rattle.ark_math.proofs.Outcomes.Results.{IfOk_more}
use Rattle.ark_math_polynomials.proofs.Polynomials.UnivariateLists.{of_list-below}
use Rattle.ark_quotients.proofs.division.divided_list.Goals as goal

pub returns : goal.returns
returns g c =
    let K = g.F.Field.field in
    let d = c.args.divisor.now in
    let some = c.requires.nonempty in
    let n = length d - 1 in
    let top : length d ≡ n + 1 = omega (arith, some) in
    IfOk_more c.quotient_and_remainder.result
    (λ p h. subst (λ a. IsQuotient K a (of_list K d) (of_list K p.0.items) (of_list K p.1.items)) (ap (of_list K) c.in_ok-from_slice.ensures.items)
    (h (of_list K d) (record {
      leading = c.requires.leading;
      rest = subst (λ m. IsBelow K m (of_list K d)) top (of_list-below K d);
      lower = λ i l. get_or-take n d i K.zero l;
      within = omega (arith, length-take n d);
    })))
    c.quotient_and_remainder.ensures
