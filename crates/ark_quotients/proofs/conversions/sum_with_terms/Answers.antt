use Rattle.std.proofs.Common.{length, ap, ◌∙◌, arith}
use Rattle.ark_math.specs.Univariate.{of_list, of_pairs, added}
use Rattle.ark_math.proofs.Lists.Lists.{written_back}
use Rattle.ark_quotients.specs.Signs.{all_signed}
use Rattle.ark_quotients.proofs.conversions.sum_with_terms.Goals as goal

pub add_terms-requires : goal.add_terms-requires
add_terms-requires g c i d l =
    let room = c.in-Some.ensures.room i d l in
    let whole = ap length c.as_mut_slice.ensures.value in
    omega (arith, room, whole, c.in_ok-sum.ensures.len, c.max.ensures)

pub returns-clause-sum : goal.returns-clause-sum
returns-clause-sum g c =
    let K = g.F.Field.field in
    ap (of_list K) (written_back c.add_terms.new.coeffs _ _ (omega (arith, c.add_terms.auto.coeffs, c.as_mut_slice.ensures.len)))
    ∙ c.add_terms.ensures
    ∙ ap (λ a. added K a (all_signed K c.args.sign (of_pairs K c.args.terms.now))) (ap (of_list K) c.as_mut_slice.ensures.value ∙ c.in_ok-sum.ensures.same)
