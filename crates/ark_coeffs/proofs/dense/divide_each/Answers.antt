use Rattle.std.proofs.Common.{◌≡◌, length, subst, ap, ◌∙◌, arith}
use Rattle.ark_math.specs.Univariate.{of_list}
use Rattle.ark_math.specs.Field.{IsPlaceQuotient}
use Rattle.ark_math.proofs.Lists.Lists.{written_back}
use Rattle.ark_math.proofs.Algebra.NonZero.{place_quotient-times}
use Rattle.ark_coeffs.proofs.dense.divide_each.Goals as goal

pub returns-clause-quotients : goal.returns-clause-quotients
returns-clause-quotients g c i l =
    let K = g.F.Field.field in
    let others : c.as_mut_slice.result.now ≡ c.args.other.now = c.as_mut_slice.ensures.value ∙ c.in_ok-inverses.ensures.items in
    let inverses : c.deref.result.now ≡ c.batch_inversion.new.items =
    c.deref.ensures.value ∙ written_back c.batch_inversion.new.items _ _ (omega (arith, c.batch_inversion.auto.items, c.as_mut_slice.ensures.len)) in
    let inverse : IsPlaceQuotient K K.one (of_list K c.args.other.now i) (of_list K c.batch_inversion.new.items i) =
    subst (λ t. IsPlaceQuotient K K.one (of_list K t i) (of_list K c.batch_inversion.new.items i)) others (c.in_ok-batch_inversion.ensures.inverses i (omega (arith, l, c.requires, ap length others))) in
    place_quotient-times K g.met.F.Field.field_laws _ _ _ _ inverse
    (c.multiply_each.ensures i ∙ ap (λ t. K.times (of_list K c.args.items.now i) (of_list K t i)) inverses)
