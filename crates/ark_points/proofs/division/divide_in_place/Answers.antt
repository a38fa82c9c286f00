use Rattle.std.proofs.Common.{◌≡◌, ◌≢◌, ◌-◌, ◌+◌, ◌<◌, length, slice_set, refl, sym, ap, ap₂, ◌∙◌, arith, ⊎_elim}
use Rattle.std.proofs.Common.{get_or-set_same, get_or-set_other}
use Rattle.std.proofs.lemmas.Bool.{cases_eq}
use Rattle.std.proofs.lemmas.List.{get_or_read, length-set}
use Rattle.ark_math.specs.Univariate.{of_list}
use Rattle.ark_math_polynomials.proofs.Polynomials.UnivariateLists.{of_list-past}
use Rattle.ark_math_polynomials.proofs.Polynomials.UnivariateValues.{value_from, value_from-one}
use Rattle.ark_math_polynomials.proofs.Polynomials.LinearQuotients.{value_from-past}
use Rattle.ark_points.proofs.division.divide_in_place.Goals as goal

pub loop-i-init : goal.loop-i-init
loop-i-init g c =
    let K = g.F.Field.field in
    let xs = c.args.coeffs.now in
    record {
      len = refl;
      value_is = c.zero-value.ensures ∙ g.met.F.Field.zero_law ∙ sym (value_from-past K xs c.args.point (length xs) (omega arith));
      done = λ k l. of_list-past K xs k l ∙ sym (value_from-past K xs c.args.point (k + 1) (omega (arith, l)));
      rest = λ k l. refl;
    }

pub loop-i-preserved : goal.loop-i-preserved
loop-i-preserved g c =
    let K = g.F.Field.field in
    let v = c.loop-i.invariant in
    let old = c.args.coeffs.now in
    let xs = c.loop-i.coeffs in
    let z = c.args.point in
    let i = c.loop-i.i - 1 in
    let next : c.loop-i.i ≡ i + 1 = let t = c.loop-i-test.true in omega arith in
    let inside : i < length xs = let t = c.loop-i-test.true in omega (arith, c.loop-i.auto.i, v.len) in
    let own : c.index-coeffs-i.result ≡ of_list K old i = get_or_read xs i c.index-coeffs-i.result inside c.index-coeffs-i.is K.zero ∙ v.rest i (omega (arith, next)) in
    let value : c.loop-i.value ≡ value_from K old z (i + 1) = v.value_is ∙ ap (value_from K old z) next in
    record {
      len = length-set xs i c.loop-i.value ∙ v.len;
      value_is =
          g.met.F.Field.add_law _ _ _ c.add-value.ensures
          ∙ ap₂ K.plus (g.met.F.Field.mul_law _ _ _ c.mul.ensures) own
          ∙ value_from-one K g.met.F.Field.field_laws old z i c.loop-i.value (omega (arith, inside, v.len)) value;
      done = λ k l. ⊎_elim
          (λ (e : k ≡ i). ap (λ t. of_list K (slice_set xs i c.loop-i.value) t) e ∙ get_or-set_same xs i c.loop-i.value K.zero inside ∙ value ∙ ap (λ t. value_from K old z (t + 1)) (sym e))
          (λ (ne : k ≢ i). get_or-set_other xs i k c.loop-i.value K.zero ne ∙ v.done k (omega (arith, l, ne, next)))
          (cases_eq k i);
      rest = λ k l. get_or-set_other xs i k c.loop-i.value K.zero (omega (arith, l)) ∙ v.rest k (omega (arith, l, next));
    }

pub returns-clause-value : goal.returns-clause-value
returns-clause-value g c =
    let K = g.F.Field.field in
    let end : c.loop-i.i ≡ 0 = let t = c.loop-i-test.false in omega arith in
    c.loop-i.invariant.value_is ∙ ap (value_from K c.args.coeffs.now c.args.point) end

pub returns-clause-quotient : goal.returns-clause-quotient
returns-clause-quotient g c =
    λ k. c.loop-i.invariant.done k (let t = c.loop-i-test.false in omega arith)
