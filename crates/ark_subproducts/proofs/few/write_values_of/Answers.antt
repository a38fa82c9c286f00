use Rattle.std.proofs.Common.{◌≡◌, ◌+◌, ◌-◌, ◌<◌, length, sym, subst, ap, ◌∙◌, arith}
use Rattle.std.proofs.lemmas.List.{get_or_read}
use Rattle.ark_math.specs.Univariate.{IsValue, of_list}
use Rattle.ark_math_polynomials.proofs.Polynomials.UnivariateValues.{value_from, value_from-one, value-of_list}
use Rattle.ark_math_polynomials.proofs.Polynomials.LinearQuotients.{value_from-past}
use Rattle.ark_subproducts.proofs.few.write_values_of.Goals as goal

pub loop-i-init : goal.loop-i-init
loop-i-init g c =
    let K = g.F.Field.field in
    let xs = c.args.coeffs.now in
    record {
      len = c.clear.ensures.len ∙ c.requires;
      done = λ k l. c.clear.ensures.zero k (omega (arith, l, c.requires)) ∙ sym (value_from-past K xs (of_list K c.args.points.now k) (length xs) (omega arith));
    }

pub loop-i-preserved : goal.loop-i-preserved
loop-i-preserved g c =
    let K = g.F.Field.field in
    let N = g.met.F.Field.field_laws in
    let v = c.loop-i.invariant in
    let xs = c.args.coeffs.now in
    let i = c.loop-i.i - 1 in
    let next : c.loop-i.i ≡ i + 1 = omega (arith, c.loop-i-test.true) in
    let inside : i < length xs = omega (arith, c.loop-i-test.true, c.loop-i.auto.i) in
    let item : c.index-coeffs-i.result ≡ of_list K xs i = get_or_read xs i c.index-coeffs-i.result inside c.index-coeffs-i.is K.zero in
    record {
      len = c.multiply_and_add.ensures.len ∙ v.len;
      done = λ k l.
          let x = of_list K c.args.points.now k in
          c.multiply_and_add.ensures.values k l
          ∙ ap (K.plus (K.times (of_list K c.loop-i.values k) x)) item
          ∙ value_from-one K N xs x i (of_list K c.loop-i.values k) inside (v.done k l ∙ ap (value_from K xs x) next);
    }

pub returns-clause-values : goal.returns-clause-values
returns-clause-values g c =
    let K = g.F.Field.field in
    let N = g.met.F.Field.field_laws in
    let xs = c.args.coeffs.now in
    let i = c.loop-i.i in
    let first : i ≡ 0 = omega (arith, c.loop-i-test.false) in
    λ k l.
    let x = of_list K c.args.points.now k in
    subst (IsValue K (of_list K xs) x) (sym (c.loop-i.invariant.done k l ∙ ap (value_from K xs x) first)) (value-of_list K N xs x)
