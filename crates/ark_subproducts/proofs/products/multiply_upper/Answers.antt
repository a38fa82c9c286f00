use Rattle.std.proofs.Common.{◌≡◌, ◌≢◌, ◌+◌, ◌-◌, ◌<◌, length, get_or, slice_set, sym, ap, ◌∙◌, arith, ⊎_elim, get_or-set_same, get_or-set_other}
use Rattle.std.proofs.lemmas.Bool.{cases_eq}
use Rattle.std.proofs.lemmas.List.{length-set}
use Rattle.ark_math.specs.Univariate.{of_list, product}
use Rattle.ark_math.proofs.Lists.Lists.{tail}
use Rattle.ark_subproducts.proofs.UpperParts.{product_from_degree, product_past_degree}
use Rattle.ark_subproducts.proofs.products.multiply_upper.Goals as goal

pub loop-i-preserved : goal.loop-i-preserved
loop-i-preserved g c =
    let K = g.F.Field.field in
    let v = c.loop-i.invariant in
    let i = c.loop-i.i in
    let xs = c.loop-i.coeffs in
    let ys = c.args.factor.now in
    let a = of_list K c.args.coeffs.now in
    let inside : i < length xs = omega (arith, c.loop-i-test.true, v.len) in
    let new : c.coefficient_at_degree.result ≡ product K a (of_list K ys) (length ys - 1 + i) =
    c.coefficient_at_degree.ensures
    ∙ ap (λ t. product K (of_list K t) (of_list K ys) (length ys - 1)) (tail xs i)
    ∙ product_from_degree K g.met.F.Field.field_laws xs ys a i v.rest in
    record {
      len = length-set xs i c.coefficient_at_degree.result ∙ v.len;
      done = λ k l. ⊎_elim
          (λ (e : k ≡ i). ap (λ t. get_or (slice_set xs i c.coefficient_at_degree.result) t K.zero) e ∙ get_or-set_same xs i c.coefficient_at_degree.result K.zero inside ∙ new ∙ ap (λ t. product K a (of_list K ys) (length ys - 1 + t)) (sym e))
          (λ (ne : k ≢ i). get_or-set_other xs i k c.coefficient_at_degree.result K.zero ne ∙ v.done k (omega arith))
          (cases_eq k i);
      rest = λ k l. get_or-set_other xs i k c.coefficient_at_degree.result K.zero (omega arith) ∙ v.rest k (omega arith);
    }

pub returns : goal.returns
returns g c =
    let v = c.loop-i.invariant in
    product_past_degree g.F.Field.field g.met.F.Field.field_laws c.args.coeffs.now c.loop-i.coeffs c.args.factor.now v.len
    (λ k l. v.done k (omega (arith, l, c.loop-i-test.false, c.loop-i.auto.i-end)))
