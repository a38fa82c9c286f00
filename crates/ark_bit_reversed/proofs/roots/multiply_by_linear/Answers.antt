use Rattle.std.proofs.Common.{◌≡◌, ◌≢◌, ◌+◌, ◌-◌, ◌<◌, [], ◌∷◌, length, slice_set, sym, ap, ap₂, ◌∙◌, arith, ⊎_elim}
use Rattle.std.proofs.Common.{get_or-set_same, get_or-set_other}
use Rattle.std.proofs.lemmas.Bool.{cases_eq}
use Rattle.std.proofs.lemmas.List.{get_or_read, length-append, length-set}
use Rattle.ark_math.specs.Field.{minus}
use Rattle.ark_math_polynomials.specs.Linear.{linear_factor}
use Rattle.ark_math.specs.Univariate.{of_list, product}
use Rattle.ark_math_polynomials.proofs.Polynomials.UnivariateLists.{of_list-past, of_list-set}
use Rattle.ark_math_polynomials.proofs.Polynomials.LinearFactors.{linear-product_below, linear-product_first, linear-product_past, of_list-pushed_zero}
use Rattle.ark_bit_reversed.proofs.roots.multiply_by_linear.Goals as goal

pub loop-i-init : goal.loop-i-init
loop-i-init g c =
    let K = g.F.Field.field in
    let ys = c.args.coeffs.now.items in
    let pushed = c.in_ok-push.ensures.items in
    let new = c.push.new.self.items in
    let len : length new ≡ length ys + 1 = ap length pushed ∙ length-append ys (c.zero.result ∷ []) in
    let all : c.len-i.result ≡ length new = omega (arith, c.len-i.ensures) in
    record {
      len = len;
      some = omega (arith, len, all);
      done = λ k l. of_list-past K new k (omega (arith, l, all)) ∙ sym (linear-product_below K g.met.F.Field.field_laws ys c.args.root k (omega (arith, l, all, len)));
      rest = λ k l. ap (λ t. of_list K t k) pushed ∙ ap (λ t. t k) (of_list-pushed_zero K ys c.zero.result (c.zero.ensures ∙ g.met.F.Field.zero_law));
    }

pub loop-i-preserved : goal.loop-i-preserved
loop-i-preserved g c =
    let K = g.F.Field.field in
    let v = c.loop-i.invariant in
    let a = of_list K c.args.coeffs.now.items in
    let xs = c.loop-i.coeffs.items in
    let z = c.args.root in
    let i = c.loop-i.i - 1 in
    let new = c.sub.result in
    let next : c.loop-i.i ≡ i + 1 = let t = c.loop-i-test.true in omega arith in
    let some : 0 < i = let t = c.loop-i-test.true in omega arith in
    let inside : i < length xs = omega (arith, next, c.loop-i.auto.i, c.len-i.ensures, v.len, ap length c.in_ok-push.ensures.items, length-append c.args.coeffs.now.items (c.zero.result ∷ [])) in
    let below : c.index.result.now ≡ a (i - 1) = get_or_read xs (i - 1) c.index.result.now (omega (arith, inside)) c.index.ensures K.zero ∙ v.rest (i - 1) (omega (arith, some, next)) in
    let own : c.index-in-loop-i.result.now ≡ a i = get_or_read xs i c.index-in-loop-i.result.now inside c.index-in-loop-i.ensures K.zero ∙ v.rest i (omega (arith, next)) in
    let is : new ≡ product K a (linear_factor K z) i =
    g.met.F.Field.sub_law _ _ _ c.sub.ensures
    ∙ ap₂ (minus K) below (g.met.F.Field.mul_law _ _ _ c.mul.ensures ∙ ap (K.times z) own)
    ∙ sym (linear-product_past K g.met.F.Field.field_laws a z i some) in
    record {
      len = length-set xs i new ∙ v.len;
      some = some;
      done = λ k l. ⊎_elim
          (λ (e : k ≡ i). ap (of_list K (slice_set xs i new)) e ∙ get_or-set_same xs i new K.zero inside ∙ is ∙ ap (product K a (linear_factor K z)) (sym e))
          (λ (ne : k ≢ i). get_or-set_other xs i k new K.zero ne ∙ v.done k (omega (arith, l, ne, next)))
          (cases_eq k i);
      rest = λ k l. get_or-set_other xs i k new K.zero (omega (arith, l)) ∙ v.rest k (omega (arith, l, next));
    }

pub returns-clause-product : goal.returns-clause-product
returns-clause-product g c =
    let K = g.F.Field.field in
    let N = g.met.F.Field.field_laws in
    let v = c.loop-i.invariant in
    let a = of_list K c.args.coeffs.now.items in
    let xs = c.loop-i.coeffs.items in
    let z = c.args.root in
    let last : c.loop-i.i ≡ 1 = let t = c.loop-i-test.false in omega (arith, v.some) in
    let inside : 0 < length xs = omega (arith, v.len) in
    let first : c.index-2.result.now ≡ a 0 = get_or_read xs 0 c.index-2.result.now inside c.index-2.ensures K.zero ∙ v.rest 0 v.some in
    let is : c.neg.result ≡ K.negated (K.times z (a 0)) =
    g.met.F.Field.neg_law _ _ c.neg.ensures ∙ ap K.negated (g.met.F.Field.mul_law _ _ _ c.mul-2.ensures ∙ ap (K.times z) first) in
    of_list-set K xs 0 c.neg.result (product K a (linear_factor K z)) inside (linear-product_first K N a z ∙ sym is)
    (λ k ne. sym (v.done k (omega (arith, ne, last))))
