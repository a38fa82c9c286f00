use Rattle.std.proofs.Common.{◌≡◌, ◌≢◌, ◌+◌, ◌-◌, ◌<◌, [], ◌∷◌, length, slice_set, sym, ap, ap₂, ◌∙◌, arith, ⊎_elim}
use Rattle.std.proofs.Common.{get_or-set_same, get_or-set_other}
use Rattle.std.proofs.lemmas.Bool.{cases_eq}
use Rattle.std.proofs.lemmas.List.{get_or_read, length-append, length-set}
use Rattle.ark_math.specs.Field.{minus}
use Rattle.ark_math.specs.Univariate.{of_list}
use Rattle.ark_math_polynomials.proofs.Polynomials.UnivariateLists.{of_list-past, of_list-set}
use Rattle.ark_math_polynomials.proofs.Polynomials.LinearFactors.{by_two, by_two-below, by_two-first, by_two-past, by_two-second, of_list-pushed_zero}
use Rattle.ark_bit_reversed.proofs.roots.multiply_by_two.Goals as goal

pub loop-i-init : goal.loop-i-init
loop-i-init g c =
    let K = g.F.Field.field in
    let N = g.met.F.Field.field_laws in
    let ys = c.args.coeffs.now.items in
    let first = c.push.new.self.items in
    let new = c.push-2.new.self.items in
    let one_more = c.in_ok-push.ensures.items in
    let two_more = c.in_ok-push-2.ensures.items in
    let len : length new ≡ length ys + 2 = omega (arith, ap length two_more ∙ length-append first (c.zero-2.result ∷ []), ap length one_more ∙ length-append ys (c.zero.result ∷ [])) in
    let all : c.len-i.result ≡ length new = omega (arith, c.len-i.ensures) in
    let same : of_list K new ≡ of_list K ys =
    ap (of_list K) two_more
    ∙ of_list-pushed_zero K first c.zero-2.result (c.zero-2.ensures ∙ g.met.F.Field.zero_law)
    ∙ ap (of_list K) one_more
    ∙ of_list-pushed_zero K ys c.zero.result (c.zero.ensures ∙ g.met.F.Field.zero_law) in
    record {
      len = len;
      some = omega (arith, len, all, c.requires);
      done = λ k l. of_list-past K new k (omega (arith, l, all)) ∙ sym (by_two-below K N ys c.args.root c.args.other k (omega (arith, l, all, len)));
      rest = λ k l. ap (λ t. t k) same;
    }

pub loop-i-preserved : goal.loop-i-preserved
loop-i-preserved g c =
    let K = g.F.Field.field in
    let N = g.met.F.Field.field_laws in
    let v = c.loop-i.invariant in
    let ys = c.args.coeffs.now.items in
    let a = of_list K ys in
    let xs = c.loop-i.coeffs.items in
    let y = c.args.root in
    let z = c.args.other in
    let i = c.loop-i.i - 1 in
    let new = c.add.result in
    let next : c.loop-i.i ≡ i + 1 = let t = c.loop-i-test.true in omega arith in
    let past : 1 < i = let t = c.loop-i-test.true in omega arith in
    let many : c.len-i.result ≡ length ys + 2 =
    omega (arith, c.len-i.ensures, ap length c.in_ok-push-2.ensures.items ∙ length-append c.push.new.self.items (c.zero-2.result ∷ []), ap length c.in_ok-push.ensures.items ∙ length-append ys (c.zero.result ∷ [])) in
    let inside : i < length xs = omega (arith, next, c.loop-i.auto.i, v.len, many) in
    let two_below : c.index.result.now ≡ a (i - 2) = get_or_read xs (i - 2) c.index.result.now (omega (arith, inside)) c.index.ensures K.zero ∙ v.rest (i - 2) (omega (arith, past, next)) in
    let below : c.index-in-loop-i.result.now ≡ a (i - 1) = get_or_read xs (i - 1) c.index-in-loop-i.result.now (omega (arith, inside)) c.index-in-loop-i.ensures K.zero ∙ v.rest (i - 1) (omega (arith, past, next)) in
    let own : c.index-in-loop-i-2.result.now ≡ a i = get_or_read xs i c.index-in-loop-i-2.result.now inside c.index-in-loop-i-2.ensures K.zero ∙ v.rest i (omega (arith, next)) in
    let is : new ≡ by_two K a y z i =
    g.met.F.Field.add_law _ _ _ c.add.ensures
    ∙ ap₂ K.plus
    (g.met.F.Field.sub_law _ _ _ c.sub.ensures ∙ ap₂ (minus K) two_below (g.met.F.Field.mul_law _ _ _ c.mul.ensures ∙ ap₂ K.times (g.met.F.Field.add_law _ _ _ c.add-sum.ensures) below))
    (g.met.F.Field.mul_law _ _ _ c.mul-in-loop-i.ensures ∙ ap₂ K.times (g.met.F.Field.mul_law _ _ _ c.mul-both.ensures) own)
    ∙ sym (by_two-past K N a y z i past) in
    record {
      len = length-set xs i new ∙ v.len;
      some = past;
      done = λ k l. ⊎_elim
          (λ (e : k ≡ i). ap (of_list K (slice_set xs i new)) e ∙ get_or-set_same xs i new K.zero inside ∙ is ∙ ap (by_two K a y z) (sym e))
          (λ (ne : k ≢ i). get_or-set_other xs i k new K.zero ne ∙ v.done k (omega (arith, l, ne, next)))
          (cases_eq k i);
      rest = λ k l. get_or-set_other xs i k new K.zero (omega (arith, l)) ∙ v.rest k (omega (arith, l, next));
    }

pub returns-clause-product : goal.returns-clause-product
returns-clause-product g c =
    let K = g.F.Field.field in
    let N = g.met.F.Field.field_laws in
    let v = c.loop-i.invariant in
    let a = of_list K c.args.coeffs.now.items in
    let xs = c.loop-i.coeffs.items in
    let y = c.args.root in
    let z = c.args.other in
    let second = c.sub-2.result in
    let written = slice_set xs 1 second in
    let last : c.loop-i.i ≡ 2 = let t = c.loop-i-test.false in omega (arith, v.some) in
    let inside : 1 < length xs = omega (arith, v.len, c.requires) in
    let room : 0 < length written = omega (arith, inside, length-set xs 1 second) in
    let sum = g.met.F.Field.add_law _ _ _ c.add-sum.ensures in
    let both = g.met.F.Field.mul_law _ _ _ c.mul-both.ensures in
    let at_one : c.index-2.result.now ≡ a 1 = get_or_read xs 1 c.index-2.result.now inside c.index-2.ensures K.zero ∙ v.rest 1 v.some in
    let at_zero : c.index-3.result.now ≡ a 0 = get_or_read xs 0 c.index-3.result.now (omega (arith, inside)) c.index-3.ensures K.zero ∙ v.rest 0 (omega (arith, last)) in
    let still : c.index-4.result.now ≡ a 0 = get_or_read written 0 c.index-4.result.now room c.index-4.ensures K.zero ∙ get_or-set_other xs 1 0 second K.zero (omega arith) ∙ v.rest 0 (omega (arith, last)) in
    let second_is : second ≡ by_two K a y z 1 =
    g.met.F.Field.sub_law _ _ _ c.sub-2.ensures
    ∙ ap₂ (minus K) (g.met.F.Field.mul_law _ _ _ c.mul-2.ensures ∙ ap₂ K.times both at_one) (g.met.F.Field.mul_law _ _ _ c.mul-3.ensures ∙ ap₂ K.times sum at_zero)
    ∙ sym (by_two-second K N a y z) in
    let first_is : c.mul-4.result ≡ by_two K a y z 0 = g.met.F.Field.mul_law _ _ _ c.mul-4.ensures ∙ ap₂ K.times both still ∙ sym (by_two-first K N a y z) in
    of_list-set K written 0 c.mul-4.result (by_two K a y z) room (sym first_is)
    (λ k ne. ⊎_elim
    (λ (e : k ≡ 1). ap (by_two K a y z) e ∙ sym second_is ∙ sym (ap (of_list K written) e ∙ get_or-set_same xs 1 second K.zero inside))
    (λ (other : k ≢ 1). sym (get_or-set_other xs 1 k second K.zero other ∙ v.done k (omega (arith, ne, other, last))))
    (cases_eq k 1))
