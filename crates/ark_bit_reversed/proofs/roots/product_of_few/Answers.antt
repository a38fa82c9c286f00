use Rattle.std.proofs.Common.{◌≡◌, suc, ◌+◌, ◌-◌, ◌*◌, ◌/◌, ◌<◌, length, get_or, take, ap, sym, ◌∙◌, arith}
use Rattle.std.proofs.lemmas.List.{take_all}
use Rattle.ark_math_polynomials.specs.Linear.{linear_factor}
use Rattle.ark_math.specs.Univariate.{of_list, product}
use Rattle.ark_math_polynomials.specs.Nodes.{nodes}
use Rattle.ark_math_polynomials.proofs.Polynomials.LinearFactors.{nodes-next}
use Rattle.ark_bit_reversed.proofs.roots.product_of_few.Goals as goal
use Rattle.ark_bit_reversed.proofs.roots.product_of_few.Goals.{then-roots-eq1+in_ok-multiply_by_linear, else-roots-eq1}

pub loop-k-preserved : goal.loop-k-preserved
loop-k-preserved g c =
    let K = g.F.Field.field in
    let N = g.met.F.Field.field_laws in
    let roots = c.args.roots.now in
    let k = c.loop-k.k in
    let y = c.index-roots-k.result in
    let z = c.index-roots-k-in-loop-k.result in
    let d = c.in_ok-multiply_by_two.ensures in
    let inside : 2 * k + 1 < length roots = let t = c.loop-k-test.true in omega arith in
    let next : 2 * k + 1 ≡ suc (2 * k) = omega arith in
    let after : 2 * (k + 1) ≡ suc (suc (2 * k)) = omega arith in
    let first = nodes-next K N roots (2 * k) y (omega (arith, inside)) c.index-roots-k.is in
    let second = nodes-next K N roots (suc (2 * k)) z (omega (arith, inside)) (c.index-roots-k-in-loop-k.is ∙ ap (λ i. get_or roots i z) next) in
    record {
      product =
          d.product
          ∙ ap (λ a. product K (product K a (linear_factor K y)) (linear_factor K z)) c.loop-k.invariant.product
          ∙ ap (λ a. product K a (linear_factor K z)) (sym first)
          ∙ sym second
          ∙ ap (λ i. nodes K (take i roots)) (sym after);
      len = omega (arith, d.len, c.loop-k.invariant.len);
    }

pub returns-clause-product : goal.returns-clause-product
returns-clause-product g c =
    let K = g.F.Field.field in
    let N = g.met.F.Field.field_laws in
    let roots = c.args.roots.now in
    let k = c.loop-k.k in
    let pairs : k ≡ length roots / 2 = omega (arith, c.loop-k.auto.k-end, c.loop-k-test.false) in
    let known = c.loop-k.invariant.product in
    let all : take (length roots) roots ≡ roots = take_all (length roots) roots (omega arith) in
    elim c.if-roots-eq1.branch [
      | then-roots-eq1+in_ok-multiply_by_linear w ↦
          let z = w.index-roots-roots.result in
          let odd : suc (2 * k) ≡ length roots = omega (arith, pairs, w.if-roots-eq1.true) in
          let place : length roots - 1 ≡ 2 * k = omega (arith, odd) in
          ap (λ t. of_list K t.items) w.coeffs-is
          ∙ w.in_ok-multiply_by_linear.ensures.product
          ∙ ap (λ a. product K a (linear_factor K z)) known
          ∙ sym (nodes-next K N roots (2 * k) z (omega (arith, odd)) (w.index-roots-roots.is ∙ ap (λ i. get_or roots i z) place))
          ∙ ap (nodes K) (ap (λ i. take i roots) odd ∙ all)
      | else-roots-eq1 w ↦
          let even : 2 * k ≡ length roots = omega (arith, pairs, w.if-roots-eq1.false) in
          ap (λ t. of_list K t.items) w.coeffs-is ∙ known ∙ ap (nodes K) (ap (λ i. take i roots) even ∙ all)
    ]
