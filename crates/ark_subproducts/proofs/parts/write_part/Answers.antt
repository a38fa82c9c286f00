use Rattle.std.proofs.Common.{◌≡◌, ℕ, ◌+◌, ◌-◌, ◌≤◌, length, sym, ap, ap₂, ◌∙◌, arith, add-one}
use Rattle.std.proofs.lemmas.List.{get_or_read}
use Rattle.ark_math.specs.Module.{itself, sum_below}
use Rattle.ark_math.specs.Univariate.{of_list}
use Rattle.ark_math_polynomials.proofs.Polynomials.UnivariateLists.{of_list-below}
use Rattle.ark_subproducts.proofs.PastProducts.{product_by_few}
use Rattle.ark_subproducts.proofs.parts.write_part.Goals as goal

pub loop-i-preserved : goal.loop-i-preserved
loop-i-preserved g c =
    let K = g.F.Field.field in
    let v = c.loop-i.invariant in
    let i = c.loop-i.i in
    let start = c.args.start in
    let left = c.args.left.now in
    let right = c.args.right.now in
    let few : i ≤ start = omega (arith, c.loop-i-test.true, c.requires) in
    let own : c.index-left-i.result ≡ of_list K left i = get_or_read left i c.index-left-i.result c.loop-i-test.true c.index-left-i.is K.zero in
    record {
      len = c.add_scaled.auto.coeffs ∙ v.len;
      done = λ j l.
          let f : ℕ → g.row.F.Denot = λ k. K.times (of_list K left k) (of_list K right (start + j - k)) in
          let place : start - i + j ≡ start + j - i = omega (arith, few) in
          ap (λ t. t j) c.add_scaled.ensures
          ∙ ap₂ K.plus (v.done j l) (ap₂ K.times own (c.run_of-row.ensures.items j (omega (arith, l, v.len)) ∙ ap (of_list K right) place))
          ∙ ap (λ m. sum_below (itself K) m f) (sym (add-one i));
    }

pub returns-clause-part : goal.returns-clause-part
returns-clause-part g c j l =
    let K = g.F.Field.field in
    let N = g.met.F.Field.field_laws in
    let left = c.args.left.now in
    let right = c.args.right.now in
    let all : c.loop-i.i ≡ length left = omega (arith, c.loop-i-test.false, c.loop-i.auto.i-end) in
    let f : ℕ → g.row.F.Denot = λ k. K.times (of_list K left k) (of_list K right (c.args.start + j - k)) in
    c.loop-i.invariant.done j l
    ∙ ap (λ m. sum_below (itself K) m f) all
    ∙ product_by_few K N c.args.start (length left) (of_list K left) (of_list K right) j (of_list-below K left) c.requires
