use Rattle.std.proofs.Common.{◌≡◌, ◌+◌, length, ap, ap₂, ◌∙◌, arith}
use Rattle.std.proofs.lemmas.List.{length-replicate}
use Rattle.std.specs.Vec.{with_items}
use Rattle.ark_math.specs.Field.{natural}
use Rattle.ark_math.specs.Univariate.{of_list}
use Rattle.ark_math.proofs.Lists.Lists.{written_back}
use Rattle.ark_sum_check.specs.Cube.{combined}
use Rattle.ark_sum_check.specs.Lists.{as_sum}
use Rattle.ark_sum_check.specs.Provers.{addends_of}
use Rattle.ark_sum_check.proofs.Factors.{summed}
use Rattle.ark_sum_check.proofs.Steps.{of_zeros, round_along, sum_along}
use Rattle.ark_sum_check.proofs.sums.round_of_sum.Goals as goal

pub loop-corner-init : goal.loop-corner-init
loop-corner-init g c =
    let K = g.F.Field.field in
    record {
      values = omega (arith, ap length c.in_ok-values.ensures, length-replicate (length c.args.tables.now) K.zero);
      steps = omega (arith, ap length c.in_ok-steps.ensures, length-replicate (length c.args.tables.now) K.zero);
      count = ap length c.in_ok-sums.ensures ∙ length-replicate (c.args.degree + 1) K.zero;
      sums = λ i l. ap (λ xs. of_list K xs i) c.in_ok-sums.ensures ∙ of_zeros K (c.args.degree + 1) i l;
    }

pub take_corner-requires-clause-values : goal.take_corner-requires-clause-values
take_corner-requires-clause-values g c = ap length c.as_mut_slice.ensures.value ∙ c.loop-corner.invariant.values

pub take_corner-requires-clause-steps : goal.take_corner-requires-clause-steps
take_corner-requires-clause-steps g c = ap length c.as_mut_slice-in-loop-corner.ensures.value ∙ c.loop-corner.invariant.steps

pub loop-corner-preserved : goal.loop-corner-preserved
loop-corner-preserved g c =
    let K = g.F.Field.field in
    let N = g.met.F.Field.field_laws in
    let tables = c.args.tables.now in
    let bs = c.args.addends.now in
    let s = summed K tables bs in
    let b = c.loop-corner.corner in
    let v = c.loop-corner.invariant in
    let xs = c.take_corner.new.values in
    let ws = c.take_corner.new.steps in
    let values_in : (with_items c.loop-corner.values xs).items ≡ xs = written_back xs _ _ (omega (arith, c.take_corner.auto.values, c.as_mut_slice.ensures.len)) in
    let steps_in : (with_items c.loop-corner.steps ws).items ≡ ws = written_back ws _ _ (omega (arith, c.take_corner.auto.steps, c.as_mut_slice-in-loop-corner.ensures.len)) in
    let now : c.as_mut_slice-in-loop-corner-2.result.now ≡ xs = c.as_mut_slice-in-loop-corner-2.ensures.value ∙ values_in in
    let steps : c.deref.result.now ≡ ws = c.deref.ensures.value ∙ steps_in in
    let sums : c.as_mut_slice-in-loop-corner-3.result.now ≡ c.loop-corner.sums.items = c.as_mut_slice-in-loop-corner-3.ensures.value in
    let count : length xs ≡ length tables = omega (arith, c.take_corner.auto.values, ap length c.as_mut_slice.ensures.value, v.values) in
    let ys = c.add_along.new.values in
    let zs = c.add_along.new.sums in
    let values_out : (with_items (with_items c.loop-corner.values xs) ys).items ≡ ys = written_back ys _ _ (omega (arith, c.add_along.auto.values, c.as_mut_slice-in-loop-corner-2.ensures.len)) in
    let sums_out : (with_items c.loop-corner.sums zs).items ≡ zs = written_back zs _ _ (omega (arith, c.add_along.auto.sums, c.as_mut_slice-in-loop-corner-3.ensures.len)) in
    let all : length zs ≡ c.args.degree + 1 = omega (arith, c.add_along.auto.sums, ap length sums, v.count) in
    record {
      values = ap length values_out ∙ omega (arith, c.add_along.auto.values, ap length now, count);
      steps = ap length steps_in ∙ omega (arith, c.take_corner.auto.steps, ap length c.as_mut_slice-in-loop-corner.ensures.value, v.steps);
      count = ap length sums_out ∙ all;
      sums = λ i l.
          ap (λ us. of_list K us i) sums_out
          ∙ sum_along K N s b i (of_list K xs) (of_list K ws) (of_list K c.loop-corner.sums.items i) (of_list K zs i) c.take_corner.ensures.values c.take_corner.ensures.steps (v.sums i l)
          (c.add_along.ensures.sums i (omega (arith, ap length sums, v.count))
          ∙ ap₂ K.plus (ap (λ us. of_list K us i) sums)
          (ap₂ (λ us vs. combined K (addends_of K (length us) (as_sum bs)) (λ k. K.plus (of_list K us k) (K.times (natural K i) (of_list K vs k)))) now steps
          ∙ ap (λ n. combined K (addends_of K n (as_sum bs)) (λ k. K.plus (of_list K xs k) (K.times (natural K i) (of_list K ws k)))) count));
    }

pub returns-clause-truth : goal.returns-clause-truth
returns-clause-truth g c = λ m power.
    let K = g.F.Field.field in
    let v = c.loop-corner.invariant in
    let all : c.loop-corner.corner ≡ c.args.half = omega arith in
    round_along K g.met.F.Field.field_laws c.args.degree m c.loop-corner.corner (summed K c.args.tables.now c.args.addends.now) c.loop-corner.sums.items (all ∙ power) v.count v.sums
