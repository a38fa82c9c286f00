use Rattle.std.proofs.Common.{◌≡◌, ℕ, ◌<◌, length, refl, sym, ap, ap₂, subst, ◌∙◌, arith}
use mathlib.Core.Path.{fun_ext}
use Rattle.std.proofs.lemmas.List.{get_or_read}
use Rattle.ark_math.specs.Field.{natural}
use Rattle.ark_math.specs.Univariate.{of_list}
use Rattle.ark_math_polynomials.proofs.Polynomials.UnivariateLoops.{zipped-begin, zipped-inside, zipped-set}
use Rattle.ark_sum_check.specs.Cube.{combined}
use Rattle.ark_sum_check.specs.Lists.{FitTables, as_sum}
use Rattle.ark_sum_check.specs.Provers.{addends_of}
use Rattle.ark_sum_check.proofs.Steps.{step-first, step-next}
use Rattle.ark_sum_check.proofs.sums.add_along.Goals as goal

pub loop-i-init : goal.loop-i-init
loop-i-init g c =
    let K = g.F.Field.field in
    let at = λ (i k : ℕ). K.plus (of_list K c.args.values.now k) (K.times (natural K i) (of_list K c.args.steps.now k)) in
    record {
      values = λ k. step-first K g.met.F.Field.field_laws (of_list K c.args.values.now k) (of_list K c.args.steps.now k);
      sums = zipped-begin K K.plus (of_list K c.args.sums.now) (λ i. combined K (addends_of K (length c.args.values.now) (as_sum c.args.addends.now)) (at i));
      count = refl;
    }

pub sum_of_products-value-requires : goal.sum_of_products-value-requires
sum_of_products-value-requires g c = subst (λ n. FitTables n c.args.addends.now) (sym c.loop-i.invariant.count) c.requires.within

pub add_each-requires : goal.add_each-requires
add_each-requires g c = omega (arith, c.requires.steps, c.loop-i.invariant.count)

pub loop-i-preserved : goal.loop-i-preserved
loop-i-preserved g c =
    let K = g.F.Field.field in
    let v = c.loop-i.invariant in
    let i = c.loop-i.i in
    let xs = c.loop-i.values in
    let sums = c.loop-i.sums in
    let bs = c.args.addends.now in
    let at = λ (i k : ℕ). K.plus (of_list K c.args.values.now k) (K.times (natural K i) (of_list K c.args.steps.now k)) in
    let value : c.sum_of_products-value.result ≡ combined K (addends_of K (length c.args.values.now) (as_sum bs)) (at i) =
    c.sum_of_products-value.ensures ∙ ap₂ (λ n f. combined K (addends_of K n (as_sum bs)) f) v.count (fun_ext v.values) in
    let inside : i < length sums = omega arith in
    let left : c.index-sums-i.result ≡ of_list K sums i = get_or_read sums i c.index-sums-i.result inside c.index-sums-i.is K.zero in
    record {
      values = λ k.
          ap (λ f. f k) c.add_each.ensures
          ∙ ap (λ u. K.plus u (of_list K c.args.steps.now k)) (v.values k)
          ∙ step-next K g.met.F.Field.field_laws (of_list K c.args.values.now k) (of_list K c.args.steps.now k) i;
      sums =
          zipped-set K K.plus (of_list K c.args.sums.now) (λ i. combined K (addends_of K (length c.args.values.now) (as_sum bs)) (at i)) i sums c.add_assign.new.self inside v.sums
          (g.met.F.Field.add_assign_law _ _ _ c.add_assign.ensures.after ∙ ap₂ K.plus (sym c.index-sums-i.is ∙ left) value);
      count = omega (arith, c.add_each.auto.coeffs, v.count);
    }

pub returns : goal.returns
returns g c =
    let K = g.F.Field.field in
    let at = λ (i k : ℕ). K.plus (of_list K c.args.values.now k) (K.times (natural K i) (of_list K c.args.steps.now k)) in
    record {
      sums = λ i l.
          ap (λ f. f i) c.loop-i.invariant.sums
          ∙ zipped-inside K K.plus c.loop-i.i (of_list K c.args.sums.now) (λ i. combined K (addends_of K (length c.args.values.now) (as_sum c.args.addends.now)) (at i)) i (omega arith);
    }
