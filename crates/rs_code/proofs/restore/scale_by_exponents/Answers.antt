use Rattle.std.proofs.Common.{◌≡◌, ◌<◌, ℕ, map, length, get_or, sym, ap, ap₂, ◌∙◌, arith, add-one}
use Rattle.ark_math.specs.Field.{natural}
use Rattle.ark_math.specs.Module.{item}
use Rattle.ark_math.proofs.Lists.Lists.{written_more, written_rest, read_as}
use Rattle.rs_code.specs.Locator.{euler}
use Rattle.rs_code.proofs.restore.scale_by_exponents.Goals as goal

pub loop-i-preserved : goal.loop-i-preserved
loop-i-preserved g c =
    let V = g.T.Summand.group in
    let m = g.T.Summand.meaning in
    let K = g.F.Field.field in
    let v = c.loop-i.invariant in
    let s = c.scale.ensures in
    let i = c.loop-i.i in
    let xs = c.loop-i.coeffs in
    let old = λ (k : ℕ). item V (map m c.args.coeffs.now) k in
    let inside : i < length xs = omega arith in
    let read : m (get_or xs i c.index-coeffs-i.result) ≡ old i = ap m (sym c.index-coeffs-i.is) ∙ read_as m V.zero xs i c.index-coeffs-i.result inside c.index-coeffs-i.is ∙ v.rest i (omega arith) in
    record {
      exponent_is = g.met.F.Field.add_law _ _ _ c.add-exponent.ensures ∙ ap₂ K.plus v.exponent_is (c.one.ensures ∙ g.met.F.Field.one_law) ∙ ap (natural K) (sym (add-one i));
      before = written_more m V.zero (euler K V old) xs i c.scale.new.value inside v.before (s.product ∙ ap₂ V.scale v.exponent_is read);
      rest = written_rest m V.zero old xs i c.scale.new.value v.rest;
      products_are = omega (arith, s.counted.products, v.products_are);
      butterflies_are = omega (arith, s.counted.butterflies, v.butterflies_are);
      steps_are = omega (arith, s.counted.steps, v.steps_are);
    }
