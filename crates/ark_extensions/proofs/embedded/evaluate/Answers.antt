use Rattle.std.proofs.Common.{◌≡◌, ◌+◌, ◌-◌, ◌*◌, ◌/◌, ◌%◌, ◌<◌, ◌≤◌, length, map, subst, sym, ap, ap₂, ◌∙◌, arith}
use Rattle.std.proofs.lemmas.List.{drop_all, length-map}
use Rattle.ark_math.specs.Module.{itself}
use Rattle.ark_math.specs.Transform.{value_at}
use Rattle.ark_math.specs.Univariate.{of_list, IsValue}
use Rattle.ark_math_polynomials.proofs.Polynomials.UnivariateValues.{value_from, value_from-one, value_from-four, value-of_list}
use Rattle.ark_extensions.proofs.BaseLists.{embedded_item}
use Rattle.ark_extensions.proofs.embedded.evaluate.Goals as goal

pub loop-k-init : goal.loop-k-init
loop-k-init g c =
    let K = g.E.Field.field in
    let cs = c.args.coeffs.now in
    let xs = map g.E.ExtensionOf.within cs in
    let same = length-map cs g.E.ExtensionOf.within in
    let whole : length xs ≤ length cs % 4 + 4 * (length cs / 4) = omega (arith, same) in
    c.zero-value.ensures
    ∙ g.met.E.Field.zero_law
    ∙ sym (ap (λ t. value_at K (itself K) t c.args.point) (drop_all (length cs % 4 + 4 * (length cs / 4)) xs whole))

pub loop-k-preserved : goal.loop-k-preserved
loop-k-preserved g c =
    let K = g.E.Field.field in
    let L = g.met.E.Field in
    let e = g.E.ExtensionOf.within in
    let cs = c.args.coeffs.now in
    let xs = map e cs in
    let same = length-map cs e in
    let i = length cs % 4 + 4 * (c.loop-k.k - 1) in
    let next : length cs % 4 + 4 * c.loop-k.k ≡ i + 4 = let t = c.loop-k-test.true in omega arith in
    let within : i + 3 < length cs = let t = c.loop-k-test.true in omega (arith, c.loop-k.auto.k) in
    let inside : i + 3 < length xs = omega (arith, same) in
    let first = embedded_item g.F.Field.field K e cs i c.index-coeffs-i.result (omega arith) c.index-coeffs-i.is in
    let second = embedded_item g.F.Field.field K e cs (i + 1) c.index-coeffs-i-in-loop-k.result (omega arith) c.index-coeffs-i-in-loop-k.is in
    let third = embedded_item g.F.Field.field K e cs (i + 2) c.index-coeffs-i-in-loop-k-2.result (omega arith) c.index-coeffs-i-in-loop-k-2.is in
    let last = embedded_item g.F.Field.field K e cs (i + 3) c.index-coeffs-i-in-loop-k-3.result (omega arith) c.index-coeffs-i-in-loop-k-3.is in
    let square = c.mul-square.result in
    let cube = c.mul-cube.result in
    let low : c.add-low.result ≡ K.plus (of_list K xs i) (K.times (of_list K xs (i + 1)) c.args.point) =
    L.add_law _ _ _ c.add-low.ensures ∙ ap₂ K.plus (c.embed.ensures ∙ first) (c.mul_by_base.ensures ∙ ap (λ t. K.times t c.args.point) second) in
    let high : c.add-high.result ≡ K.plus (K.times (of_list K xs (i + 2)) square) (K.times (of_list K xs (i + 3)) cube) =
    L.add_law _ _ _ c.add-high.ensures
    ∙ ap₂ K.plus (c.mul_by_base-in-loop-k.ensures ∙ ap (λ t. K.times t square) third) (c.mul_by_base-in-loop-k-2.ensures ∙ ap (λ t. K.times t cube) last) in
    L.add_law _ _ _ c.add-value.ensures
    ∙ ap₂ K.plus (L.mul_law _ _ _ c.mul.ensures) (L.add_law _ _ _ c.add.ensures ∙ ap₂ K.plus low high)
    ∙ value_from-four K L.field_laws xs c.args.point i square cube c.mul-fourth.result c.loop-k.value inside
    (L.mul_law _ _ _ c.mul-square.ensures) (L.mul_law _ _ _ c.mul-cube.ensures) (L.mul_law _ _ _ c.mul-fourth.ensures)
    (c.loop-k.invariant ∙ ap (value_from K xs c.args.point) next)

pub loop-i-preserved : goal.loop-i-preserved
loop-i-preserved g c =
    let K = g.E.Field.field in
    let L = g.met.E.Field in
    let e = g.E.ExtensionOf.within in
    let cs = c.args.coeffs.now in
    let xs = map e cs in
    let i = c.loop-i.i - 1 in
    let next : c.loop-i.i ≡ i + 1 = let t = c.loop-i-test.true in omega arith in
    let within : i < length cs = let t = c.loop-i-test.true in omega (arith, c.loop-i.auto.i) in
    let inside : i < length xs = omega (arith, length-map cs e) in
    let item = embedded_item g.F.Field.field K e cs i c.index-coeffs-i-in-loop-i.result within c.index-coeffs-i-in-loop-i.is in
    L.add_law _ _ _ c.add-value-in-loop-i.ensures
    ∙ ap₂ K.plus (L.mul_law _ _ _ c.mul-in-loop-i.ensures) (c.embed-in-loop-i.ensures ∙ item)
    ∙ value_from-one K L.field_laws xs c.args.point i c.loop-i.value inside (c.loop-i.invariant ∙ ap (value_from K xs c.args.point) next)

pub returns : goal.returns
returns g c =
    let K = g.E.Field.field in
    let xs = map g.E.ExtensionOf.within c.args.coeffs.now in
    let x = c.args.point in
    let end : c.loop-i.i ≡ 0 = let t = c.loop-i-test.false in omega arith in
    let is : c.loop-i.value ≡ value_at K (itself K) xs x = c.loop-i.invariant ∙ ap (value_from K xs x) end in
    subst (IsValue K (of_list K xs) x) (sym is) (value-of_list K g.met.E.Field.field_laws xs x)
