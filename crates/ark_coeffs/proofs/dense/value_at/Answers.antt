use Rattle.std.proofs.Common.{◌≡◌, ◌+◌, ◌-◌, ◌*◌, ◌/◌, ◌%◌, ◌<◌, ◌≤◌, length, subst, sym, ap, ap₂, ◌∙◌, arith}
use Rattle.std.proofs.lemmas.List.{drop_all, get_or_read}
use Rattle.ark_math.specs.Module.{itself}
use Rattle.ark_math.specs.Transform.{value_at}
use Rattle.ark_math.specs.Univariate.{of_list, IsValue}
use Rattle.ark_math_polynomials.proofs.Polynomials.UnivariateValues.{value_from, value_from-one, value_from-four, value-of_list}
use Rattle.ark_coeffs.proofs.dense.value_at.Goals as goal

pub loop-k-init : goal.loop-k-init
loop-k-init g c =
    let K = g.F.Field.field in
    let xs = c.args.coeffs.now in
    let whole : length xs ≤ length xs % 4 + 4 * (length xs / 4) = omega arith in
    c.zero-value.ensures
    ∙ g.met.F.Field.zero_law
    ∙ sym (ap (λ t. value_at K (itself K) t c.args.point) (drop_all (length xs % 4 + 4 * (length xs / 4)) xs whole))

pub loop-k-preserved : goal.loop-k-preserved
loop-k-preserved g c =
    let K = g.F.Field.field in
    let F = g.met.F.Field in
    let xs = c.args.coeffs.now in
    let i = length xs % 4 + 4 * (c.loop-k.k - 1) in
    let next : length xs % 4 + 4 * c.loop-k.k ≡ i + 4 = let t = c.loop-k-test.true in omega arith in
    let inside : i + 3 < length xs = let t = c.loop-k-test.true in omega (arith, c.loop-k.auto.k) in
    let first : c.index-coeffs-i.result ≡ of_list K xs i = get_or_read xs i c.index-coeffs-i.result (omega arith) c.index-coeffs-i.is K.zero in
    let second : c.index-coeffs-i-in-loop-k.result ≡ of_list K xs (i + 1) = get_or_read xs (i + 1) c.index-coeffs-i-in-loop-k.result (omega arith) c.index-coeffs-i-in-loop-k.is K.zero in
    let third : c.index-coeffs-i-in-loop-k-2.result ≡ of_list K xs (i + 2) = get_or_read xs (i + 2) c.index-coeffs-i-in-loop-k-2.result (omega arith) c.index-coeffs-i-in-loop-k-2.is K.zero in
    let last : c.index-coeffs-i-in-loop-k-3.result ≡ of_list K xs (i + 3) = get_or_read xs (i + 3) c.index-coeffs-i-in-loop-k-3.result (omega arith) c.index-coeffs-i-in-loop-k-3.is K.zero in
    let square = c.mul-square.result in
    let cube = c.mul-cube.result in
    let low : c.add-low.result ≡ K.plus (of_list K xs i) (K.times (of_list K xs (i + 1)) c.args.point) =
    F.add_law _ _ _ c.add-low.ensures ∙ ap₂ K.plus first (F.mul_law _ _ _ c.mul.ensures ∙ ap (λ t. K.times t c.args.point) second) in
    let high : c.add-high.result ≡ K.plus (K.times (of_list K xs (i + 2)) square) (K.times (of_list K xs (i + 3)) cube) =
    F.add_law _ _ _ c.add-high.ensures
    ∙ ap₂ K.plus (F.mul_law _ _ _ c.mul-in-loop-k.ensures ∙ ap (λ t. K.times t square) third) (F.mul_law _ _ _ c.mul-in-loop-k-2.ensures ∙ ap (λ t. K.times t cube) last) in
    F.add_law _ _ _ c.add-value.ensures
    ∙ ap₂ K.plus (F.mul_law _ _ _ c.mul-in-loop-k-3.ensures) (F.add_law _ _ _ c.add.ensures ∙ ap₂ K.plus low high)
    ∙ value_from-four K F.field_laws xs c.args.point i square cube c.mul-fourth.result c.loop-k.value inside
    (F.mul_law _ _ _ c.mul-square.ensures) (F.mul_law _ _ _ c.mul-cube.ensures) (F.mul_law _ _ _ c.mul-fourth.ensures)
    (c.loop-k.invariant ∙ ap (value_from K xs c.args.point) next)

pub loop-i-preserved : goal.loop-i-preserved
loop-i-preserved g c =
    let K = g.F.Field.field in
    let F = g.met.F.Field in
    let xs = c.args.coeffs.now in
    let i = c.loop-i.i - 1 in
    let next : c.loop-i.i ≡ i + 1 = let t = c.loop-i-test.true in omega arith in
    let inside : i < length xs = let t = c.loop-i-test.true in omega (arith, c.loop-i.auto.i) in
    let item : c.index-coeffs-i-in-loop-i.result ≡ of_list K xs i = get_or_read xs i c.index-coeffs-i-in-loop-i.result inside c.index-coeffs-i-in-loop-i.is K.zero in
    F.add_law _ _ _ c.add-value-in-loop-i.ensures
    ∙ ap₂ K.plus (F.mul_law _ _ _ c.mul-in-loop-i.ensures) item
    ∙ value_from-one K F.field_laws xs c.args.point i c.loop-i.value inside (c.loop-i.invariant ∙ ap (value_from K xs c.args.point) next)

pub returns : goal.returns
returns g c =
    let K = g.F.Field.field in
    let xs = c.args.coeffs.now in
    let x = c.args.point in
    let end : c.loop-i.i ≡ 0 = let t = c.loop-i-test.false in omega arith in
    let is : c.loop-i.value ≡ value_at K (itself K) xs x = c.loop-i.invariant ∙ ap (value_from K xs x) end in
    subst (IsValue K (of_list K xs) x) (sym is) (value-of_list K g.met.F.Field.field_laws xs x)
