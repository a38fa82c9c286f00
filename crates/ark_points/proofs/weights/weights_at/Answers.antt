use Rattle.std.proofs.Common.{◌≡◌, ◌<◌, ℕ, length, sym, ap, subst, ◌∙◌, arith, true≢false}
use Rattle.ark_math.specs.Univariate.{of_list}
use Rattle.ark_math.proofs.Lists.Lists.{written_back}
use Rattle.ark_math_points.specs.AtPoints.{AreDifferent, AreWeightsAt, differences}
use Rattle.ark_math_points.proofs.AtPoints.Basis.{differences-some}
use Rattle.ark_math_points.proofs.AtPoints.Lagrange.{one_list_of_weights, weights_are}
use Rattle.ark_points.proofs.weights.weights_at.Goals as goal

pub returns-then-has_repeated-clause-repeated : goal.returns-then-has_repeated-clause-repeated
returns-then-has_repeated-clause-repeated g c = λ e. c.has_repeated.ensures.0 c.if-has_repeated.true

pub returns-clause-weights : goal.returns-clause-weights
returns-clause-weights g c =
    let K = g.F.Field.field in
    let N = g.met.F.Field.field_laws in
    let points = c.args.points.now in
    let x = of_list K points in
    let n = length points in
    let different : AreDifferent n x = λ i j l b e. true≢false (sym (c.has_repeated.ensures.1 (i, j, l, b, e)) ∙ c.if-has_repeated.false) in
    let first = c.in_ok-weights.weights.items in
    let inverses = c.batch_inversion.new.items in
    let last = c.multiply_by_differences.new.items in
    let before : c.as_mut_slice.result.now ≡ first = c.as_mut_slice.ensures.value in
    let second : c.as_mut_slice-2.result.now ≡ inverses = c.as_mut_slice-2.ensures.value ∙ written_back inverses _ _ (omega (arith, c.batch_inversion.auto.items, c.as_mut_slice.ensures.len)) in
    let len : length inverses ≡ n = omega (arith, c.batch_inversion.auto.items, ap length before, c.in_ok-weights.ensures.len) in
    let one : (i : ℕ) → i < n → K.times (of_list K inverses i) (of_list K c.as_mut_slice.result.now i) ≡ K.one = λ i l.
    let d = differences K x i n (x i) in
    let is : of_list K c.as_mut_slice.result.now i ≡ d = ap (λ t. of_list K t i) before ∙ c.in_ok-weights.ensures.products i l in
    (c.in_ok-batch_inversion.ensures.inverses i (omega (arith, l, ap length before, c.in_ok-weights.ensures.len))).some (λ e. differences-some K N x i n different l (sym is ∙ e)) in
    let w = weights_are K N x n c.args.tau last (of_list K inverses) different
    (omega (arith, c.multiply_by_differences.ensures.len, ap length second, len))
    (λ i l. ap (K.times (of_list K inverses i)) (sym (ap (λ t. of_list K t i) before ∙ c.in_ok-weights.ensures.products i l)) ∙ one i l)
    (λ i l. c.multiply_by_differences.ensures.products i l ∙ ap (λ t. K.times (of_list K t i) (differences K x i n c.args.tau)) second) in
    let back = written_back last _ _ (omega (arith, c.multiply_by_differences.auto.items, c.as_mut_slice-2.ensures.len)) in
    let whole = subst (AreWeightsAt K n x c.args.tau) (sym back) w in
    whole

pub returns-clause-only : goal.returns-clause-only
returns-clause-only g c =
    let K = g.F.Field.field in
    let N = g.met.F.Field.field_laws in
    let points = c.args.points.now in
    let x = of_list K points in
    let n = length points in
    let different : AreDifferent n x = λ i j l b e. true≢false (sym (c.has_repeated.ensures.1 (i, j, l, b, e)) ∙ c.if-has_repeated.false) in
    let first = c.in_ok-weights.weights.items in
    let inverses = c.batch_inversion.new.items in
    let last = c.multiply_by_differences.new.items in
    let before : c.as_mut_slice.result.now ≡ first = c.as_mut_slice.ensures.value in
    let second : c.as_mut_slice-2.result.now ≡ inverses = c.as_mut_slice-2.ensures.value ∙ written_back inverses _ _ (omega (arith, c.batch_inversion.auto.items, c.as_mut_slice.ensures.len)) in
    let len : length inverses ≡ n = omega (arith, c.batch_inversion.auto.items, ap length before, c.in_ok-weights.ensures.len) in
    let one : (i : ℕ) → i < n → K.times (of_list K inverses i) (of_list K c.as_mut_slice.result.now i) ≡ K.one = λ i l.
    let d = differences K x i n (x i) in
    let is : of_list K c.as_mut_slice.result.now i ≡ d = ap (λ t. of_list K t i) before ∙ c.in_ok-weights.ensures.products i l in
    (c.in_ok-batch_inversion.ensures.inverses i (omega (arith, l, ap length before, c.in_ok-weights.ensures.len))).some (λ e. differences-some K N x i n different l (sym is ∙ e)) in
    let w = weights_are K N x n c.args.tau last (of_list K inverses) different
    (omega (arith, c.multiply_by_differences.ensures.len, ap length second, len))
    (λ i l. ap (K.times (of_list K inverses i)) (sym (ap (λ t. of_list K t i) before ∙ c.in_ok-weights.ensures.products i l)) ∙ one i l)
    (λ i l. c.multiply_by_differences.ensures.products i l ∙ ap (λ t. K.times (of_list K t i) (differences K x i n c.args.tau)) second) in
    let back = written_back last _ _ (omega (arith, c.multiply_by_differences.auto.items, c.as_mut_slice-2.ensures.len)) in
    let whole = subst (AreWeightsAt K n x c.args.tau) (sym back) w in
    λ other o. one_list_of_weights K N x n c.args.tau _ other different whole o

pub returns-clause-different : goal.returns-clause-different
returns-clause-different g c =
    λ i j l b e. true≢false (sym (c.has_repeated.ensures.1 (i, j, l, b, e)) ∙ c.if-has_repeated.false)
