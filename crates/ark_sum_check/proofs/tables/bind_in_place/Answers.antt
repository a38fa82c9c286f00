use Rattle.std.proofs.Common.{◌≡◌, ◌+◌, ◌*◌, ◌<◌, length, sym, ap, ap₂, ◌∙◌, arith}
use Rattle.ark_math.specs.Field.{minus}
use Rattle.ark_math.specs.Univariate.{of_list}
use Rattle.ark_math_variables.proofs.Polynomials.Multilinear.{bound, fixed-one}
use Rattle.ark_math_polynomials.proofs.Polynomials.UnivariateLoops.{zipped-begin, zipped-set, zipped-inside, zipped-outside}
use Rattle.ark_sum_check.proofs.tables.bind_in_place.Goals as goal

pub loop-i-init : goal.loop-i-init
loop-i-init g c = let K = g.F.Field.field in zipped-begin K (λ _ y. y) (of_list K c.args.table.now) (bound K (of_list K c.args.table.now) c.args.x)

pub loop-i-preserved : goal.loop-i-preserved
loop-i-preserved g c =
    let K = g.F.Field.field in
    let N = g.met.F.Field.field_laws in
    let t = of_list K c.args.table.now in
    let x = c.args.x in
    let b = bound K t x in
    let i = c.loop-i.i in
    let xs = c.loop-i.table in
    let inside : i < length xs = omega arith in
    let low : of_list K xs (2 * i) ≡ t (2 * i) = ap (λ f. f (2 * i)) c.loop-i.invariant ∙ zipped-outside K (λ _ y. y) i t b (2 * i) (omega arith) in
    let high : of_list K xs (2 * i + 1) ≡ t (2 * i + 1) = ap (λ f. f (2 * i + 1)) c.loop-i.invariant ∙ zipped-outside K (λ _ y. y) i t b (2 * i + 1) (omega arith) in
    zipped-set K (λ _ y. y) t b i xs c.bound_value-value.result inside c.loop-i.invariant
    (c.bound_value-value.ensures ∙ ap (λ f. f i) (fixed-one K N (of_list K xs) x) ∙ ap₂ (λ u v. K.plus u (K.times x (minus K v u))) low high)

pub returns : goal.returns
returns g c k below =
    let K = g.F.Field.field in
    let t = of_list K c.args.table.now in
    ap (λ f. f k) c.loop-i.invariant
    ∙ zipped-inside K (λ _ y. y) c.loop-i.i t (bound K t c.args.x) k (omega arith)
    ∙ sym (ap (λ f. f k) (fixed-one K g.met.F.Field.field_laws t c.args.x))
