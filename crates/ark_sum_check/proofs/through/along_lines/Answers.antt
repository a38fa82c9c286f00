use Rattle.std.proofs.Common.{◌≡◌, ◌+◌, ◌<◌, length, ap, ap₂, ◌∙◌, arith}
use Rattle.std.proofs.lemmas.List.{get_or_read}
use Rattle.ark_math.specs.Field.{minus, natural}
use Rattle.ark_math.specs.Univariate.{of_list}
use Rattle.ark_math_polynomials.proofs.Polynomials.UnivariateLoops.{zipped-begin, zipped-set, zipped-inside, zipped-outside}
use Rattle.ark_sum_check.proofs.ValuesThrough.{neighbours}
use Rattle.ark_sum_check.proofs.through.along_lines.Goals as goal

pub loop-i-init : goal.loop-i-init
loop-i-init g c =
    let K = g.F.Field.field in
    zipped-begin K (λ _ y. y) (of_list K c.args.partials.now) (neighbours K c.args.x c.args.inverse (of_list K c.args.partials.now))

pub loop-i-preserved : goal.loop-i-preserved
loop-i-preserved g c =
    let K = g.F.Field.field in
    let F = g.met.F.Field in
    let a = of_list K c.args.partials.now in
    let b = neighbours K c.args.x c.args.inverse a in
    let i = c.loop-i.i in
    let xs = c.loop-i.partials in
    let inside : i < length xs = omega arith in
    let here : c.index-partials-i.result ≡ a i =
    get_or_read xs i c.index-partials-i.result inside c.index-partials-i.is K.zero
    ∙ ap (λ f. f i) c.loop-i.invariant ∙ zipped-outside K (λ _ y. y) i a b i (omega arith) in
    let next : c.index-partials-i-in-loop-i.result ≡ a (i + 1) =
    get_or_read xs (i + 1) c.index-partials-i-in-loop-i.result (omega arith) c.index-partials-i-in-loop-i.is K.zero
    ∙ ap (λ f. f (i + 1)) c.loop-i.invariant ∙ zipped-outside K (λ _ y. y) i a b (i + 1) (omega arith) in
    let at : c.from.result ≡ natural K i = F.from_law _ _ (omega arith) c.from.ensures in
    zipped-set K (λ _ y. y) a b i xs c.add.result inside c.loop-i.invariant
    (F.add_law _ _ _ c.add.ensures
    ∙ ap₂ K.plus here (F.mul_law _ _ _ c.mul-in-loop-i.ensures
    ∙ ap₂ K.times
    (F.mul_law _ _ _ c.mul.ensures ∙ ap (λ s. K.times s c.args.inverse) (F.sub_law _ _ _ c.sub.ensures ∙ ap (minus K c.args.x) at))
    (F.sub_law _ _ _ c.sub-in-loop-i.ensures ∙ ap₂ (minus K) next here)))

pub returns : goal.returns
returns g c i below =
    let K = g.F.Field.field in
    let a = of_list K c.args.partials.now in
    ap (λ f. f i) c.loop-i.invariant
    ∙ zipped-inside K (λ _ y. y) c.loop-i.i a (neighbours K c.args.x c.args.inverse a) i (omega arith)
