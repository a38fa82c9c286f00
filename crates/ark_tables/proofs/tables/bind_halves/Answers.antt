use Rattle.std.proofs.Common.{◌≡◌, ◌<◌, length, refl, sym, ap, ap₂, ◌∙◌, arith}
use Rattle.std.proofs.lemmas.List.{get_or_read}
use Rattle.ark_math.specs.Field.{minus}
use Rattle.ark_math.specs.Univariate.{of_list}
use Rattle.ark_math.proofs.Algebra.Solve.{nought, ◌⊕◌, ◌⊖◌, ◌⊗◌}
use Rattle.ark_math.proofs.Algebra.Ring.{ring1}
use Rattle.ark_math_polynomials.proofs.Polynomials.UnivariateLists.{of_list-past}
use Rattle.ark_math_polynomials.proofs.Polynomials.UnivariateLoops.{zipped-begin, zipped-set, zipped-end}
use Rattle.ark_tables.proofs.tables.bind_halves.Goals as goal

pub loop-i-init : goal.loop-i-init
loop-i-init g c =
    let K = g.F.Field.field in
    zipped-begin K (λ a b. K.plus a (K.times c.args.x (minus K b a))) (of_list K c.args.low.now) (of_list K c.args.high.now)

pub loop-i-preserved : goal.loop-i-preserved
loop-i-preserved g c =
    let K = g.F.Field.field in
    let F = g.met.F.Field in
    let i = c.loop-i.i in
    let xs = c.loop-i.low in
    let ys = c.args.high.now in
    let inside : i < length xs = omega arith in
    let low : c.index-low-i.result ≡ of_list K xs i = get_or_read xs i c.index-low-i.result inside c.index-low-i.is K.zero in
    let high : c.index-high-i.result ≡ of_list K ys i = get_or_read ys i c.index-high-i.result (omega arith) c.index-high-i.is K.zero in
    zipped-set K (λ a b. K.plus a (K.times c.args.x (minus K b a))) (of_list K c.args.low.now) (of_list K ys) i xs c.add.result inside c.loop-i.invariant
    (F.add_law _ _ _ c.add.ensures
    ∙ ap₂ K.plus low (F.mul_law _ _ _ c.mul.ensures ∙ ap (K.times c.args.x) (F.sub_law _ _ _ c.sub.ensures ∙ ap₂ (minus K) high low)))

pub returns : goal.returns
returns g c =
    let K = g.F.Field.field in
    let xs = c.args.low.now in
    let ys = c.args.high.now in
    c.loop-i.invariant
    ∙ zipped-end K (λ a b. K.plus a (K.times c.args.x (minus K b a))) c.loop-i.i (of_list K xs) (of_list K ys)
    (λ k h.
    let low = of_list-past K xs k (omega arith) in
    ap₂ (λ a b. K.plus a (K.times c.args.x (minus K b a))) low (of_list-past K ys k (omega arith))
    ∙ ring1 K g.met.F.Field.field_laws (λ x. (nought ⊕ x ⊗ (nought ⊖ nought), nought)) refl c.args.x
    ∙ sym low)
