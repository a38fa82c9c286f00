use Rattle.std.proofs.Common.{◌≡◌, ◌+◌, ◌*◌, ◌<◌, length, sym, ap, ap₂, ◌∙◌, arith}
use Rattle.std.proofs.lemmas.List.{get_or_read}
use Rattle.ark_math.specs.Field.{minus}
use Rattle.ark_math.specs.Univariate.{of_list}
use Rattle.ark_math_variables.proofs.Polynomials.Multilinear.{bound, bound-below, fixed-one}
use Rattle.ark_math_polynomials.proofs.Polynomials.UnivariateLists.{of_list-past}
use Rattle.ark_math_polynomials.proofs.Polynomials.UnivariateLoops.{zipped-begin, zipped-set, zipped-end}
use Rattle.ark_tables.proofs.tables.bind_pairs.Goals as goal

pub loop-i-init : goal.loop-i-init
loop-i-init g c = let K = g.F.Field.field in zipped-begin K (λ _ y. y) (of_list K c.args.half.now) (bound K (of_list K c.args.table.now) c.args.x)

pub loop-i-preserved : goal.loop-i-preserved
loop-i-preserved g c =
    let K = g.F.Field.field in
    let F = g.met.F.Field in
    let t = c.args.table.now in
    let i = c.loop-i.i in
    let inside : i < length c.loop-i.half = omega arith in
    let low : c.index-table-i.result ≡ of_list K t (2 * i) = get_or_read t (2 * i) c.index-table-i.result (omega arith) c.index-table-i.is K.zero in
    let high : c.index-table-i-in-loop-i.result ≡ of_list K t (2 * i + 1) = get_or_read t (2 * i + 1) c.index-table-i-in-loop-i.result (omega arith) c.index-table-i-in-loop-i.is K.zero in
    zipped-set K (λ _ y. y) (of_list K c.args.half.now) (bound K (of_list K t) c.args.x) i c.loop-i.half c.add.result inside c.loop-i.invariant
    (F.add_law _ _ _ c.add.ensures
    ∙ ap₂ K.plus low (F.mul_law _ _ _ c.mul.ensures ∙ ap (K.times c.args.x) (F.sub_law _ _ _ c.sub.ensures ∙ ap₂ (minus K) high low)))

pub returns : goal.returns
returns g c =
    let K = g.F.Field.field in
    let t = of_list K c.args.table.now in
    c.loop-i.invariant
    ∙ zipped-end K (λ _ y. y) c.loop-i.i (of_list K c.args.half.now) (bound K t c.args.x)
    (λ k h.
    bound-below K g.met.F.Field.field_laws t c.args.x (length c.args.half.now) (λ j past. of_list-past K c.args.table.now j (omega arith)) k (omega arith)
    ∙ sym (of_list-past K c.args.half.now k (omega arith)))
    ∙ sym (fixed-one K g.met.F.Field.field_laws t c.args.x)
