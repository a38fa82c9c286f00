use Rattle.std.proofs.Common.{◌<◌, length, map, sym, ap, ap₂, ◌∙◌, arith}
use Rattle.std.proofs.lemmas.List.{length-map}
use Rattle.ark_math.specs.Univariate.{of_list}
use Rattle.ark_math_variables.proofs.Polynomials.Multilinear.{bound, bound-below, fixed-one}
use Rattle.ark_math_polynomials.proofs.Polynomials.UnivariateLists.{of_list-past}
use Rattle.ark_math_polynomials.proofs.Polynomials.UnivariateLoops.{zipped-begin, zipped-set, zipped-end}
use Rattle.ark_extensions.proofs.BaseLists.{bound_pair}
use Rattle.ark_extensions.proofs.embedded.bind_pairs.Goals as goal

pub loop-i-init : goal.loop-i-init
loop-i-init g c =
    let K = g.E.Field.field in
    zipped-begin K (λ _ y. y) (of_list K c.args.half.now) (bound K (of_list K (map g.E.ExtensionOf.within c.args.table.now)) c.args.x)

pub loop-i-preserved : goal.loop-i-preserved
loop-i-preserved g c =
    let K = g.E.Field.field in
    let e = g.E.ExtensionOf.within in
    let L = g.met.E.Field in
    let t = c.args.table.now in
    let i = c.loop-i.i in
    let inside : i < length c.loop-i.half = omega arith in
    let difference = g.met.F.Field.sub_law _ _ _ c.sub.ensures in
    zipped-set K (λ _ y. y) (of_list K c.args.half.now) (bound K (of_list K (map e t)) c.args.x) i c.loop-i.half c.add.result inside c.loop-i.invariant
    (L.add_law _ _ _ c.add.ensures
    ∙ ap₂ K.plus c.embed.ensures (c.mul_by_base.ensures ∙ ap (λ d. K.times (e d) c.args.x) difference)
    ∙ bound_pair g.F.Field.field K e L.field_laws g.met.E.ExtensionOf.embeds t c.args.x i c.index-table-i.result c.index-table-i-in-loop-i.result (omega arith) c.index-table-i.is c.index-table-i-in-loop-i.is)

pub returns : goal.returns
returns g c =
    let K = g.E.Field.field in
    let L = g.met.E.Field.field_laws in
    let xs = map g.E.ExtensionOf.within c.args.table.now in
    let same = length-map c.args.table.now g.E.ExtensionOf.within in
    c.loop-i.invariant
    ∙ zipped-end K (λ _ y. y) c.loop-i.i (of_list K c.args.half.now) (bound K (of_list K xs) c.args.x)
    (λ k h.
    bound-below K L (of_list K xs) c.args.x (length c.args.half.now) (λ j past. of_list-past K xs j (omega (arith, same))) k (omega arith)
    ∙ sym (of_list-past K c.args.half.now k (omega arith)))
    ∙ sym (fixed-one K L (of_list K xs) c.args.x)
