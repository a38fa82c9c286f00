use Rattle.std.proofs.Common.{◌≡◌, ◌<◌, ◌+◌, ◌-◌, set, length, sym, ap, ap₂, ◌∙◌, arith}
use Rattle.std.proofs.lemmas.List.{get_or_read, length-replicate}
use Rattle.ark_math.specs.Univariate.{of_list, product}
use Rattle.ark_math_polynomials.proofs.Polynomials.UnivariateLists.{of_list-past, of_list-replicate}
use Rattle.ark_math_polynomials.proofs.Polynomials.UnivariateLoops.{cut-all, rows-none, rows-begin, rows-end, rows-set}
use Rattle.ark_coeffs.proofs.dense.add_product.Goals as goal

pub loop-i-init : goal.loop-i-init
loop-i-init g c =
    let K = g.F.Field.field in
    ap (of_list K) c.requires.zeros
    ∙ of_list-replicate K (length c.args.left.now + length c.args.right.now - 1)
    ∙ sym (rows-none K g.met.F.Field.field_laws (of_list K c.args.left.now) (of_list K c.args.right.now))

pub loop-j-init : goal.loop-j-init
loop-j-init g c =
    let K = g.F.Field.field in
    c.loop-i.invariant ∙ sym (rows-begin K g.met.F.Field.field_laws (of_list K c.args.left.now) (of_list K c.args.right.now) c.loop-i.i)

pub loop-j-preserved : goal.loop-j-preserved
loop-j-preserved g c =
    let K = g.F.Field.field in
    let i = c.loop-i.i in
    let j = c.loop-j.j in
    let len : length c.args.coeffs.now ≡ length c.args.left.now + length c.args.right.now - 1 = ap length c.requires.zeros ∙ length-replicate _ K.zero in
    let in_coeffs : i + j < length c.loop-j.coeffs = omega arith in
    let old : c.index-coeffs-i.result ≡ of_list K c.loop-j.coeffs (i + j) = get_or_read c.loop-j.coeffs (i + j) c.index-coeffs-i.result in_coeffs c.index-coeffs-i.is K.zero in
    let left : c.index-left-i.result ≡ of_list K c.args.left.now i = get_or_read c.args.left.now i c.index-left-i.result c.loop-i-test.true c.index-left-i.is K.zero in
    let right : c.index-right-j.result ≡ of_list K c.args.right.now j = get_or_read c.args.right.now j c.index-right-j.result c.loop-j-test.true c.index-right-j.is K.zero in
    let is : c.add_assign.new.self ≡ K.plus (of_list K c.loop-j.coeffs (i + j)) (K.times (of_list K c.args.left.now i) (of_list K c.args.right.now j)) =
    g.met.F.Field.add_assign_law _ _ _ c.add_assign.ensures.after
    ∙ ap₂ K.plus (sym c.index-coeffs-i.is ∙ old) (g.met.F.Field.mul_law _ _ _ c.mul.ensures ∙ ap₂ K.times left right) in
    ap (λ t. of_list K (set c.loop-j.coeffs (i + j) t)) is
    ∙ rows-set K g.met.F.Field.field_laws (of_list K c.args.left.now) (of_list K c.args.right.now) i j c.loop-j.coeffs in_coeffs c.loop-j.invariant

pub loop-i-preserved : goal.loop-i-preserved
loop-i-preserved g c =
    let K = g.F.Field.field in
    c.loop-j.invariant
    ∙ rows-end K g.met.F.Field.field_laws (of_list K c.args.left.now) (of_list K c.args.right.now) c.loop-i.i c.loop-j.j (λ k h. of_list-past K c.args.right.now k (omega arith))

pub returns : goal.returns
returns g c =
    let K = g.F.Field.field in
    c.loop-i.invariant
    ∙ ap (λ t. product K t (of_list K c.args.right.now)) (cut-all K c.loop-i.i (of_list K c.args.left.now) (λ k h. of_list-past K c.args.left.now k (omega arith)))
