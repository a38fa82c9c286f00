use Rattle.std.proofs.Common.{◌≡◌, ◌+◌, length, sym, ap, ap₂, subst, ◌∙◌, arith}
use Rattle.ark_bit_reversed.specs.Blocks.{AreFirstValues, size_of}
use Rattle.ark_math_polynomials.specs.Nodes.{nodes}
use Rattle.ark_math.specs.Univariate.{IsBelow, of_list}
use Rattle.ark_math_polynomials.proofs.Polynomials.UnivariateLists.{trimmed_length}
use Rattle.ark_subproducts.specs.Tree.{IsHalved}
use Rattle.ark_subproducts.proofs.Nodes.{nodes-below}
use Rattle.ark_subproducts.proofs.TableQuotients.{values_of_whole}
use Rattle.ark_subproducts.proofs.table.BlockTree+F.product_values.Goals as goal

pub extend-requires-clause-few : goal.extend-requires-clause-few
extend-requires-clause-few g c =
    let K = g.F.Field.field in
    let points = c.args.part.now.points.now in
    let n = length points in
    let tree = rw c.in-Halves.is at c.requires.tree in
    let is : of_list K c.coeffs.result.now ≡ nodes K points = ap (of_list K) c.coeffs.ensures.same ∙ tree.0 in
    let short = trimmed_length K c.coeffs.result.now (n + 1) c.coeffs.ensures.trimmed (subst (IsBelow K (n + 1)) (sym is) (nodes-below K g.met.F.Field.field_laws points)) in
    omega (arith, short, c.in_ok-values.ensures.len, ap length c.deref.ensures.value, tree.1.low.len, c.requires.part.room, c.requires.not_empty)

pub returns-clause-halved : goal.returns-clause-halved
returns-clause-halved g c = subst IsHalved (sym c.in-Halves.is) tt

pub returns-clause-values : goal.returns-clause-values
returns-clause-values g c =
    let K = g.F.Field.field in
    let roots = c.args.part.now.blocks.now in
    let points = c.args.part.now.points.now in
    let m = nodes K points in
    let tree = rw c.in-Halves.is at c.requires.tree in
    let left = c.deref.ensures.value in
    let right = c.deref-2.ensures.value in
    let all = c.in_ok-values.values.items in
    let D : AreFirstValues K roots c.args.part.now.count m all =
    values_of_whole K g.met.F.Field.field_laws roots points c.args.part.now.count c.in-Halves.low_values.items c.in-Halves.high_values.items all tree.1.low tree.1.high
    (c.in_ok-values.ensures.len ∙ ap length left)
    (λ i l. c.in_ok-values.ensures.products i (omega (arith, l, ap length left)) ∙ ap₂ (λ s t. K.times (of_list K s i) (of_list K t i)) left right) in
    let is : m ≡ of_list K c.coeffs.result.now = sym (ap (of_list K) c.coeffs.ensures.same ∙ tree.0) in
    let new = c.extend.new.values.items in
    subst (λ a. AreFirstValues K roots (size_of roots) a new) (sym is)
    (subst (λ k. AreFirstValues K roots k (of_list K c.coeffs.result.now) new) c.requires.size
    (c.in_ok-extend.ensures.values (subst (λ a. AreFirstValues K roots (length all) a all) is (subst (λ k. AreFirstValues K roots k m all) (sym D.len) D))))
