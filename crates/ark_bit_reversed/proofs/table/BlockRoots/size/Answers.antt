use Rattle.std.proofs.Common.{◌≡◌, ◌≢◌, ◌+◌, ◌*◌, ◌<◌, suc, subst, length, arith}
use Rattle.ark_math.proofs.Numbers.PowersOfTwo.{pow_twice}
use Rattle.ark_bit_reversed.specs.Blocks.{AreReversed, element_of}
use Rattle.ark_bit_reversed.proofs.Elements.{elements_different}
use Rattle.ark_bit_reversed.proofs.table.BlockRoots.size.Goals as goal

pub returns-clause-power : goal.returns-clause-power
returns-clause-power g c =
    let p = c.self.invariant.power in
    (suc p.0, omega (arith, c.len.ensures, p.1, pow_twice p.0))

pub returns-clause-elements : goal.returns-clause-elements
returns-clause-elements g c =
    let K = g.F.Field.field in
    let roots = c.self.inside.roots.items in
    let many : length roots + length roots ≡ 2 * c.len.result = omega (arith, c.len.ensures) in
    subst (λ t. AreReversed K (2 * c.len.result) (element_of K t)) c.self.view_is
    (subst (λ n. AreReversed K n (element_of K roots)) many c.self.invariant.roots.reversed)

pub returns-clause-different : goal.returns-clause-different
returns-clause-different g c =
    let K = g.F.Field.field in
    let roots = c.self.inside.roots.items in
    let tables = c.self.invariant in
    let many : 2 * c.len.result ≡ length roots + length roots = omega (arith, c.len.ensures) in
    λ i j less inside.
    subst (λ t. element_of K t i ≢ element_of K t j) c.self.view_is
    (elements_different K g.met.F.Field.field_laws (length roots + length roots) (element_of K roots) tables.roots.reversed _ tables.half_of i j less (subst (λ n. j < n) many inside))
