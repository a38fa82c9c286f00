use Rattle.std.proofs.Common.{◌≡◌, ◌<◌, ◌^◌, length, sym, ap, ap₂, ◌∙◌, subst}
use Rattle.ark_bit_reversed.specs.Blocks.{AreInverseRoots, AreValuesFrom, element_of}
use Rattle.ark_bit_reversed.proofs.Evaluations.{at_first_block, halved, same_polynomial}
use Rattle.ark_bit_reversed.proofs.Callers.Padded.{log_is}
use Rattle.ark_bit_reversed.proofs.table.BlockRoots.interpolate.Goals as goal

pub backward-requires-clause-size : goal.backward-requires-clause-size
backward-requires-clause-size g c =
    let e = c.ilog2-levels.ensures in
    log_is (length c.args.values.now) c.ilog2-levels.result c.requires.power e.power_le e.next_power_gt

pub returns-clause-coefficients : goal.returns-clause-coefficients
returns-clause-coefficients g c = λ a below V.
    let K = g.F.Field.field in
    let N = g.met.F.Field.field_laws in
    let e = c.ilog2-levels.ensures in
    let levels = c.ilog2-levels.result in
    let values = c.args.values.now in
    let n = length values in
    let table = c.self.invariant in
    let x = element_of K c.self.inside.roots.items in
    let size : n ≡ 2 ^ levels = log_is n levels c.requires.power e.power_le e.next_power_gt in
    let inverse : AreInverseRoots K x c.deref.result.now = subst (AreInverseRoots K x) (sym c.deref.ensures.value) table.inverse in
    let own : AreValuesFrom K x 0 n a values = subst (λ t. AreValuesFrom K (element_of K t) 0 n a values) (sym c.self.view_is) V in
    same_polynomial K N n a c.scale_each.new.coeffs below (c.scale_each.auto.coeffs ∙ c.backward.ensures.len) (λ i l.
    ap (λ t. t i) c.scale_each.ensures
    ∙ N.times_comm _ _
    ∙ ap₂ K.times
    (c.backward.ensures.coefficients x a inverse (at_first_block K N x n (2 ^ levels) a values size below own) i (subst (λ t. i < t) size l))
    c.pow.ensures
    ∙ halved K N c.self.inside.half table.half_of levels (a i))
