use Rattle.std.proofs.Common.{◌≡◌, ◌*◌, ◌<◌, ◌%◌, ◌/◌, ◌^◌, length, take, sym, ap, ap₂, ◌∙◌, arith, pow_pos}
use Rattle.std.proofs.lemmas.List.{get_or_read}
use Rattle.std.proofs.lemmas.Nat.{mod_below, one_shl}
use Rattle.ark_math_variables.specs.Multilinear.{fixed}
use Rattle.ark_math.specs.Univariate.{of_list, of_pairs, added, monomial, nothing}
use Rattle.ark_math_variables.proofs.Polynomials.Multilinear.{fixed-nothing}
use Rattle.ark_tables.specs.Held.{held}
use Rattle.ark_tables.proofs.HeldTables.{held-empty, nothing_more, sum_put, bound_sum}
use Rattle.ark_tables.proofs.windows.bind_window.Goals.{then-entry-corners+in_ok-add_at, else-entry-corners}
use Rattle.ark_tables.proofs.windows.bind_window.Goals as goal

pub loop-i-init : goal.loop-i-init
loop-i-init g c =
    let K = g.F.Field.field in
    let N = g.met.F.Field.field_laws in
    sum_put K N (nothing K) (held K c.in_ok-table.table) 0 0 K.zero c.zero-sum.result
    (held-empty K N c.in_ok-table.table c.in_ok-table.ensures.empty ∙ sym (nothing_more K N 0))
    (c.zero-sum.ensures ∙ g.met.F.Field.zero_law)
    ∙ nothing_more K N 0
    ∙ sym (fixed-nothing K N c.args.point.now)

pub loop-i-preserved : goal.loop-i-preserved
loop-i-preserved g c =
    let K = g.F.Field.field in
    let N = g.met.F.Field.field_laws in
    let e = c.index-entries-i.result in
    let n = length c.args.point.now in
    let ws = c.in_ok-weights.weights.items in
    let corners : (1 * 2 ^ n) % 2 ^ 64 ≡ 2 ^ n = one_shl n 64 c.requires in
    let place = e.0 % ((1 * 2 ^ n) % 2 ^ 64) in
    let same : place ≡ e.0 % 2 ^ n = ap (λ m. e.0 % m) corners in
    let low : e.0 % 2 ^ n < 2 ^ n = mod_below e.0 (2 ^ n) (pow_pos n) in
    let inside : place < length ws = omega (arith, same, low, c.in_ok-weights.ensures.length) in
    let read : c.index.result.now ≡ of_list K ws place = get_or_read ws place c.index.result.now inside c.index.ensures K.zero in
    let s = c.if-entry-corners in
    let begun : (added K (held K s.table) (monomial K s.index s.sum) ≡ fixed K (of_pairs K (take c.loop-i.i c.args.entries.now)) c.args.point.now) × (s.index ≡ e.0 / ((1 * 2 ^ n) % 2 ^ 64)) =
    elim c.if-entry-corners.branch [
      | then-entry-corners+in_ok-add_at w ↦ (
        sum_put K N (held K c.loop-i.table) (held K s.table) c.loop-i.index s.index c.loop-i.sum s.sum (ap (held K) w.table-is ∙ w.in_ok-add_at.ensures.sum) (w.sum-is ∙ w.zero-sum-then-entry-corners.ensures ∙ g.met.F.Field.zero_law) ∙ c.loop-i.invariant,
        w.index-is,
      )
      | else-entry-corners w ↦ (
        ap₂ (λ t m. added K (held K t) m) w.table-is (ap₂ (monomial K) w.index-is w.sum-is) ∙ c.loop-i.invariant,
        w.index-is ∙ sym w.if-entry-corners.false,
      )
    ] in
    bound_sum K N c.args.entries.now c.args.point.now c.loop-i.i e (held K s.table) s.index s.sum c.mul.result _ begun.0 c.loop-i-test.true c.index-entries-i.is
    (begun.1 ∙ ap (λ m. e.0 / m) corners)
    (g.met.F.Field.mul_law _ _ _ c.mul.ensures ∙ ap (K.times e.1) (read ∙ ap (of_list K ws) same ∙ c.in_ok-weights.ensures.values (e.0 % 2 ^ n) low))
    (g.met.F.Field.add_assign_law _ _ _ c.add_assign.ensures.after)
