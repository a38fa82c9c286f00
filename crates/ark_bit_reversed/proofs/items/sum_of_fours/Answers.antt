use Rattle.std.proofs.Common.{◌≡◌, ◌+◌, ◌*◌, ◌/◌, ◌<◌, length, ap, ap₂, ◌∙◌, arith}
use Rattle.std.proofs.lemmas.List.{get_or_read}
use Rattle.ark_math.specs.Module.{itself, sum_below}
use Rattle.ark_math.specs.Univariate.{of_list}
use Rattle.ark_bit_reversed.proofs.Sums.{sum_of_four_sums}
use Rattle.ark_bit_reversed.proofs.items.sum_of_fours.Goals as goal

pub loop-k-preserved : goal.loop-k-preserved
loop-k-preserved g c =
    let K = g.F.Field.field in
    let F = g.met.F.Field in
    let xs = c.args.items.now in
    let k = c.loop-k.k in
    let inside : 4 * k + 3 < length xs = let t = c.loop-k-test.true in omega arith in
    let first : c.add_assign.new.self ≡ K.plus c.loop-k.first (of_list K xs (4 * k)) =
    F.add_assign_law _ _ _ c.add_assign.ensures.after
    ∙ ap (K.plus c.loop-k.first) (get_or_read xs (4 * k) c.index-items-k.result (omega arith) c.index-items-k.is K.zero) in
    let second : c.add_assign-in-loop-k.new.self ≡ K.plus c.loop-k.second (of_list K xs (4 * k + 1)) =
    F.add_assign_law _ _ _ c.add_assign-in-loop-k.ensures.after
    ∙ ap (K.plus c.loop-k.second) (get_or_read xs (4 * k + 1) c.index-items-k-in-loop-k.result (omega arith) c.index-items-k-in-loop-k.is K.zero) in
    let third : c.add_assign-in-loop-k-2.new.self ≡ K.plus c.loop-k.third (of_list K xs (4 * k + 2)) =
    F.add_assign_law _ _ _ c.add_assign-in-loop-k-2.ensures.after
    ∙ ap (K.plus c.loop-k.third) (get_or_read xs (4 * k + 2) c.index-items-k-in-loop-k-2.result (omega arith) c.index-items-k-in-loop-k-2.is K.zero) in
    let fourth : c.add_assign-in-loop-k-3.new.self ≡ K.plus c.loop-k.fourth (of_list K xs (4 * k + 3)) =
    F.add_assign_law _ _ _ c.add_assign-in-loop-k-3.ensures.after
    ∙ ap (K.plus c.loop-k.fourth) (get_or_read xs (4 * k + 3) c.index-items-k-in-loop-k-3.result inside c.index-items-k-in-loop-k-3.is K.zero) in
    ap₂ K.plus (ap₂ K.plus first second) (ap₂ K.plus third fourth)
    ∙ sum_of_four_sums K F.field_laws (of_list K xs) k c.loop-k.first c.loop-k.second c.loop-k.third c.loop-k.fourth c.loop-k.invariant

pub returns : goal.returns
returns g c =
    let K = g.F.Field.field in
    let F = g.met.F.Field in
    let xs = c.args.items.now in
    let all : c.loop-k.k ≡ length xs / 4 = let t = c.loop-k-test.false in omega (arith, c.loop-k.auto.k-end) in
    F.add_law _ _ _ c.add-3.ensures
    ∙ ap₂ K.plus (F.add_law _ _ _ c.add.ensures) (F.add_law _ _ _ c.add-2.ensures)
    ∙ c.loop-k.invariant
    ∙ ap (λ k. sum_below (itself K) (4 * k) (of_list K xs)) all
