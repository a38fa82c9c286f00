use Rattle.std.proofs.Common.{◌≡◌, ◌+◌, ◌*◌, ◌-◌, ◌/◌, ◌^◌, ◌<◌, ◌≤◌, length, ap, refl, sym, subst, ◌∙◌, arith}
use Rattle.ark_math.specs.Univariate.{of_list, value_below}
use Rattle.ark_bit_reversed.proofs.Joined.{blocks_within, half_len, pow_fourth, pow_half}
use Rattle.ark_bit_reversed.proofs.Levels.{level_down}
use Rattle.ark_bit_reversed.proofs.Callers.Splits.{value_of_one}
use Rattle.ark_bit_reversed.proofs.forward.down_to_fours.Goals as goal

pub loop-level-init : goal.loop-level-init
loop-level-init g c =
    let K = g.F.Field.field in
    let n = c.args.levels in
    let some : 1 ≤ n = omega (arith, c.requires.some) in
    let old = c.args.values.now in
    let half = length old / 2 in
    record {
      len = refl;
      whole = omega (arith, c.requires.size, pow_half n some);
      halves = half_len n (length old) some c.requires.size;
      done = λ x are r j l s. value_of_one K g.met.F.Field.field_laws 1 (λ k. of_list K old (2 * half * k + j)) (x (c.args.block * 1 + r)) r refl l;
    }

pub overflow_mul-block : goal.overflow_mul-block
overflow_mul-block g c =
    let v = c.loop-level.invariant in
    let left = c.args.levels - (c.loop-level._level - 1) in
    let room = blocks_within c.args.block c.args.levels (length c.args.roots.now + length c.args.roots.now) c.loop-level.count c.loop-level.half left v.halves (sym c.requires.size ∙ v.whole) c.requires.within in
    omega (arith, room, c.requires.fits)

pub halve_blocks-requires-clause-size : goal.halve_blocks-requires-clause-size
halve_blocks-requires-clause-size g c = c.loop-level.invariant.len ∙ c.loop-level.invariant.whole

pub halve_blocks-requires-clause-within : goal.halve_blocks-requires-clause-within
halve_blocks-requires-clause-within g c =
    let v = c.loop-level.invariant in
    let left = c.args.levels - (c.loop-level._level - 1) in
    let room = blocks_within c.args.block c.args.levels (length c.args.roots.now + length c.args.roots.now) c.loop-level.count c.loop-level.half left v.halves (sym c.requires.size ∙ v.whole) c.requires.within in
    omega (arith, room)

pub overflow_mul-count : goal.overflow_mul-count
overflow_mul-count g c =
    let v = c.loop-level.invariant in
    let left = c.args.levels - (c.loop-level._level - 1) in
    let room = blocks_within c.args.block c.args.levels (length c.args.roots.now + length c.args.roots.now) c.loop-level.count c.loop-level.half left v.halves (sym c.requires.size ∙ v.whole) c.requires.within in
    omega (arith, room, c.requires.fits)

pub loop-level-preserved : goal.loop-level-preserved
loop-level-preserved g c =
    let K = g.F.Field.field in
    let v = c.loop-level.invariant in
    let n = c.args.levels in
    let block = c.args.block in
    let roots = c.args.roots.now in
    let len = length roots + length roots in
    let old = c.args.values.now in
    let new = c.halve_blocks.new.values in
    let count = c.loop-level.count in
    let half = c.loop-level.half in
    let level = c.loop-level._level in
    let left = n - (level - 1) in
    let more : 1 ≤ left = omega (arith, c.loop-level-test.true) in
    let fewer : left - 1 ≡ n - (level + 1 - 1) = omega (arith, c.loop-level-test.true) in
    let even : half ≡ 2 * (half / 2) = omega (arith, v.halves, pow_half left more) in
    let room = blocks_within block n len count half left v.halves (sym c.requires.size ∙ v.whole) c.requires.within in
    let twice : 2 * count ≡ count * 2 = omega arith in
    let regrouped : count * (2 * (2 * (half / 2))) ≡ count * 2 * (2 * (half / 2)) = omega arith in
    record {
      len = c.halve_blocks.ensures.len ∙ v.len;
      whole = v.whole ∙ ap (λ t. count * (2 * t)) even ∙ regrouped;
      halves = half_len left half more v.halves ∙ ap (λ t. 2 ^ t) fewer;
      done = λ x are r j l s.
          subst (λ m. of_list K new (m * r + j) ≡ value_below K (count * 2) (λ k. of_list K old (m * k + j)) (x (block * (count * 2) + r))) even
          (subst (λ q. of_list K new (half * r + j) ≡ value_below K q (λ k. of_list K old (half * k + j)) (x (block * q + r))) twice
          (level_down K g.met.F.Field.field_laws len x are.reversed block count half room (of_list K old) (of_list K c.loop-level.values) (of_list K new)
          (v.done x are) (c.halve_blocks.ensures.values x are) r j (subst (λ t. r < t) (sym twice) l) (subst (λ t. j < t) (sym even) s)));
    }

pub returns-clause-values : goal.returns-clause-values
returns-clause-values g c = λ x are r j l s.
    let K = g.F.Field.field in
    let v = c.loop-level.invariant in
    let n = c.args.levels in
    let block = c.args.block in
    let old = c.args.values.now in
    let new = c.loop-level.values in
    let last : n - (c.loop-level._level - 1) ≡ 1 = omega (arith, c.loop-level-test.false, c.requires.some) in
    let two : c.loop-level.half ≡ 2 = v.halves ∙ ap (λ t. 2 ^ t) last in
    let four : 2 * c.loop-level.half ≡ 4 = ap (λ t. 2 * t) two in
    let all : length old ≡ c.loop-level.count * 4 = v.whole ∙ ap (λ t. c.loop-level.count * t) four in
    let blocks : c.loop-level.count ≡ 2 ^ (n - 2) = omega (arith, all, c.requires.size, pow_fourth n c.requires.some) in
    subst (λ q. of_list K new (4 * r + j) ≡ value_below K q (λ k. of_list K old (4 * k + j)) (x (block * q + r))) blocks
    (subst (λ m. of_list K new (m * r + j) ≡ value_below K c.loop-level.count (λ k. of_list K old (m * k + j)) (x (block * c.loop-level.count + r))) four
    (v.done x are r j (subst (λ t. r < t) (sym blocks) l) (subst (λ t. j < t) (sym four) s)))
