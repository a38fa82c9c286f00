use Rattle.std.proofs.Common.{◌≡◌, ◌+◌, ◌-◌, ◌*◌, ◌/◌, ◌^◌, ◌<◌, ◌≤◌, length, sym, ◌∙◌, ap, subst, arith}
use Rattle.ark_math.specs.Field.{minus}
use Rattle.ark_math.specs.Univariate.{of_list}
use Rattle.ark_bit_reversed.proofs.Ascent.{twice_as_many, blocks_whole, blocks_count, block_fits, blocks_within, next_level, up_to_last, up_to_fours}
use Rattle.ark_bit_reversed.proofs.backward.up_from_fours.Goals as goal

pub overflow_mul-blocks : goal.overflow_mul-blocks
overflow_mul-blocks g c = omega (arith, block_fits c.args.levels c.loop-level._level c.loop-level.half (omega arith) c.loop-level.invariant.half)

pub join_blocks-requires-clause-whole : goal.join_blocks-requires-clause-whole
join_blocks-requires-clause-whole g c =
    let n = c.args.levels in
    let level = c.loop-level._level in
    let half = c.loop-level.half in
    let more : level < n = omega arith in
    let all : length c.loop-level.values ≡ 2 ^ n = c.loop-level.auto.values ∙ c.requires.size in
    all ∙ blocks_whole n level half more c.loop-level.invariant.half ∙ ap (λ t. 2 * half * t) (sym (blocks_count n level half _ more c.loop-level.invariant.half all))

pub join_blocks-requires-clause-within : goal.join_blocks-requires-clause-within
join_blocks-requires-clause-within g c =
    let n = c.args.levels in
    let b = c.args.block in
    let level = c.loop-level._level in
    let half = c.loop-level.half in
    let inverses = c.args.inverses.now in
    let more : level < n = omega arith in
    let within = blocks_within n level b half (length inverses + length inverses) more c.loop-level.invariant.half c.requires.within in
    subst (λ t. b * t + t ≤ length inverses) (sym (blocks_count n level half _ more c.loop-level.invariant.half (c.loop-level.auto.values ∙ c.requires.size))) (omega (arith, within))

pub join_blocks-requires-clause-fits : goal.join_blocks-requires-clause-fits
join_blocks-requires-clause-fits g c = omega (arith, block_fits c.args.levels c.loop-level._level c.loop-level.half (omega arith) c.loop-level.invariant.half)

pub overflow_mul-half : goal.overflow_mul-half
overflow_mul-half g c = omega (arith, block_fits c.args.levels c.loop-level._level c.loop-level.half (omega arith) c.loop-level.invariant.half)

pub loop-level-preserved : goal.loop-level-preserved
loop-level-preserved g c =
    let K = g.F.Field.field in
    let n = c.args.levels in
    let b = c.args.block in
    let level = c.loop-level._level in
    let half = c.loop-level.half in
    let inverses = c.args.inverses.now in
    let values = c.loop-level.values in
    let new = c.join_blocks.new.values in
    let more : level < n = omega arith in
    let is = c.loop-level.invariant.half in
    let count : length values / (2 * half) ≡ 2 ^ (n - (level + 1)) = blocks_count n level half _ more is (c.loop-level.auto.values ∙ c.requires.size) in
    record {
      half = omega (arith, twice_as_many level half is);
      done = λ x a known fours.
          next_level K g.met.F.Field.field_laws x inverses known n level b half a (of_list K values) (of_list K new) c.loop-level.auto._level more is c.requires.within
          (c.loop-level.invariant.done x a known fours)
          (λ r j lr lj. c.join_blocks.ensures.sums r j (omega (arith, lr, count)) lj)
          (λ r j lr lj. c.join_blocks.ensures.differences x known r j (omega (arith, lr, count)) lj
          ∙ ap (λ t. K.times (of_list K inverses (b * t + r)) (minus K (of_list K values (2 * half * r + j)) (of_list K values (2 * half * r + (half + j))))) count);
    }

pub returns-clause-coefficients : goal.returns-clause-coefficients
returns-clause-coefficients g c = λ x a known fours.
    let K = g.F.Field.field in
    let N = g.met.F.Field.field_laws in
    let n = c.args.levels in
    let b = c.args.block in
    let level = c.loop-level._level in
    let inverses = c.args.inverses.now in
    up_to_last K N x inverses known n level b a (of_list K c.loop-level.values) (omega arith)
    (c.loop-level.invariant.done x a known (up_to_fours K N x inverses known n b a (of_list K c.args.values.now) fours))
