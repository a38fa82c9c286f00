use Rattle.std.proofs.Common.{rules, arith, ◌≡◌, ◌-◌, ◌*◌, ◌+◌, ◌/◌, ◌^◌, ◌∙◌, length, sym}
use Rattle.ark_math.specs.Field.{power}
use Rattle.ark_fft.proofs.Counts.{one_less}
use Rattle.ark_fft.proofs.Levels.{IsJoinedLevel}
use Rattle.ark_fft.proofs.Joining.{some_levels, front_half, back_half, joined_count, no_count, blocks_of_front, blocks_of_back, joined_level, one_block, next_levels}
use Rattle.ark_fft.proofs.domain.radix2.time.+join_halves.Goals as goal

pub join_halves-requires : goal.join_halves-requires
join_halves-requires g t c κs within =
    let n = c.args.levels in
    let e = c.args.log_len in
    let some = c.if-log_len-gt0.true in
    let len = length c.args.xs.now in
    let s = c.split_at_mut-lo in
    let r = c.split_at in (
      omega arith,
      (
        search rules,
        (
          search rules,
          (
            front_half n e some c.requires.within len (length s.result.0.now) c.requires.size s.ensures.front_len,
            (back_half n e some c.requires.within (length c.args.tables.now) len (length r.result.1.now) c.requires.whole c.requires.size r.ensures.back_len, one_less e n c.requires.within),
          ),
        ),
      ),
    )

pub join_halves-requires-then-log_len-gt0 : goal.join_halves-requires-then-log_len-gt0
join_halves-requires-then-log_len-gt0 g t c κs within =
    let n = c.args.levels in
    let e = c.args.log_len in
    let some = c.if-log_len-gt0.true in
    let len = length c.args.xs.now in
    let s = c.split_at_mut-lo in
    let r = c.split_at in (
      omega arith,
      (
        search rules,
        (
          search rules,
          (
            back_half n e some c.requires.within len len (length s.result.1.now) c.requires.size c.requires.size s.ensures.back_len,
            (back_half n e some c.requires.within (length c.args.tables.now) len (length r.result.1.now) c.requires.whole c.requires.size r.ensures.back_len, one_less e n c.requires.within),
          ),
        ),
      ),
    )

pub join_butterflies-requires-clause-same : goal.join_butterflies-requires-clause-same
join_butterflies-requires-clause-same g t c =
    let s = c.split_at_mut-lo in
    let len = length c.args.xs.now in
    let some = c.if-log_len-gt0.true in
    c.join_halves.auto.xs
    ∙ (front_half c.args.levels c.args.log_len some c.requires.within len (length s.result.0.now) c.requires.size s.ensures.front_len
    ∙ sym (c.join_halves-then-log_len-gt0.auto.xs ∙ back_half c.args.levels c.args.log_len some c.requires.within len len (length s.result.1.now) c.requires.size c.requires.size s.ensures.back_len))

pub join_butterflies-requires-clause-enough : goal.join_butterflies-requires-clause-enough
join_butterflies-requires-clause-enough g t c = c.join_halves.auto.xs ∙ (c.split_at_mut-lo.ensures.front_len ∙ sym c.split_at.ensures.front_len)

pub returns-then-log_len-gt0-clause-sums : goal.returns-then-log_len-gt0-clause-sums
returns-then-log_len-gt0-clause-sums g t c = λ w f tables blocks p l.
    let K = g.F.Field.field in
    let N = g.met.F.Field.field_laws in
    let L = g.met.T.Summand.module_laws in
    let m = g.T.Summand.meaning in
    let n = c.args.levels in
    let e = c.args.log_len in
    let some = c.if-log_len-gt0.true in
    let within = c.requires.within in
    let s = c.split_at_mut-lo in
    let lo = s.result.0.now in
    let hi = s.result.1.now in
    let len = length c.args.xs.now in
    let r = c.split_at in
    let n0 : length lo ≡ 2 ^ (n - 1) = front_half n e some within len (length lo) c.requires.size s.ensures.front_len in
    let n1 : length c.join_halves.new.xs ≡ 2 ^ (n - 1) = c.join_halves.auto.xs ∙ n0 in
    let half : len / 2 ≡ 2 ^ (n - 1) = sym s.ensures.front_len ∙ n0 in
    let both = next_levels K n (len / 2) w c.args.tables.now r.result.0.now r.result.1.now (some_levels n e some within) half r.ensures.front r.ensures.back tables in
    let level : IsJoinedLevel K g.T.Summand.group m n e w r.result.0.now c.join_halves.new.xs c.join_halves-then-log_len-gt0.new.xs c.join_butterflies.new.lo c.join_butterflies.new.hi = record {
      some = some;
      within = within;
      table = both.0;
      enough = r.ensures.front_len ∙ half;
      len_lo = n1;
      len_lo1 = c.join_butterflies.auto.lo ∙ n1;
      butterflies = λ i b. record { sum = c.join_butterflies.ensures.sums i b; difference = c.join_butterflies.ensures.differences i b };
    } in
    joined_level N L m n e w r.result.0.now f c.join_halves.new.xs c.join_halves-then-log_len-gt0.new.xs c.join_butterflies.new.lo c.join_butterflies.new.hi level
    (c.join_halves.ensures.sums (power K w 2) (λ j. f (2 * j + 0)) both.1 (blocks_of_front N L m n e c.args.xs.now lo hi f some within s.ensures.value n0 blocks))
    (c.join_halves-then-log_len-gt0.ensures.sums (power K w 2) (λ j. f (2 * j + 1)) both.1 (blocks_of_back N L m n e c.args.xs.now lo hi f some within s.ensures.value n0 blocks))
    p l

pub returns-then-log_len-gt0-clause-counted : goal.returns-then-log_len-gt0-clause-counted
returns-then-log_len-gt0-clause-counted g t c =
    let s = c.split_at_mut-lo in
    joined_count c.args.levels c.args.log_len c.if-log_len-gt0.true c.requires.within (length c.join_halves.new.xs)
    c.join_halves.ensures.counted c.join_halves-then-log_len-gt0.ensures.counted c.join_butterflies.ensures.counted
    (c.join_halves.auto.xs ∙ front_half c.args.levels c.args.log_len c.if-log_len-gt0.true c.requires.within (length c.args.xs.now) (length s.result.0.now) c.requires.size s.ensures.front_len)

pub returns-else-log_len-gt0-clause-sums : goal.returns-else-log_len-gt0-clause-sums
returns-else-log_len-gt0-clause-sums g t c = λ w f table blocks p l.
    let none : c.args.log_len ≡ 0 = omega arith in
    one_block g.met.F.Field.field_laws g.met.T.Summand.module_laws g.T.Summand.meaning c.args.levels c.args.log_len _ c.args.xs.now f none blocks p l

pub returns-else-log_len-gt0-clause-counted : goal.returns-else-log_len-gt0-clause-counted
returns-else-log_len-gt0-clause-counted g t c = no_count (2 ^ c.args.levels / 2) c.args.log_len c.args.work.now c.if-log_len-gt0.false
