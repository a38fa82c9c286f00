use Rattle.std.proofs.Common.{◌≡◌, arith, ◌-◌, ◌*◌, ◌+◌, ◌/◌, ◌^◌, ◌∙◌, length, ap, sym, refl}
use Rattle.ark_math.specs.Field.{power}
use Rattle.ark_fft.specs.Halves.{IsHalfTable}
use Rattle.ark_fft.proofs.Counts.{one_less}
use Rattle.ark_fft.proofs.Levels.{IsJoinedLevel}
use Rattle.ark_fft.proofs.Joining.{some_levels, front_half, back_half, joined_count, no_count, half_table, blocks_of_front, blocks_of_back, joined_level, one_block}
use Rattle.ark_fft.proofs.domain.radix2.time.join_levels.Goals as goal

pub join_halves-requires-clause-size : goal.join_halves-requires-clause-size
join_halves-requires-clause-size g c =
    let s = c.split_at_mut-lo in
    front_half c.args.pruned.now.levels c.args.pruned.now.log_len c.if-log_len-gt0.true c.requires.within (length c.args.xs.now) (length s.result.0.now) c.requires.size s.ensures.front_len

pub join_halves-requires-clause-whole : goal.join_halves-requires-clause-whole
join_halves-requires-clause-whole g c =
    front_half c.args.pruned.now.levels c.args.pruned.now.log_len c.if-log_len-gt0.true c.requires.within (2 ^ c.args.pruned.now.levels) (length c.args.tables.now) refl c.requires.whole

pub join_halves-requires-clause-within : goal.join_halves-requires-clause-within
join_halves-requires-clause-within g c = one_less c.args.pruned.now.log_len c.args.pruned.now.levels c.requires.within

pub join_halves-requires-then-log_len-gt0-clause-size : goal.join_halves-requires-then-log_len-gt0-clause-size
join_halves-requires-then-log_len-gt0-clause-size g c =
    let s = c.split_at_mut-lo in
    let len = length c.args.xs.now in
    back_half c.args.pruned.now.levels c.args.pruned.now.log_len c.if-log_len-gt0.true c.requires.within len len (length s.result.1.now) c.requires.size c.requires.size s.ensures.back_len

pub join_halves-requires-then-log_len-gt0-clause-whole : goal.join_halves-requires-then-log_len-gt0-clause-whole
join_halves-requires-then-log_len-gt0-clause-whole g c =
    front_half c.args.pruned.now.levels c.args.pruned.now.log_len c.if-log_len-gt0.true c.requires.within (2 ^ c.args.pruned.now.levels) (length c.args.tables.now) refl c.requires.whole

pub join_halves-requires-then-log_len-gt0-clause-within : goal.join_halves-requires-then-log_len-gt0-clause-within
join_halves-requires-then-log_len-gt0-clause-within g c = one_less c.args.pruned.now.log_len c.args.pruned.now.levels c.requires.within

pub join_butterflies-requires-clause-same : goal.join_butterflies-requires-clause-same
join_butterflies-requires-clause-same g c =
    let s = c.split_at_mut-lo in
    let len = length c.args.xs.now in
    let some = c.if-log_len-gt0.true in
    c.join_halves.auto.xs
    ∙ (front_half c.args.pruned.now.levels c.args.pruned.now.log_len some c.requires.within len (length s.result.0.now) c.requires.size s.ensures.front_len
    ∙ sym (c.join_halves-then-log_len-gt0.auto.xs ∙ back_half c.args.pruned.now.levels c.args.pruned.now.log_len some c.requires.within len len (length s.result.1.now) c.requires.size c.requires.size s.ensures.back_len))

pub join_butterflies-requires-clause-enough : goal.join_butterflies-requires-clause-enough
join_butterflies-requires-clause-enough g c =
    let s = c.split_at_mut-lo in
    let some = c.if-log_len-gt0.true in
    c.join_halves.auto.xs
    ∙ (front_half c.args.pruned.now.levels c.args.pruned.now.log_len some c.requires.within (length c.args.xs.now) (length s.result.0.now) c.requires.size s.ensures.front_len
    ∙ sym (c.fill_with_powers.auto.xs ∙ front_half c.args.pruned.now.levels c.args.pruned.now.log_len some c.requires.within (2 ^ c.args.pruned.now.levels) (length c.args.tables.now) refl c.requires.whole))

pub returns-then-log_len-gt0-clause-sums : goal.returns-then-log_len-gt0-clause-sums
returns-then-log_len-gt0-clause-sums g c = λ f levels half blocks p l.
    let K = g.F.Field.field in
    let N = g.met.F.Field.field_laws in
    let L = g.met.T.Summand.module_laws in
    let m = g.T.Summand.meaning in
    let n = c.args.pruned.now.levels in
    let e = c.args.pruned.now.log_len in
    let w = c.args.pruned.now.root in
    let some = c.if-log_len-gt0.true in
    let within = c.requires.within in
    let s = c.split_at_mut-lo in
    let lo = s.result.0.now in
    let hi = s.result.1.now in
    let twiddles = c.fill_with_powers.new.xs in
    let tables = length c.args.tables.now in
    let first : IsHalfTable K w twiddles = half_table K w tables twiddles c.fill_with_powers.ensures (ap (power K w) c.requires.whole ∙ half (some_levels n e some within)) in
    let len_twiddles : length twiddles ≡ 2 ^ (n - 1) = c.fill_with_powers.auto.xs ∙ front_half n e some within (2 ^ n) tables refl c.requires.whole in
    let n0 : length lo ≡ 2 ^ (n - 1) = front_half n e some within (length c.args.xs.now) (length lo) c.requires.size s.ensures.front_len in
    let n1 : length c.join_halves.new.xs ≡ 2 ^ (n - 1) = c.join_halves.auto.xs ∙ n0 in
    let level : IsJoinedLevel K g.T.Summand.group m n e w twiddles c.join_halves.new.xs c.join_halves-then-log_len-gt0.new.xs c.join_butterflies.new.lo c.join_butterflies.new.hi = record {
      some = some;
      within = within;
      table = first;
      enough = len_twiddles;
      len_lo = n1;
      len_lo1 = c.join_butterflies.auto.lo ∙ n1;
      butterflies = λ i b. record { sum = c.join_butterflies.ensures.sums i b; difference = c.join_butterflies.ensures.differences i b };
    } in
    joined_level N L m n e w twiddles f c.join_halves.new.xs c.join_halves-then-log_len-gt0.new.xs c.join_butterflies.new.lo c.join_butterflies.new.hi level
    (c.join_halves.ensures.sums (power K w 2) (λ j. f (2 * j + 0)) levels (blocks_of_front N L m n e c.args.xs.now lo hi f some within s.ensures.value n0 blocks))
    (c.join_halves-then-log_len-gt0.ensures.sums (power K w 2) (λ j. f (2 * j + 1)) levels (blocks_of_back N L m n e c.args.xs.now lo hi f some within s.ensures.value n0 blocks))
    p l

pub returns-then-log_len-gt0-clause-counted : goal.returns-then-log_len-gt0-clause-counted
returns-then-log_len-gt0-clause-counted g c =
    let s = c.split_at_mut-lo in
    joined_count c.args.pruned.now.levels c.args.pruned.now.log_len c.if-log_len-gt0.true c.requires.within (length c.join_halves.new.xs)
    c.join_halves.ensures.counted c.join_halves-then-log_len-gt0.ensures.counted c.join_butterflies.ensures.counted
    (c.join_halves.auto.xs ∙ front_half c.args.pruned.now.levels c.args.pruned.now.log_len c.if-log_len-gt0.true c.requires.within (length c.args.xs.now) (length s.result.0.now) c.requires.size s.ensures.front_len)

pub returns-else-log_len-gt0-clause-sums : goal.returns-else-log_len-gt0-clause-sums
returns-else-log_len-gt0-clause-sums g c = λ f tables half blocks p l.
    let none : c.args.pruned.now.log_len ≡ 0 = omega arith in
    one_block g.met.F.Field.field_laws g.met.T.Summand.module_laws g.T.Summand.meaning c.args.pruned.now.levels c.args.pruned.now.log_len _ c.args.xs.now f none blocks p l

pub returns-else-log_len-gt0-clause-counted : goal.returns-else-log_len-gt0-clause-counted
returns-else-log_len-gt0-clause-counted g c = no_count (2 ^ c.args.pruned.now.levels / 2) c.args.pruned.now.log_len c.args.work.now c.if-log_len-gt0.false
