use Rattle.std.proofs.Common.{◌-◌, ◌≤◌, length, ◌∙◌, arith}
use Rattle.std.proofs.lemmas.Nat.{pow_pos}
use Rattle.ark_fft.proofs.Fours.{fours as in_fours, fours_count, last_levels, blocks_transformed}
use Rattle.ark_fft.proofs.domain.radix2.frequency.short_halves.Goals as goal

pub overflow_sub-tables : goal.overflow_sub-tables
overflow_sub-tables g c = omega (arith, c.requires.whole, in_fours c.args.levels c.requires.some, pow_pos (c.args.levels - 2))

pub fours-requires : goal.fours-requires
fours-requires g c =
    let enough : 4 ≤ length c.args.tables.now = omega (arith, c.requires.whole, in_fours c.args.levels c.requires.some, pow_pos (c.args.levels - 2)) in
    omega (arith, enough, c.split_at.ensures.back_len)

pub returns-clause-sums : goal.returns-clause-sums
returns-clause-sums g c = λ w levels p l.
    let n = c.args.levels in
    let K = g.F.Field.field in
    let N = g.met.F.Field.field_laws in
    let last = last_levels K N n (length c.args.tables.now) w c.args.tables.now c.split_at.result.1.now c.requires.some c.requires.whole c.split_at.ensures.back levels in
    blocks_transformed N g.met.T.Summand.module_laws g.T.Summand.meaning n w c.args.xs.now c.down_to_fours.new.xs c.fours.new.xs (c.down_to_fours.ensures.sums w levels) c.requires.some
    (λ r q a b. c.fours.ensures.sums _ last r q (omega (arith, a, c.down_to_fours.auto.xs, c.requires.size, in_fours n c.requires.some)) b)
    p l

pub returns-clause-counted : goal.returns-clause-counted
returns-clause-counted g c =
    fours_count c.args.levels (length c.down_to_fours.new.xs) c.requires.some (c.down_to_fours.auto.xs ∙ c.requires.size) c.down_to_fours.ensures.counted c.fours.ensures.counted
