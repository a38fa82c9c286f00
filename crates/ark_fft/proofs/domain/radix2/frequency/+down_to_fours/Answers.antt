use Rattle.std.proofs.Common.{rules, arith, ◌≡◌, ◌-◌, ◌*◌, ◌^◌, ◌/◌, ◌<◌, ◌∙◌, sym, subst, length, map}
use Rattle.ark_math.specs.Cost.{GrowsBy, butterfly_counts}
use Rattle.ark_math.specs.Module.{item}
use Rattle.ark_fft.proofs.Columns.{sixteen_to_fours}
use Rattle.ark_fft.proofs.Fours.{level_of_blocks, one_block_of_four}
use Rattle.ark_fft.proofs.Levels.{IsSplitLevel}
use Rattle.ark_fft.proofs.Joining.{front_half, back_half, next_levels, no_count, split_count}
use Rattle.ark_fft.proofs.Counts.{itself}
use Rattle.ark_fft.proofs.domain.radix2.frequency.+down_to_fours.Goals as goal

pub sixteen-requires-clause-size : goal.sixteen-requires-clause-size
sixteen-requires-clause-size g t c = subst (λ k. length c.args.xs.now ≡ 2 ^ k) c.if-levels-eq4.true c.requires.size

pub sixteen-requires-clause-whole : goal.sixteen-requires-clause-whole
sixteen-requires-clause-whole g t c = subst (λ k. length c.args.tables.now ≡ 2 ^ k) c.if-levels-eq4.true c.requires.whole

pub returns-then-size_of_val-le128-clause-sums : goal.returns-then-size_of_val-le128-clause-sums
returns-then-size_of_val-le128-clause-sums g t c = λ w levels p l.
    let V = g.T.Summand.group in
    let m = g.T.Summand.meaning in
    sixteen_to_fours g.met.F.Field.field_laws g.met.T.Summand.module_laws m c.args.levels w c.args.tables.now (λ k. item V (map m c.args.xs.now) k) c.sixteen.new.xs c.if-levels-eq4.true c.requires.whole levels c.sixteen.ensures.columns p l

pub returns-then-size_of_val-le128-clause-counted : goal.returns-then-size_of_val-le128-clause-counted
returns-then-size_of_val-le128-clause-counted g t c = subst (λ k. GrowsBy (butterfly_counts (2 ^ k / 2 * (k - 2))) c.args.work.now c.sixteen.new.work) (sym c.if-levels-eq4.true) c.sixteen.ensures.counted

pub butterflies-requires-clause-same : goal.butterflies-requires-clause-same
butterflies-requires-clause-same g t c =
    let n = c.args.levels in
    let some : 0 < n = omega arith in
    let len = length c.args.xs.now in
    let s = c.split_at_mut-lo in
    front_half n n some (itself n) len (length s.result.0.now) c.requires.size s.ensures.front_len
    ∙ sym (back_half n n some (itself n) len len (length s.result.1.now) c.requires.size c.requires.size s.ensures.back_len)

pub butterflies-requires-clause-enough : goal.butterflies-requires-clause-enough
butterflies-requires-clause-enough g t c = c.split_at_mut-lo.ensures.front_len ∙ sym c.split_at.ensures.front_len

pub down_to_fours-requires : goal.down_to_fours-requires
down_to_fours-requires g t c κs within =
    let n = c.args.levels in
    let some : 0 < n = omega arith in
    let len = length c.args.xs.now in
    let s = c.split_at_mut-lo in
    let r = c.split_at in (
      omega arith,
      (
        search rules,
        (
          search rules,
          (
            omega arith,
            (
              c.butterflies.auto.lo ∙ front_half n n some (itself n) len (length s.result.0.now) c.requires.size s.ensures.front_len,
              back_half n n some (itself n) (length c.args.tables.now) len (length r.result.1.now) c.requires.whole c.requires.size r.ensures.back_len,
            ),
          ),
        ),
      ),
    )

pub down_to_fours-requires-then-levels-gt2 : goal.down_to_fours-requires-then-levels-gt2
down_to_fours-requires-then-levels-gt2 g t c κs within =
    let n = c.args.levels in
    let some : 0 < n = omega arith in
    let len = length c.args.xs.now in
    let s = c.split_at_mut-lo in
    let r = c.split_at in (
      omega arith,
      (
        search rules,
        (
          search rules,
          (
            omega arith,
            (
              c.butterflies.auto.hi ∙ back_half n n some (itself n) len len (length s.result.1.now) c.requires.size c.requires.size s.ensures.back_len,
              back_half n n some (itself n) (length c.args.tables.now) len (length r.result.1.now) c.requires.whole c.requires.size r.ensures.back_len,
            ),
          ),
        ),
      ),
    )

pub returns-then-levels-gt2-clause-sums : goal.returns-then-levels-gt2-clause-sums
returns-then-levels-gt2-clause-sums g t c = λ w levels p l.
    let n = c.args.levels in
    let some : 0 < n = omega arith in
    let len = length c.args.xs.now in
    let s = c.split_at_mut-lo in
    let r = c.split_at in
    let n0 : length s.result.0.now ≡ 2 ^ (n - 1) = front_half n n some (itself n) len (length s.result.0.now) c.requires.size s.ensures.front_len in
    let n2 : length c.down_to_fours.new.xs ≡ 2 ^ (n - 1) = c.down_to_fours.auto.xs ∙ (c.butterflies.auto.lo ∙ n0) in
    let half : len / 2 ≡ 2 ^ (n - 1) = sym s.ensures.front_len ∙ n0 in
    let both = next_levels g.F.Field.field n (len / 2) w c.args.tables.now r.result.0.now r.result.1.now some half r.ensures.front r.ensures.back levels in
    let m = g.T.Summand.meaning in
    let level : IsSplitLevel g.F.Field.field g.T.Summand.group m n w r.result.0.now c.args.xs.now s.result.0.now s.result.1.now c.butterflies.new.lo c.butterflies.new.hi = record {
      some = some;
      table = both.0;
      enough = r.ensures.front_len ∙ half;
      halves = s.ensures.value;
      len_lo = n0;
      butterflies = λ i b. record { sum = c.butterflies.ensures.sums i b; difference = c.butterflies.ensures.differences i b };
    } in
    level_of_blocks g.met.F.Field.field_laws g.met.T.Summand.module_laws m n w r.result.0.now c.args.xs.now s.result.0.now s.result.1.now c.butterflies.new.lo c.butterflies.new.hi c.down_to_fours.new.xs c.down_to_fours-then-levels-gt2.new.xs
    level (omega arith) n2 (c.down_to_fours.ensures.sums _ both.1) (c.down_to_fours-then-levels-gt2.ensures.sums _ both.1) p l

pub returns-then-levels-gt2-clause-counted : goal.returns-then-levels-gt2-clause-counted
returns-then-levels-gt2-clause-counted g t c =
    let n = c.args.levels in
    let some : 0 < n = omega arith in
    let s = c.split_at_mut-lo in
    let less : n - 1 - 2 ≡ n - 2 - 1 = omega arith in
    split_count n (n - 2) (omega arith) (omega arith) (length s.result.0.now) c.butterflies.ensures.counted
    (front_half n n some (itself n) (length c.args.xs.now) (length s.result.0.now) c.requires.size s.ensures.front_len) (rw less at c.down_to_fours.ensures.counted) (rw less at c.down_to_fours-then-levels-gt2.ensures.counted)

pub returns-else-levels-gt2-clause-sums : goal.returns-else-levels-gt2-clause-sums
returns-else-levels-gt2-clause-sums g t c = λ w levels p l.
    one_block_of_four g.met.F.Field.field_laws g.met.T.Summand.module_laws g.T.Summand.meaning c.args.levels w c.args.xs.now (omega arith) p l

pub returns-else-levels-gt2-clause-counted : goal.returns-else-levels-gt2-clause-counted
returns-else-levels-gt2-clause-counted g t c = no_count (2 ^ c.args.levels / 2) (c.args.levels - 2) c.args.work.now (omega arith)
