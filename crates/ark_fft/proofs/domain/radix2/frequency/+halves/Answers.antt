use Rattle.std.proofs.Common.{rules, arith, ◌≡◌, ◌-◌, ◌^◌, ◌/◌, ◌<◌, ◌∙◌, sym, length, map, subst, refl}
use Rattle.std.proofs.lemmas.List.{get_or_read}
use Rattle.ark_math.specs.Module.{item}
use Rattle.ark_fft.proofs.Halving.{no_level, one_level, one_pair}
use Rattle.ark_fft.proofs.Levels.{IsSplitLevel, same_butterfly}
use Rattle.ark_fft.proofs.Joining.{front_half, back_half, next_levels, no_count, split_count}
use Rattle.ark_fft.proofs.Counts.{itself}
use Rattle.ark_fft.proofs.domain.radix2.frequency.+halves.Goals as goal

pub butterflies-requires-clause-same : goal.butterflies-requires-clause-same
butterflies-requires-clause-same g t c =
    let n = c.args.levels in
    let some : 0 < n = omega arith in
    let len = length c.args.xs.now in
    let s = c.split_at_mut-lo in
    front_half n n some (itself n) len (length s.result.0.now) c.requires.size s.ensures.front_len
    ∙ sym (back_half n n some (itself n) len len (length s.result.1.now) c.requires.size c.requires.size s.ensures.back_len)

pub butterflies-requires-clause-enough : goal.butterflies-requires-clause-enough
butterflies-requires-clause-enough g t c = c.split_at_mut-lo.ensures.front_len ∙ sym c.split_at.ensures.front_len

pub halves-requires : goal.halves-requires
halves-requires g t c κs within =
    let n = c.args.levels in
    let some : 0 < n = omega arith in
    let len = length c.args.xs.now in
    let s = c.split_at_mut-lo in
    let r = c.split_at in (
      omega arith,
      (
        search rules,
        (
          search rules,
          (
            c.butterflies.auto.lo ∙ front_half n n some (itself n) len (length s.result.0.now) c.requires.size s.ensures.front_len,
            back_half n n some (itself n) (length c.args.tables.now) len (length r.result.1.now) c.requires.whole c.requires.size r.ensures.back_len,
          ),
        ),
      ),
    )

pub halves-requires-then-levels-gt8 : goal.halves-requires-then-levels-gt8
halves-requires-then-levels-gt8 g t c κs within =
    let n = c.args.levels in
    let some : 0 < n = omega arith in
    let len = length c.args.xs.now in
    let s = c.split_at_mut-lo in
    let r = c.split_at in (
      omega arith,
      (
        search rules,
        (
          search rules,
          (
            c.butterflies.auto.hi ∙ back_half n n some (itself n) len len (length s.result.1.now) c.requires.size c.requires.size s.ensures.back_len,
            back_half n n some (itself n) (length c.args.tables.now) len (length r.result.1.now) c.requires.whole c.requires.size r.ensures.back_len,
          ),
        ),
      ),
    )

pub returns-then-levels-gt8-clause-sums : goal.returns-then-levels-gt8-clause-sums
returns-then-levels-gt8-clause-sums g t c = λ w levels p l.
    let n = c.args.levels in
    let some : 0 < n = omega arith in
    let len = length c.args.xs.now in
    let s = c.split_at_mut-lo in
    let r = c.split_at in
    let n0 : length s.result.0.now ≡ 2 ^ (n - 1) = front_half n n some (itself n) len (length s.result.0.now) c.requires.size s.ensures.front_len in
    let n2 : length c.halves.new.xs ≡ 2 ^ (n - 1) = c.halves.auto.xs ∙ (c.butterflies.auto.lo ∙ n0) in
    let half : len / 2 ≡ 2 ^ (n - 1) = sym s.ensures.front_len ∙ n0 in
    let both = next_levels g.F.Field.field n (len / 2) w c.args.tables.now r.result.0.now r.result.1.now some half r.ensures.front r.ensures.back levels in
    let m = g.T.Summand.meaning in
    let level : IsSplitLevel g.F.Field.field g.T.Summand.group m n w r.result.0.now c.args.xs.now s.result.0.now s.result.1.now c.butterflies.new.lo c.butterflies.new.hi = record {
      some = some;
      table = both.0;
      enough = r.ensures.front_len ∙ half;
      halves = s.ensures.value;
      len_lo = n0;
      butterflies = λ i b. record { sum = c.butterflies.ensures.sums i b; difference = c.butterflies.ensures.differences i b };
    } in
    one_level g.met.F.Field.field_laws g.met.T.Summand.module_laws m n w r.result.0.now c.args.xs.now s.result.0.now s.result.1.now c.butterflies.new.lo c.butterflies.new.hi c.halves.new.xs c.halves-then-levels-gt8.new.xs
    level n2 (c.halves.ensures.sums _ both.1) (c.halves-then-levels-gt8.ensures.sums _ both.1) p l

pub returns-then-levels-gt8-clause-counted : goal.returns-then-levels-gt8-clause-counted
returns-then-levels-gt8-clause-counted g t c =
    let n = c.args.levels in
    let some : 0 < n = omega arith in
    let s = c.split_at_mut-lo in
    split_count n n some (itself n) (length s.result.0.now) c.butterflies.ensures.counted
    (front_half n n some (itself n) (length c.args.xs.now) (length s.result.0.now) c.requires.size s.ensures.front_len) c.halves.ensures.counted c.halves-then-levels-gt8.ensures.counted

pub returns-else-levels-gt8-clause-sums : goal.returns-else-levels-gt8-clause-sums
returns-else-levels-gt8-clause-sums g t c = λ w levels p l.
    no_level g.met.F.Field.field_laws g.met.T.Summand.module_laws c.args.levels w _ (omega arith) p l

pub returns-else-levels-gt8-clause-counted : goal.returns-else-levels-gt8-clause-counted
returns-else-levels-gt8-clause-counted g t c = no_count (2 ^ c.args.levels / 2) c.args.levels c.args.work.now (omega arith)

pub returns-then-levels-eq1-clause-sums : goal.returns-then-levels-eq1-clause-sums
returns-then-levels-eq1-clause-sums g t c = λ w levels p l.
    let V = g.T.Summand.group in
    let m = g.T.Summand.meaning in
    let two : length c.args.tables.now ≡ 2 ^ 1 = subst (λ k. length c.args.tables.now ≡ 2 ^ k) c.if-levels-eq1.true c.requires.whole in
    let within : 0 < length c.args.tables.now = omega (arith, two) in
    one_pair g.met.F.Field.field_laws g.met.T.Summand.module_laws c.args.levels w c.args.tables.now (item V (map m c.args.xs.now)) (item V (map m c.pair.new.xs)) levels c.if-levels-eq1.true c.requires.whole
    (same_butterfly V (get_or_read c.args.tables.now _ _ within c.index-tables-0.is g.F.Field.field.zero) refl refl (record { sum = c.pair.ensures.sum; difference = c.pair.ensures.difference }))
    p l
