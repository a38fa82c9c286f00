use Rattle.std.proofs.Common.{arith, ◌≡◌, ◌-◌, ◌^◌, ◌/◌, ◌∙◌, sym, length}
use Rattle.ark_fft.proofs.Halving.{no_level, one_level}
use Rattle.ark_fft.proofs.Levels.{IsSplitLevel}
use Rattle.ark_fft.proofs.Joining.{front_half, back_half, no_count, split_count}
use Rattle.ark_fft.proofs.Counts.{itself}
use Rattle.ark_fft.proofs.domain.radix2.frequency.first_halves.Goals as goal

pub butterflies-requires-clause-same : goal.butterflies-requires-clause-same
butterflies-requires-clause-same g c =
    let n = c.args.levels in
    let some = c.if-levels-gt0.true in
    let len = length c.args.xs.now in
    let s = c.split_at_mut-lo in
    front_half n n some (itself n) len (length s.result.0.now) c.requires.size s.ensures.front_len
    ∙ sym (back_half n n some (itself n) len len (length s.result.1.now) c.requires.size c.requires.size s.ensures.back_len)

pub butterflies-requires-clause-enough : goal.butterflies-requires-clause-enough
butterflies-requires-clause-enough g c = c.split_at_mut-lo.ensures.front_len ∙ sym c.requires.half

pub halves-requires-clause-size : goal.halves-requires-clause-size
halves-requires-clause-size g c =
    let n = c.args.levels in
    let s = c.split_at_mut-lo in
    c.butterflies.auto.lo ∙ front_half n n c.if-levels-gt0.true (itself n) (length c.args.xs.now) (length s.result.0.now) c.requires.size s.ensures.front_len

pub halves-requires-clause-whole : goal.halves-requires-clause-whole
halves-requires-clause-whole g c =
    let n = c.args.levels in
    c.pack_levels.auto.table ∙ front_half n n c.if-levels-gt0.true (itself n) (length c.args.xs.now) (length c.args.table.now) c.requires.size c.requires.half

pub halves-requires-then-levels-gt0-clause-size : goal.halves-requires-then-levels-gt0-clause-size
halves-requires-then-levels-gt0-clause-size g c =
    let n = c.args.levels in
    let len = length c.args.xs.now in
    let s = c.split_at_mut-lo in
    c.butterflies.auto.hi ∙ back_half n n c.if-levels-gt0.true (itself n) len len (length s.result.1.now) c.requires.size c.requires.size s.ensures.back_len

pub halves-requires-then-levels-gt0-clause-whole : goal.halves-requires-then-levels-gt0-clause-whole
halves-requires-then-levels-gt0-clause-whole g c =
    let n = c.args.levels in
    c.pack_levels.auto.table ∙ front_half n n c.if-levels-gt0.true (itself n) (length c.args.xs.now) (length c.args.table.now) c.requires.size c.requires.half

pub returns-then-levels-gt0-clause-sums : goal.returns-then-levels-gt0-clause-sums
returns-then-levels-gt0-clause-sums g c = λ w table p l.
    let n = c.args.levels in
    let some = c.if-levels-gt0.true in
    let s = c.split_at_mut-lo in
    let n0 : length s.result.0.now ≡ 2 ^ (n - 1) = front_half n n some (itself n) (length c.args.xs.now) (length s.result.0.now) c.requires.size s.ensures.front_len in
    let n2 : length c.halves.new.xs ≡ 2 ^ (n - 1) = c.halves.auto.xs ∙ (c.butterflies.auto.lo ∙ n0) in
    let twiddles : length c.args.table.now ≡ 2 ^ (n - 1) = front_half n n some (itself n) (length c.args.xs.now) (length c.args.table.now) c.requires.size c.requires.half in
    let levels = c.pack_levels.ensures w (n - 1) twiddles table in
    let m = g.T.Summand.meaning in
    let level : IsSplitLevel g.F.Field.field g.T.Summand.group m n w c.args.table.now c.args.xs.now s.result.0.now s.result.1.now c.butterflies.new.lo c.butterflies.new.hi = record {
      some = some;
      table = table;
      enough = twiddles;
      halves = s.ensures.value;
      len_lo = n0;
      butterflies = λ i b. record { sum = c.butterflies.ensures.sums i b; difference = c.butterflies.ensures.differences i b };
    } in
    one_level g.met.F.Field.field_laws g.met.T.Summand.module_laws m n w c.args.table.now c.args.xs.now s.result.0.now s.result.1.now c.butterflies.new.lo c.butterflies.new.hi c.halves.new.xs c.halves-then-levels-gt0.new.xs
    level n2 (c.halves.ensures.sums _ levels) (c.halves-then-levels-gt0.ensures.sums _ levels) p l

pub returns-then-levels-gt0-clause-counted : goal.returns-then-levels-gt0-clause-counted
returns-then-levels-gt0-clause-counted g c =
    let n = c.args.levels in
    let some = c.if-levels-gt0.true in
    let s = c.split_at_mut-lo in
    split_count n n some (itself n) (length s.result.0.now) c.butterflies.ensures.counted
    (front_half n n some (itself n) (length c.args.xs.now) (length s.result.0.now) c.requires.size s.ensures.front_len) c.halves.ensures.counted c.halves-then-levels-gt0.ensures.counted

pub returns-else-levels-gt0-clause-sums : goal.returns-else-levels-gt0-clause-sums
returns-else-levels-gt0-clause-sums g c = λ w table p l.
    no_level g.met.F.Field.field_laws g.met.T.Summand.module_laws c.args.levels w _ (omega arith) p l

pub returns-else-levels-gt0-clause-counted : goal.returns-else-levels-gt0-clause-counted
returns-else-levels-gt0-clause-counted g c = no_count (2 ^ c.args.levels / 2) c.args.levels c.args.work.now (omega arith)
