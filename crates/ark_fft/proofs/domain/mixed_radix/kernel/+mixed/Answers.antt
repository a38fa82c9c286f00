use Rattle.std.proofs.Common.{suc, rules, refl, subst, ℕ, ◌≡◌, ◌≤◌, ap, map, take, drop, length, ◌+◌, ◌-◌, ◌*◌, ◌/◌, ◌^◌, ◌<◌, sym, ◌∙◌, arith}
use Rattle.std.proofs.Math.Nat.{pow-zero}
use Rattle.std.proofs.lemmas.Nat.{mul-lt}
use Rattle.ark_math.specs.Field.{power}
use Rattle.ark_math.specs.Module.{item}
use Rattle.ark_math.proofs.Numbers.Factors.{part_size, parts_whole, part_positive}
use Rattle.ark_fft.specs.Halves.{AreLevels}
use Rattle.ark_fft.proofs.Mixed.{part_counted, no_part_counted, all_counted, parted_root, last_root}
use Rattle.ark_fft.proofs.Counts.{positive, none_yet, ended, past, middle}
use Rattle.ark_fft.proofs.Blocks.{block_within, part_length, sub_whole, table_size, stride_small, IsBlock, block_done, block_after, mixed_joined, dealt_items}
use Rattle.ark_fft.proofs.domain.mixed_radix.kernel.+mixed.Goals as goal

-- each part is within the list, and is not empty
part_within : (levels q odds n r : ℕ) → 1 < q → 0 < odds → n ≡ 2 ^ levels * q ^ odds → r < q → (r * (n / q) + n / q ≤ n) × (0 < n / q)
part_within levels q odds n r base some size in_base =
    let pos : 0 < q = omega arith in
    (omega (arith, block_within q (n / q) r in_base, parts_whole levels q odds n pos some size), part_positive levels q odds n pos some size)

-- nor past what a word holds
part_small : (levels q odds n stride table r : ℕ) → 1 < q → 0 < odds → n ≡ 2 ^ levels * q ^ odds → r < q → n * stride ≡ table → 0 < stride → table < 2 ^ 64 → (r * (n / q) < 2 ^ 64) × (r * (n / q) + n / q < 2 ^ 64)
part_small levels q odds n stride table r base some size in_base whole pos small =
    let w = part_within levels q odds n r base some size in_base in
    let turned : stride * n ≡ table = omega (arith, whole) in
    let b = stride_small stride n table turned pos small in
    (omega (arith, w, b), omega (arith, w, b))

pub deinterleave-requires-clause-whole_size : goal.deinterleave-requires-clause-whole_size
deinterleave-requires-clause-whole_size g t c =
    let pos = positive c.args.plan.now.base c.requires.plan.above_one in
    parts_whole c.args.plan.now.levels c.args.plan.now.base c.args.plan.now.odds (length c.args.xs.now) pos c.if-plan-gt0.true c.requires.plan.size

pub deinterleave-requires-clause-parts_size : goal.deinterleave-requires-clause-parts_size
deinterleave-requires-clause-parts_size g t c =
    let pos = positive c.args.plan.now.base c.requires.plan.above_one in
    c.requires.scratch_size ∙ parts_whole c.args.plan.now.levels c.args.plan.now.base c.args.plan.now.odds (length c.args.xs.now) pos c.if-plan-gt0.true c.requires.plan.size

pub loop-r-init : goal.loop-r-init
loop-r-init g t c =
    let V = g.T.Summand.group in
    let m = g.T.Summand.meaning in
    let pos = positive c.args.plan.now.base c.requires.plan.above_one in
    let n = length c.args.xs.now / c.args.plan.now.base in
    let whole = parts_whole c.args.plan.now.levels c.args.plan.now.base c.args.plan.now.odds (length c.args.xs.now) pos c.if-plan-gt0.true c.requires.plan.size in
    let size : length c.deinterleave.new.parts ≡ c.args.plan.now.base * n = c.deinterleave.auto.parts ∙ (c.requires.scratch_size ∙ whole) in
    record {
      counted = no_part_counted c.args.plan.now.base _ _ c.args.work.now;
      done = λ w table tables r i rl il. none_yet r rl;
      rest = λ r i l rl il. dealt_items m V.zero c.args.plan.now.base n c.args.xs.now c.deinterleave.new.parts whole size c.deinterleave.ensures r i rl il;
    }

pub overflow_mul-from : goal.overflow_mul-from
overflow_mul-from g t c = let small = part_small c.args.plan.now.levels c.args.plan.now.base c.args.plan.now.odds (length c.args.xs.now) c.args.plan.now.stride (length c.args.plan.now.roots.now) c.loop-r.r c.requires.plan.above_one c.if-plan-gt0.true c.requires.plan.size c.loop-r-test.true c.requires.plan.whole c.requires.plan.stride_not_zero c.requires.plan.small in omega (arith, small)

pub overflow_add-from : goal.overflow_add-from
overflow_add-from g t c = let small = part_small c.args.plan.now.levels c.args.plan.now.base c.args.plan.now.odds (length c.args.xs.now) c.args.plan.now.stride (length c.args.plan.now.roots.now) c.loop-r.r c.requires.plan.above_one c.if-plan-gt0.true c.requires.plan.size c.loop-r-test.true c.requires.plan.whole c.requires.plan.stride_not_zero c.requires.plan.small in omega (arith, small)

pub slice_bounds-mixed-end : goal.slice_bounds-mixed-end
slice_bounds-mixed-end g t c = omega (arith, part_within c.args.plan.now.levels c.args.plan.now.base c.args.plan.now.odds (length c.args.xs.now) c.loop-r.r c.requires.plan.above_one c.if-plan-gt0.true c.requires.plan.size c.loop-r-test.true)

pub overflow_add-from-in-loop-r : goal.overflow_add-from-in-loop-r
overflow_add-from-in-loop-r g t c = let small = part_small c.args.plan.now.levels c.args.plan.now.base c.args.plan.now.odds (length c.args.xs.now) c.args.plan.now.stride (length c.args.plan.now.roots.now) c.loop-r.r c.requires.plan.above_one c.if-plan-gt0.true c.requires.plan.size c.loop-r-test.true c.requires.plan.whole c.requires.plan.stride_not_zero c.requires.plan.small in omega (arith, small)

pub slice_bounds-mixed-end-in-loop-r : goal.slice_bounds-mixed-end-in-loop-r
slice_bounds-mixed-end-in-loop-r g t c = omega (arith, part_within c.args.plan.now.levels c.args.plan.now.base c.args.plan.now.odds (length c.args.xs.now) c.loop-r.r c.requires.plan.above_one c.if-plan-gt0.true c.requires.plan.size c.loop-r-test.true)

pub offset_bounds-scratch-from : goal.offset_bounds-scratch-from
offset_bounds-scratch-from g t c =
    let b : c.loop-r.r * (length c.args.xs.now / c.args.plan.now.base) < length c.loop-r.scratch =
    omega (arith, part_within c.args.plan.now.levels c.args.plan.now.base c.args.plan.now.odds (length c.args.xs.now) c.loop-r.r c.requires.plan.above_one c.if-plan-gt0.true c.requires.plan.size c.loop-r-test.true) in
    search rules depth 3

pub offset_bounds-xs-from : goal.offset_bounds-xs-from
offset_bounds-xs-from g t c =
    let b : c.loop-r.r * (length c.args.xs.now / c.args.plan.now.base) < length c.loop-r.xs =
    omega (arith, part_within c.args.plan.now.levels c.args.plan.now.base c.args.plan.now.odds (length c.args.xs.now) c.loop-r.r c.requires.plan.above_one c.if-plan-gt0.true c.requires.plan.size c.loop-r-test.true) in
    search rules depth 3

pub overflow_mul-of_parts : goal.overflow_mul-of_parts
overflow_mul-of_parts g t c =
    let pos = positive c.args.plan.now.base c.requires.plan.above_one in
    let len = length c.args.xs.now in
    let n = len / c.args.plan.now.base in
    let whole = parts_whole c.args.plan.now.levels c.args.plan.now.base c.args.plan.now.odds len pos c.if-plan-gt0.true c.requires.plan.size in
    let some = part_positive c.args.plan.now.levels c.args.plan.now.base c.args.plan.now.odds len pos c.if-plan-gt0.true c.requires.plan.size in
    let e = sub_whole len c.args.plan.now.stride (length c.args.plan.now.roots.now) c.args.plan.now.base n n c.requires.plan.whole whole refl in
    let s = stride_small n (c.args.plan.now.stride * c.args.plan.now.base) (length c.args.plan.now.roots.now) e some c.requires.plan.small in
    omega (arith, s)

pub mixed-requires : goal.mixed-requires
mixed-requires g t c κs within =
    let q = c.args.plan.now.base in
    let pos = positive q c.requires.plan.above_one in
    let len = length c.args.xs.now in
    let n = len / q in
    let r = c.loop-r.r in
    let k = r * n + n - r * n in
    let same : k ≡ n = middle (r * n) n in
    let whole = parts_whole c.args.plan.now.levels q c.args.plan.now.odds len pos c.if-plan-gt0.true c.requires.plan.size in
    let b = block_within q n r c.loop-r-test.true in
    let size_scratch : length c.loop-r.scratch ≡ q * n = c.loop-r.auto.scratch ∙ (c.deinterleave.auto.parts ∙ (c.requires.scratch_size ∙ whole)) in
    let of_scratch : length (take k (drop (r * n) c.loop-r.scratch)) ≡ n = part_length (r * n) k n c.loop-r.scratch same (subst (λ x. r * n + n ≤ x) (sym size_scratch) b) in
    let of_xs : length (take k (drop (r * n) c.loop-r.xs)) ≡ n = part_length (r * n) k n c.loop-r.xs same (subst (λ x. r * n + n ≤ x) (sym (c.loop-r.auto.xs ∙ whole)) b) in
    let size = of_scratch ∙ part_size c.args.plan.now.levels q c.args.plan.now.odds len pos c.if-plan-gt0.true c.requires.plan.size in
    let e = sub_whole len c.args.plan.now.stride (length c.args.plan.now.roots.now) q n (length (take k (drop (r * n) c.loop-r.scratch))) c.requires.plan.whole whole of_scratch in
    let p : 0 < c.args.plan.now.stride * q = mul-lt 0 0 c.args.plan.now.stride q c.requires.plan.stride_not_zero pos in (
      omega arith,
      (
        search rules,
        (
          search rules,
          (
            record {
              size = size;
              whole = e;
              even_part = c.requires.plan.even_part;
              small = c.requires.plan.small;
              stride_not_zero = p;
              above_one = c.requires.plan.above_one;
              few = c.requires.plan.few;
            },
            of_xs ∙ sym of_scratch,
          ),
        ),
      ),
    )

pub loop-r-preserved : goal.loop-r-preserved
loop-r-preserved g t c =
    let K = g.F.Field.field in
    let V = g.T.Summand.group in
    let m = g.T.Summand.meaning in
    let q = c.args.plan.now.base in
    let pos = positive q c.requires.plan.above_one in
    let len = length c.args.xs.now in
    let n = len / q in
    let r0 = c.loop-r.r in
    let k = r0 * n + n - r0 * n in
    let same : k ≡ n = middle (r0 * n) n in
    let v = c.loop-r.invariant in
    let whole = parts_whole c.args.plan.now.levels q c.args.plan.now.odds len pos c.if-plan-gt0.true c.requires.plan.size in
    let size : length c.loop-r.scratch ≡ q * n = c.loop-r.auto.scratch ∙ (c.deinterleave.auto.parts ∙ (c.requires.scratch_size ∙ whole)) in
    let b = block_within q n r0 c.loop-r-test.true in
    let of_scratch : length (take k (drop (r0 * n) c.loop-r.scratch)) ≡ n = part_length (r0 * n) k n c.loop-r.scratch same (subst (λ x. r0 * n + n ≤ x) (sym size) b) in
    let of_new : length c.mixed.new.xs ≡ n = c.mixed.auto.xs ∙ of_scratch in
    let b = c.args.plan.now.odds - 1 in
    let part = length (take k (drop (r0 * n) c.loop-r.scratch)) in
    let written : IsBlock n q r0 k c.loop-r.scratch c.mixed.new.xs = record { inside = c.loop-r-test.true; whole = size; width = same; len = of_new } in
    record {
      counted = part_counted q r0 c.args.plan.now.levels b part n v.counted c.mixed.ensures.counted of_scratch;
      done = λ w table tables r i rl il.
          block_done g.met.F.Field.field_laws g.met.T.Summand.module_laws m n q r0 k (power K w (c.args.plan.now.stride * q)) c.loop-r.scratch c.mixed.new.xs (λ r k. item V (map m c.args.xs.now) (q * k + r)) written
          (c.mixed.ensures.transformed w table (subst (λ x. AreLevels K x c.args.plan.now.levels c.args.plan.now.tables.now) (parted_root K w c.args.plan.now.stride q c.args.plan.now.odds c.if-plan-gt0.true) tables))
          v.rest (v.done w table tables) r i rl il;
      rest = λ r i l rl il.
          let after = past r0 r l in
          block_after m V.zero n q r0 k c.loop-r.scratch c.mixed.new.xs r i written after.0 ∙ v.rest r i after.1 rl il;
    }

pub join-requires-clause-parts_size : goal.join-requires-clause-parts_size
join-requires-clause-parts_size g t c =
    let pos = positive c.args.plan.now.base c.requires.plan.above_one in
    c.loop-r.auto.scratch ∙ (c.deinterleave.auto.parts ∙ (c.requires.scratch_size ∙ parts_whole c.args.plan.now.levels c.args.plan.now.base c.args.plan.now.odds (length c.args.xs.now) pos c.if-plan-gt0.true c.requires.plan.size))

pub join-requires-clause-whole_size : goal.join-requires-clause-whole_size
join-requires-clause-whole_size g t c =
    let pos = positive c.args.plan.now.base c.requires.plan.above_one in
    c.loop-r.auto.xs ∙ parts_whole c.args.plan.now.levels c.args.plan.now.base c.args.plan.now.odds (length c.args.xs.now) pos c.if-plan-gt0.true c.requires.plan.size

pub join-requires-clause-level : goal.join-requires-clause-level
join-requires-clause-level g t c =
    let q = c.args.plan.now.base in
    let pos = positive q c.requires.plan.above_one in
    let len = length c.args.xs.now in
    record {
      size = table_size len c.args.plan.now.stride (length c.args.plan.now.roots.now) q (len / q) c.requires.plan.whole
          (parts_whole c.args.plan.now.levels q c.args.plan.now.odds len pos c.if-plan-gt0.true c.requires.plan.size);
      small = c.requires.plan.small;
      above_one = c.requires.plan.above_one;
      stride_not_zero = c.requires.plan.stride_not_zero;
    }

pub returns-after-loop-r-clause-counted : goal.returns-after-loop-r-clause-counted
returns-after-loop-r-clause-counted g t c =
    all_counted c.loop-r.r c.args.plan.now.base c.args.plan.now.levels c.args.plan.now.odds (length c.args.xs.now) (positive c.args.plan.now.base c.requires.plan.above_one) c.if-plan-gt0.true c.requires.plan.size
    (ended c.loop-r.r c.args.plan.now.base c.loop-r.auto.r-end c.loop-r-test.false) c.loop-r.invariant.counted c.join.ensures.counted

pub returns-after-loop-r-clause-transformed : goal.returns-after-loop-r-clause-transformed
returns-after-loop-r-clause-transformed g t c = λ w table tables i l.
    let q = c.args.plan.now.base in
    let pos = positive q c.requires.plan.above_one in
    let len = length c.args.xs.now in
    let n = len / q in
    let end = ended c.loop-r.r q c.loop-r.auto.r-end c.loop-r-test.false in
    let whole = parts_whole c.args.plan.now.levels q c.args.plan.now.odds len pos c.if-plan-gt0.true c.requires.plan.size in
    let size = table_size len c.args.plan.now.stride (length c.args.plan.now.roots.now) q n c.requires.plan.whole whole in
    mixed_joined g.met.F.Field.field_laws g.met.T.Summand.module_laws g.T.Summand.meaning w c.args.plan.now.roots.now q n c.args.plan.now.stride len c.args.xs.now c.loop-r.scratch c.join.new.whole
    (record { powers = table; len = size; whole = whole; some = c.requires.plan.stride_not_zero })
    (λ r i rl il. c.loop-r.invariant.done w table tables r i (subst (λ k. r < k) (sym end) rl) il) c.join.ensures.joined i l

-- no part is left to deal out
even_size : (levels q odds n : ℕ) → odds ≤ 0 → n ≡ 2 ^ levels * q ^ odds → n ≡ 2 ^ levels
even_size levels q odds n none size =
    let zero_odds : odds ≡ 0 = omega arith in
    let one : q ^ odds ≡ 1 = ap (λ k. q ^ k) zero_odds ∙ pow-zero q in
    let same : 2 ^ levels * q ^ odds ≡ 2 ^ levels * 1 = ap (λ k. 2 ^ levels * k) one in
    omega (arith, size, same)

-- a list is no longer than its places times a stride
within_strides : (n s l : ℕ) → 0 < s → s * n ≡ l → n < l + 1
within_strides n s l pos e =
    let p : s ≡ suc (s - 1) = omega arith in
    let f : s * n ≡ n + (s - 1) * n = ap (λ t. t * n) p ∙ omega arith in
    omega arith

pub even_transform-requires-clause-size : goal.even_transform-requires-clause-size
even_transform-requires-clause-size g t c = even_size c.args.plan.now.levels c.args.plan.now.base c.args.plan.now.odds (length c.args.xs.now) c.if-plan-gt0.false c.requires.plan.size

pub even_transform-requires-clause-small : goal.even_transform-requires-clause-small
even_transform-requires-clause-small g t c =
    let n = length c.args.xs.now in
    let turned : c.args.plan.now.stride * n ≡ length c.args.plan.now.roots.now = omega (arith, c.requires.plan.whole) in
    let all : n < length c.args.plan.now.roots.now + 1 = within_strides n c.args.plan.now.stride (length c.args.plan.now.roots.now) c.requires.plan.stride_not_zero turned in
    omega (arith, all, c.requires.plan.small)

pub returns-else-plan-gt0-clause-transformed : goal.returns-else-plan-gt0-clause-transformed
returns-else-plan-gt0-clause-transformed g t c = λ w table tables i l.
    let K = g.F.Field.field in
    let none : c.args.plan.now.odds ≡ 0 = omega arith in
    let root = last_root K w c.args.plan.now.stride c.args.plan.now.base c.args.plan.now.odds none in
    c.even_transform.ensures.transformed (power K w c.args.plan.now.stride) (subst (λ x. AreLevels K x c.args.plan.now.levels c.args.plan.now.tables.now) root tables) i l
