use Rattle.std.proofs.Common.{rules, refl, ℕ, ◌≡◌, ◌≢◌, set, map, length, get_or, ◌+◌, ◌-◌, ◌*◌, ◌^◌, ◌<◌, ◌≤◌, sym, ◌∙◌, ap, arith, subst, ⊎_elim}
use Rattle.std.proofs.lemmas.Bool.{cases_eq}
use Rattle.std.proofs.lemmas.List.{get_or_read}
use Rattle.ark_math.specs.Field.{power}
use Rattle.ark_math.specs.Module.{item, sum_below}
use Rattle.ark_math.proofs.Lists.Lists.{written_same, written_other}
use Rattle.ark_fft.proofs.Blocks.{block_within}
use Rattle.ark_fft.proofs.Counts.{none_yet, ended, not_last, no_part, part_more, all_parts}
use Rattle.ark_fft.proofs.Parts.{leap_below, place_below, columns_differ, rows_differ}
use Rattle.ark_fft.proofs.domain.mixed_radix.kernel.sum_row.Goals as goal

-- the step between two indices into the table is a word, and so is each index
step_small : (q m s t : ℕ) → t ≡ q * (m * s) → t < 2 ^ 64 → 1 < q → 0 < m → 0 < s → m * s < 2 ^ 64
step_small q m s t size small base some pos =
    let b = leap_below q m s 1 0 base some pos in
    omega (arith, b, size, small)

index_below : (q m s t j : ℕ) → t ≡ q * (m * s) → j < q → 0 < m → 0 < s → j * (m * s) < t
index_below q m s t j size in_base some pos = subst (λ k. j * (m * s) < k) (sym size) (leap_below q m s j 0 in_base some pos)

place_within : (q m size r i : ℕ) → size ≡ q * m → r < q → i < m → r * m + i < size
place_within q m size r i is in_rows in_row = subst (λ k. r * m + i < k) (sym is) (place_below q m r i in_rows in_row)

earlier : (i k m : ℕ) → i < k → k < m → i < m
earlier i k m a b = omega arith

some_rows : (j q : ℕ) → j < q → 0 < q
some_rows j q row = omega arith

last_row : (j q : ℕ) → j < q → q - 1 < q
last_row j q row = omega arith

row_start : (a i : ℕ) → a ≤ a + i
row_start a i = omega arith

row_within : (q m size r : ℕ) → size ≡ q * m → r < q → r * m ≤ size
row_within q m size r is in_rows = omega (arith, block_within q m r in_rows, is)

pub overflow_mul-leap : goal.overflow_mul-leap
overflow_mul-leap g c =
    let small = step_small c.args.level.now.base c.args.level.now.part_len c.args.level.now.stride (length c.args.level.now.roots.now) c.requires.level.size c.requires.level.small c.requires.level.above_one c.requires.not_empty c.requires.level.stride_not_zero in
    omega (arith, small)

pub overflow_mul-factor : goal.overflow_mul-factor
overflow_mul-factor g c =
    let b = index_below c.args.level.now.base c.args.level.now.part_len c.args.level.now.stride (length c.args.level.now.roots.now) c.args.j c.requires.level.size c.requires.row c.requires.not_empty c.requires.level.stride_not_zero in
    omega (arith, b, c.requires.level.small)

pub offset_bounds-level-j : goal.offset_bounds-level-j
offset_bounds-level-j g c =
    let b : c.args.j * (c.args.level.now.part_len * c.args.level.now.stride) < length c.args.level.now.roots.now = index_below c.args.level.now.base c.args.level.now.part_len c.args.level.now.stride (length c.args.level.now.roots.now) c.args.j c.requires.level.size c.requires.row c.requires.not_empty c.requires.level.stride_not_zero in
    search rules

pub bounds-level-j : goal.bounds-level-j
bounds-level-j g c = index_below c.args.level.now.base c.args.level.now.part_len c.args.level.now.stride (length c.args.level.now.roots.now) c.args.j c.requires.level.size c.requires.row c.requires.not_empty c.requires.level.stride_not_zero

pub overflow_mul-row : goal.overflow_mul-row
overflow_mul-row g c =
    let b = row_within c.args.level.now.base c.args.level.now.part_len (length c.args.parts.now) c.args.j c.requires.parts_size c.requires.row in
    omega (arith, b)

pub overflow_sub-last : goal.overflow_sub-last
overflow_sub-last g c = some_rows c.args.j c.args.level.now.base c.requires.row

pub overflow_mul-last : goal.overflow_mul-last
overflow_mul-last g c =
    let b = row_within c.args.level.now.base c.args.level.now.part_len (length c.args.parts.now) (c.args.level.now.base - 1) c.requires.parts_size (last_row c.args.j c.args.level.now.base c.requires.row) in
    omega (arith, b)

pub overflow_add-last : goal.overflow_add-last
overflow_add-last g c =
    let b = place_within c.args.level.now.base c.args.level.now.part_len (length c.args.parts.now) (c.args.level.now.base - 1) c.loop-i.i c.requires.parts_size (last_row c.args.j c.args.level.now.base c.requires.row) c.loop-i-test.true in
    omega (arith, b)

pub overflow_add-row : goal.overflow_add-row
overflow_add-row g c =
    let b = place_within c.args.level.now.base c.args.level.now.part_len (length c.args.parts.now) c.args.j c.loop-i.i c.requires.parts_size c.requires.row c.loop-i-test.true in
    omega (arith, b)

pub loop-i-preserved : goal.loop-i-preserved
loop-i-preserved g c =
    let K = g.F.Field.field in
    let V = g.T.Summand.group in
    let m = g.T.Summand.meaning in
    let j0 = c.args.j in
    let i0 = c.loop-i.i in
    let xs = c.loop-i.whole in
    let v = c.loop-i.invariant in
    let at = j0 * c.args.level.now.part_len + i0 in
    let b : at < length xs = place_within c.args.level.now.base c.args.level.now.part_len (length xs) j0 i0 (c.loop-i.auto.whole ∙ c.requires.whole_size) c.requires.row c.loop-i-test.true in
    let new = c.horner_sum.result in
    let roots = c.args.level.now.roots.now in
    let leap = c.args.j * (c.args.level.now.part_len * c.args.level.now.stride) in
    let a : leap < length roots = index_below c.args.level.now.base c.args.level.now.part_len c.args.level.now.stride (length c.args.level.now.roots.now) c.args.j c.requires.level.size c.requires.row c.requires.not_empty c.requires.level.stride_not_zero in
    let root : c.index-level-j.result ≡ get_or roots leap K.zero = get_or_read roots _ _ a c.index-level-j.is K.zero in
    let sum = λ (x : g.row.F.Denot) (t : ℕ). sum_below V c.args.level.now.base (λ r. V.scale (power K x r) (item V (map m c.args.parts.now) (r * c.args.level.now.part_len + t))) in
    let value : m new ≡ sum (get_or roots leap c.index-level-j.result) i0 = c.horner_sum.ensures.sum i0 refl in
    record {
      counted = part_more i0 (c.args.level.now.base - 1) v.counted c.horner_sum.ensures.counted;
      done = λ i il.
          ⊎_elim
          (λ (e : i ≡ i0).
          subst (λ t. item V (map m (set xs at new)) (j0 * c.args.level.now.part_len + t) ≡ sum (get_or roots leap K.zero) t) (sym e)
          (written_same m V.zero xs at new b ∙ (value ∙ ap (λ x. sum x i0) (sym c.index-level-j.is ∙ root))))
          (λ (ne : i ≢ i0). let before = not_last i i0 il ne in written_other m V.zero xs at (j0 * c.args.level.now.part_len + i) new (columns_differ c.args.level.now.part_len j0 i0 j0 i c.loop-i-test.true (earlier i i0 c.args.level.now.part_len before c.loop-i-test.true) ne) ∙ v.done i before)
          (cases_eq i i0);
      others = λ k i il ne.
          written_other m V.zero xs at (k * c.args.level.now.part_len + i) new (rows_differ c.args.level.now.part_len j0 i0 k i c.loop-i-test.true il ne) ∙ v.others k i il ne;
    }

pub loop-i-init : goal.loop-i-init
loop-i-init g c = record {
  counted = no_part (c.args.level.now.base - 1) c.args.work.now;
  done = λ i il. none_yet i il;
  others = λ k i il ne. refl;
}

pub offset_bounds-whole-row : goal.offset_bounds-whole-row
offset_bounds-whole-row g c =
    let b : c.args.j * c.args.level.now.part_len + c.loop-i.i < length c.loop-i.whole = place_within c.args.level.now.base c.args.level.now.part_len (length c.loop-i.whole) c.args.j c.loop-i.i (c.loop-i.auto.whole ∙ c.requires.whole_size) c.requires.row c.loop-i-test.true in
    search rules

pub bounds-whole-row : goal.bounds-whole-row
bounds-whole-row g c = place_within c.args.level.now.base c.args.level.now.part_len (length c.loop-i.whole) c.args.j c.loop-i.i (c.loop-i.auto.whole ∙ c.requires.whole_size) c.requires.row c.loop-i-test.true

pub horner_sum-requires-clause-base_not_zero : goal.horner_sum-requires-clause-base_not_zero
horner_sum-requires-clause-base_not_zero g c = some_rows c.args.j c.args.level.now.base c.requires.row

pub horner_sum-requires-clause-rows : goal.horner_sum-requires-clause-rows
horner_sum-requires-clause-rows g c = row_start ((c.args.level.now.base - 1) * c.args.level.now.part_len) c.loop-i.i

pub horner_sum-requires-clause-inside : goal.horner_sum-requires-clause-inside
horner_sum-requires-clause-inside g c =
    place_within c.args.level.now.base c.args.level.now.part_len (length c.args.parts.now) (c.args.level.now.base - 1) c.loop-i.i c.requires.parts_size (last_row c.args.j c.args.level.now.base c.requires.row) c.loop-i-test.true

pub returns-clause-counted : goal.returns-clause-counted
returns-clause-counted g c =
    all_parts c.loop-i.i c.args.level.now.part_len (c.args.level.now.base - 1) (ended c.loop-i.i c.args.level.now.part_len c.loop-i.auto.i-end c.loop-i-test.false) c.loop-i.invariant.counted

pub returns-clause-sums : goal.returns-clause-sums
returns-clause-sums g c = λ i il. c.loop-i.invariant.done i (subst (λ k. i < k) (sym (ended c.loop-i.i c.args.level.now.part_len c.loop-i.auto.i-end c.loop-i-test.false)) il)

pub returns-clause-other_rows : goal.returns-clause-other_rows
returns-clause-other_rows g c = c.loop-i.invariant.others
