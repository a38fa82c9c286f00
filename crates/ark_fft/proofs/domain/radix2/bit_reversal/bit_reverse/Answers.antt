use Rattle.std.proofs.Common.{◌≡◌, ℕ, suc, ◌-◌, ◌*◌, ◌/◌, ◌<◌, ◌^◌, ◌++◌, length, length-append, get_or, refl, subst, sym, ◌∙◌, arith}
use Rattle.ark_math_transforms.specs.BitReversal.{reversed}
use Rattle.ark_fft.proofs.Places.{AreQuarters, quarters_restored, sixteenth}
use Rattle.ark_fft.proofs.domain.radix2.bit_reversal.bit_reverse.Goals as goal

pub turn_blocks-requires-clause-first_len : goal.turn_blocks-requires-clause-first_len
turn_blocks-requires-clause-first_len g c =
    let size = sixteenth c.args.levels (length c.args.xs.now) (omega arith) c.requires.size in
    omega (arith, size, c.split_at_mut-lo.ensures.front_len, c.split_at_mut-first.ensures.front_len)

pub turn_blocks-requires-clause-second_len : goal.turn_blocks-requires-clause-second_len
turn_blocks-requires-clause-second_len g c =
    let size = sixteenth c.args.levels (length c.args.xs.now) (omega arith) c.requires.size in
    omega (arith, size, c.split_at_mut-lo.ensures.front_len, c.split_at_mut-first.ensures.back_len)

pub turn_blocks-requires-clause-third_len : goal.turn_blocks-requires-clause-third_len
turn_blocks-requires-clause-third_len g c =
    let size = sixteenth c.args.levels (length c.args.xs.now) (omega arith) c.requires.size in
    omega (arith, size, c.split_at_mut-lo.ensures.back_len, c.split_at_mut-third.ensures.front_len)

pub turn_blocks-requires-clause-fourth_len : goal.turn_blocks-requires-clause-fourth_len
turn_blocks-requires-clause-fourth_len g c =
    let size = sixteenth c.args.levels (length c.args.xs.now) (omega arith) c.requires.size in
    omega (arith, size, c.split_at_mut-lo.ensures.back_len, c.split_at_mut-third.ensures.back_len)

pub bit_reverse_fours-requires-clause-size : goal.bit_reverse_fours-requires-clause-size
bit_reverse_fours-requires-clause-size g c =
    let size = sixteenth c.args.levels (length c.args.xs.now) (omega arith) c.requires.size in
    omega (arith, size, c.turn_blocks.auto.first, c.split_at_mut-lo.ensures.front_len, c.split_at_mut-first.ensures.front_len)

pub bit_reverse_fours-requires-else-levels-lt4-clause-size : goal.bit_reverse_fours-requires-else-levels-lt4-clause-size
bit_reverse_fours-requires-else-levels-lt4-clause-size g c =
    let size = sixteenth c.args.levels (length c.args.xs.now) (omega arith) c.requires.size in
    omega (arith, size, c.turn_blocks.auto.second, c.split_at_mut-lo.ensures.front_len, c.split_at_mut-first.ensures.back_len)

pub bit_reverse_fours-requires-else-levels-lt4-2-clause-size : goal.bit_reverse_fours-requires-else-levels-lt4-2-clause-size
bit_reverse_fours-requires-else-levels-lt4-2-clause-size g c =
    let size = sixteenth c.args.levels (length c.args.xs.now) (omega arith) c.requires.size in
    omega (arith, size, c.turn_blocks.auto.third, c.split_at_mut-lo.ensures.back_len, c.split_at_mut-third.ensures.front_len)

pub bit_reverse_fours-requires-else-levels-lt4-3-clause-size : goal.bit_reverse_fours-requires-else-levels-lt4-3-clause-size
bit_reverse_fours-requires-else-levels-lt4-3-clause-size g c =
    let size = sixteenth c.args.levels (length c.args.xs.now) (omega arith) c.requires.size in
    omega (arith, size, c.turn_blocks.auto.fourth, c.split_at_mut-lo.ensures.back_len, c.split_at_mut-third.ensures.back_len)

pub returns-else-levels-lt4 : goal.returns-else-levels-lt4
returns-else-levels-lt4 g c = λ p d l.
    let m = c.args.levels - 4 in
    let len = length c.args.xs.now in
    let size : len ≡ 16 * 2 ^ m = sixteenth c.args.levels len (omega arith) c.requires.size in
    let levels : suc (suc (suc (suc m))) ≡ c.args.levels = omega arith in
    let quarter : len / 4 ≡ 4 * 2 ^ m = omega (arith, size) in
    let count : len / 4 / 4 ≡ 2 ^ m = omega (arith, size) in
    let first = c.split_at_mut-first.result.0.now in
    let second = c.split_at_mut-first.result.1.now in
    let third = c.split_at_mut-third.result.0.now in
    let fourth = c.split_at_mut-third.result.1.now in
    let before : AreQuarters (4 * 2 ^ m) c.args.xs.now first second third fourth = record {
      lo = c.split_at_mut-lo.result.0.now;
      hi = c.split_at_mut-lo.result.1.now;
      joins = c.split_at_mut-lo.ensures.value;
      of_lo = c.split_at_mut-first.ensures.value;
      of_hi = c.split_at_mut-third.ensures.value;
      first_len = c.split_at_mut-first.ensures.front_len ∙ quarter;
      lo_len = c.split_at_mut-lo.ensures.front_len ∙ omega (arith, quarter);
      third_len = c.split_at_mut-third.ensures.front_len ∙ quarter;
    } in
    let f = c.turn_blocks.ensures in
    let first2 = c.bit_reverse_fours.new.xs in
    let second2 = c.bit_reverse_fours-else-levels-lt4.new.xs in
    let third2 = c.bit_reverse_fours-else-levels-lt4-2.new.xs in
    let fourth2 = c.bit_reverse_fours-else-levels-lt4-3.new.xs in
    let first_len : length first2 ≡ 4 * 2 ^ m = c.bit_reverse_fours.auto.xs ∙ c.turn_blocks.auto.first ∙ before.first_len in
    let second_len : length second2 ≡ 4 * 2 ^ m =
    c.bit_reverse_fours-else-levels-lt4.auto.xs ∙ c.turn_blocks.auto.second ∙ omega (arith, quarter, before.lo_len, c.split_at_mut-first.ensures.back_len) in
    let third_len : length third2 ≡ 4 * 2 ^ m = c.bit_reverse_fours-else-levels-lt4-2.auto.xs ∙ c.turn_blocks.auto.third ∙ before.third_len in
    let after : AreQuarters (4 * 2 ^ m) ((first2 ++ second2) ++ (third2 ++ fourth2)) first2 second2 third2 fourth2 = record {
      lo = first2 ++ second2;
      hi = third2 ++ fourth2;
      joins = refl;
      of_lo = refl;
      of_hi = refl;
      first_len = first_len;
      lo_len = length-append first2 second2 ∙ omega (arith, first_len, second_len);
      third_len = third_len;
    } in
    let block : (k : ℕ) → k < 2 ^ m → k < len / 4 / 4 = λ k b. omega (arith, b, count) in
    subst (λ n. get_or ((first2 ++ second2) ++ (third2 ++ fourth2)) p d ≡ get_or c.args.xs.now (reversed n p) d) levels
    (quarters_restored m c.args.xs.now first second third fourth d before ((first2 ++ second2) ++ (third2 ++ fourth2)) first2 second2 third2 fourth2 after
    (record { dealt = c.turn_blocks.new.first; blocks = λ k b. f.first k (block k b); order = λ k b four n. c.bit_reverse_fours.ensures k b d four n })
    (record { dealt = c.turn_blocks.new.second; blocks = λ k b. f.second k (block k b); order = λ k b four n. c.bit_reverse_fours-else-levels-lt4.ensures k b d four n })
    (record { dealt = c.turn_blocks.new.third; blocks = λ k b. f.third k (block k b); order = λ k b four n. c.bit_reverse_fours-else-levels-lt4-2.ensures k b d four n })
    (record { dealt = c.turn_blocks.new.fourth; blocks = λ k b. f.fourth k (block k b); order = λ k b four n. c.bit_reverse_fours-else-levels-lt4-3.ensures k b d four n })
    p (subst (λ n. p < 2 ^ n) (sym levels) l))
