use Rattle.std.proofs.Common.{◌≡◌, ◌-◌, ◌/◌, ◌<◌, ◌≤◌, ◌^◌, ℕ, arith, length, map, take, drop, get_or, ap, ◌∙◌, length-take-le, length-append, length-drop, ◌++◌, ◌+◌, ◌*◌, ap₂, sym}
use Rattle.std.proofs.Math.Pow.{pow_mono, pow_pos}
use Rattle.std.proofs.lemmas.Nat.{pow-add}
use Rattle.ark_math.specs.Field.{power}
use Rattle.ark_math.specs.Module.{item}
use Rattle.ark_math_transforms.specs.BitReversal.{reversed}
use Rattle.ark_fft.proofs.Halving.{few_levels, shifted}
use Rattle.ark_fft.proofs.Joining.{AreBlocks, blocks_spread, first_items}
use Rattle.ark_fft.proofs.domain.radix2.time.short_in_order.Goals as goal

pub overflow_shr-items : goal.overflow_shr-items
overflow_shr-items g c =
    let b : 2 ^ c.args.pruned.now.levels < 2 ^ 64 = omega arith in
    let f = few_levels c.args.pruned.now.levels b in
    omega arith

pub bit_reverse-requires-clause-few : goal.bit_reverse-requires-clause-few
bit_reverse-requires-clause-few g c =
    let b : 2 ^ c.args.pruned.now.levels < 2 ^ 64 = omega arith in
    let f = few_levels c.args.pruned.now.levels b in
    omega arith

pub bit_reverse-requires-clause-size : goal.bit_reverse-requires-clause-size
bit_reverse-requires-clause-size g c =
    let old = c.args.xs.now in
    let k = length old / 2 ^ (c.args.pruned.now.levels - c.args.pruned.now.log_len) in
    let items : k ≡ 2 ^ c.args.pruned.now.log_len = first_items c.args.pruned.now.levels c.args.pruned.now.log_len (length old) c.requires.within c.requires.size in
    let le : 2 ^ c.args.pruned.now.log_len ≤ 2 ^ c.args.pruned.now.levels = pow_mono c.requires.within in
    let fits : k ≤ length old = omega (arith, items, le, c.requires.size) in
    length-take-le k old fits ∙ items

pub overflow_shl-log_block : goal.overflow_shl-log_block
overflow_shl-log_block g c =
    let b : 2 ^ c.args.pruned.now.levels < 2 ^ 64 = omega arith in
    let f = few_levels c.args.pruned.now.levels b in
    omega arith

pub spread_out-requires : goal.spread_out-requires
spread_out-requires g c =
    let n = c.args.pruned.now.levels in
    let e = c.args.pruned.now.log_len in
    let b : 2 ^ n < 2 ^ 64 = omega arith in
    let f = few_levels n b in
    let block = shifted (n - e) (omega arith) in
    let old = c.args.xs.now in
    let k = length old / 2 ^ (n - e) in
    let items : k ≡ 2 ^ e = first_items n e (length old) c.requires.within c.requires.size in
    let le : 2 ^ e ≤ 2 ^ n = pow_mono c.requires.within in
    let fits : k ≤ length old = omega (arith, items, le, c.requires.size) in
    let front = c.bit_reverse.new.xs in
    let len_front : length front ≡ 2 ^ e = c.bit_reverse.auto.xs ∙ (length-take-le k old fits ∙ items) in
    let len_mid : length (front ++ drop k old) ≡ 2 ^ n = length-append front (drop k old) ∙ omega (arith, length-drop k old, len_front, items, fits, c.requires.size) in
    let all : e + (n - e) ≡ n = omega (arith, c.requires.within) in
    record {
      whole = len_mid ∙ ap (λ t. 2 ^ t) (sym all) ∙ pow-add 2 e (n - e) ∙ ap₂ (λ x y. x * y) (sym items) (sym block);
      not_empty = omega (arith, block, pow_pos (n - e));
    }

pub returns-clause-sums : goal.returns-clause-sums
returns-clause-sums g c = λ levels half i l.
    let V = g.T.Summand.group in
    let m = g.T.Summand.meaning in
    let N = g.met.F.Field.field_laws in
    let L = g.met.T.Summand.module_laws in
    let n = c.args.pruned.now.levels in
    let e = c.args.pruned.now.log_len in
    let b : 2 ^ n < 2 ^ 64 = omega (arith, c.requires.fits, c.requires.size) in
    let f = few_levels n b in
    let block = shifted (n - e) (omega arith) in
    let old = c.args.xs.now in
    let k = length old / 2 ^ (n - e) in
    let items : k ≡ 2 ^ e = first_items n e (length old) c.requires.within c.requires.size in
    let le : 2 ^ e ≤ 2 ^ n = pow_mono c.requires.within in
    let fits : k ≤ length old = omega (arith, items, le, c.requires.size) in
    let front = c.bit_reverse.new.xs in
    let len_front : length front ≡ 2 ^ e = c.bit_reverse.auto.xs ∙ (length-take-le k old fits ∙ items) in
    let len_mid : length (front ++ drop k old) ≡ 2 ^ n = length-append front (drop k old) ∙ omega (arith, length-drop k old, len_front, items, fits, c.requires.size) in
    let len_now : length c.spread_out.new.xs ≡ 2 ^ n = c.spread_out.auto.xs ∙ len_mid in
    let order : (p : ℕ) (d : g.row.T.Denot) → p < 2 ^ e → get_or front p d ≡ get_or (take (2 ^ e) old) (reversed e p) d = λ p d b.
    c.bit_reverse.ensures p d b ∙ ap (λ t. get_or (take t old) (reversed e p) d) items in
    let blocks : AreBlocks N L m n e c.spread_out.new.xs (item V (map m old)) =
    blocks_spread N L m n e old front (drop k old) c.spread_out.new.xs c.requires.within c.requires.size len_front len_now len_mid order (λ p d h. c.spread_out.ensures p d h ∙ ap (λ t. get_or (front ++ drop k old) (p / t) d) block) in
    c.join_levels.ensures.sums (item V (map m old)) levels (λ pos. ap (λ t. power g.F.Field.field c.args.pruned.now.root (t / 2)) (sym c.requires.size) ∙ half pos) blocks i (omega (arith, l, c.requires.size))
