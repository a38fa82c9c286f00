use Rattle.std.proofs.Common.{rules, ◌≡◌, ℕ, suc, ◌+◌, ◌-◌, ◌*◌, ◌^◌, ◌/◌, ◌<◌, ◌≤◌, ◌++◌, length, ap, refl, sym, subst, ◌∙◌, arith}
use Rattle.std.proofs.lemmas.List.{get_or_read}
use Rattle.ark_math.specs.Univariate.{of_list, value_below}
use Rattle.ark_bit_reversed.proofs.Joined.{half_len, half_within, halves_within, pow_fourth, pow_half, quarter_len}
use Rattle.ark_bit_reversed.proofs.Levels.{blocks_joined, halves_joined, pair_values}
use Rattle.ark_bit_reversed.proofs.Callers.Splits.{value_of_one}
use Rattle.ark_bit_reversed.proofs.forward.+forward.Goals as goal

pub halve-requires-clause-even : goal.halve-requires-clause-even
halve-requires-clause-even g t c = omega (arith, c.requires.size, pow_half c.args.levels (omega (arith, c.if-levels-gt-FEW_LEVELS.true)))

pub halve-requires-clause-within : goal.halve-requires-clause-within
halve-requires-clause-within g t c =
    let some : 1 ≤ c.args.levels = omega (arith, c.if-levels-gt-FEW_LEVELS.true) in
    let named = halves_within c.args.block c.args.levels (length c.args.roots.now + length c.args.roots.now) some c.requires.within in
    omega (arith, named)

pub overflow_mul-block : goal.overflow_mul-block
overflow_mul-block g t c =
    let some : 1 ≤ c.args.levels = omega (arith, c.if-levels-gt-FEW_LEVELS.true) in
    let named = halves_within c.args.block c.args.levels (length c.args.roots.now + length c.args.roots.now) some c.requires.within in
    omega (arith, named, c.requires.fits)

pub overflow_mul-block-then-levels-gt-FEW_LEVELS : goal.overflow_mul-block-then-levels-gt-FEW_LEVELS
overflow_mul-block-then-levels-gt-FEW_LEVELS g t c =
    let some : 1 ≤ c.args.levels = omega (arith, c.if-levels-gt-FEW_LEVELS.true) in
    let named = halves_within c.args.block c.args.levels (length c.args.roots.now + length c.args.roots.now) some c.requires.within in
    omega (arith, named, c.requires.fits)

pub overflow_add-block : goal.overflow_add-block
overflow_add-block g t c =
    let some : 1 ≤ c.args.levels = omega (arith, c.if-levels-gt-FEW_LEVELS.true) in
    let named = halves_within c.args.block c.args.levels (length c.args.roots.now + length c.args.roots.now) some c.requires.within in
    omega (arith, named, c.requires.fits)

pub forward-requires : goal.forward-requires
forward-requires g t c κs within =
    let block = c.args.block in
    let n = c.args.levels in
    let len = length c.args.roots.now + length c.args.roots.now in
    let some : 1 ≤ n = omega (arith, c.if-levels-gt-FEW_LEVELS.true) in
    let first : 2 * block + 0 ≡ 2 * block = omega arith in
    let share = half_len n (length c.halve.new.values) some (c.halve.ensures.len ∙ c.requires.size) in (
      omega arith,
      (
        search rules,
        (
          c.split_at_mut-low.ensures.front_len ∙ share,
          (subst (λ q. suc q * 2 ^ (n - 1) ≤ len) first (half_within block n len 0 some (omega arith) c.requires.within), c.requires.fits),
        ),
      ),
    )

pub forward-requires-then-levels-gt-FEW_LEVELS : goal.forward-requires-then-levels-gt-FEW_LEVELS
forward-requires-then-levels-gt-FEW_LEVELS g t c κs within =
    let block = c.args.block in
    let n = c.args.levels in
    let len = length c.args.roots.now + length c.args.roots.now in
    let some : 1 ≤ n = omega (arith, c.if-levels-gt-FEW_LEVELS.true) in
    let size = pow_half n some in (
      omega arith,
      (
        search rules,
        (
          omega (arith, size, c.requires.size, c.halve.ensures.len, c.split_at_mut-low.ensures.back_len),
          (half_within block n len 1 some (omega arith) c.requires.within, c.requires.fits),
        ),
      ),
    )

pub fours-requires-clause-whole : goal.fours-requires-clause-whole
fours-requires-clause-whole g t c =
    let size = pow_fourth c.args.levels c.if-levels-gt1.true in
    omega (arith, size, c.requires.size, c.down_to_fours.ensures.len)

pub fours-requires-clause-within : goal.fours-requires-clause-within
fours-requires-clause-within g t c =
    let n = c.args.levels in
    let block = c.args.block in
    let len = length c.args.roots.now + length c.args.roots.now in
    let mid = length c.down_to_fours.new.values in
    let m = 2 ^ (n - 2) in
    let size = pow_fourth n c.if-levels-gt1.true in
    let all : mid ≡ 2 ^ n = c.down_to_fours.ensures.len ∙ c.requires.size in
    let share : mid / 4 ≡ m = quarter_len n mid c.if-levels-gt1.true all in
    let wide : suc block * (4 * m) ≤ len = subst (λ q. suc block * q ≤ len) size c.requires.within in
    let there : 4 * (block * m) + 4 * m ≤ len = omega (arith, wide) in
    subst (λ q. 4 * (block * q) + mid ≤ len) (sym share) (subst (λ q. 4 * (block * m) + q ≤ len) (sym (all ∙ size)) there)

pub returns-then-levels-eq1-clause-values : goal.returns-then-levels-eq1-clause-values
returns-then-levels-eq1-clause-values g t c = λ x are.
    let K = g.F.Field.field in
    let roots = c.args.roots.now in
    let len = length roots + length roots in
    let block = c.args.block in
    let n = c.args.levels in
    let old = of_list K c.args.values.now in
    let new = of_list K c.pair.new.values in
    let some : 1 ≤ n = omega (arith, c.if-levels-eq1.true) in
    let named = halves_within block n len some c.requires.within in
    let size : 2 ^ n ≡ 2 = ap (λ q. 2 ^ q) c.if-levels-eq1.true in
    let twice : 2 * block ≡ block * 2 = omega arith in
    subst (λ q. (i : ℕ) → i < q → new i ≡ value_below K q old (x (block * q + i))) (sym size)
    (λ i l. pair_values K g.met.F.Field.field_laws len x are.reversed block named c.index-roots-block.result old new
    (get_or_read roots block c.index-roots-block.result (omega (arith, named)) c.index-roots-block.is K.zero ∙ are.each block (omega (arith, named)))
    c.pair.ensures.sum c.pair.ensures.difference i l
    ∙ ap (λ q. value_below K 2 old (x (q + i))) twice)

pub returns-then-levels-gt-FEW_LEVELS-clause-values : goal.returns-then-levels-gt-FEW_LEVELS-clause-values
returns-then-levels-gt-FEW_LEVELS-clause-values g t c = λ x are.
    let K = g.F.Field.field in
    let roots = c.args.roots.now in
    let block = c.args.block in
    let n = c.args.levels in
    let old = c.args.values.now in
    let mid = c.halve.new.values in
    let halves = c.split_at_mut-low in
    let low = c.forward.new.values in
    let high = c.forward-then-levels-gt-FEW_LEVELS.new.values in
    let some : 1 ≤ n = omega (arith, c.if-levels-gt-FEW_LEVELS.true) in
    let share : length old / 2 ≡ 2 ^ (n - 1) = half_len n (length old) some c.requires.size in
    let low_len : length halves.result.0.now ≡ 2 ^ (n - 1) = halves.ensures.front_len ∙ half_len n (length mid) some (c.halve.ensures.len ∙ c.requires.size) in
    halves_joined K g.met.F.Field.field_laws (length roots + length roots) x are.reversed block n some c.requires.within
    old mid (low ++ high) halves.result.0.now halves.result.1.now low high
    halves.ensures.value refl low_len (c.forward.ensures.len ∙ low_len)
    (λ i j two few. subst (λ s. of_list K mid (s * i + j) ≡ value_below K 2 (λ k. of_list K old (s * k + j)) (x (2 * block + i))) share
    (c.halve.ensures.values x are i j two (subst (λ s. j < s) (sym share) few)))
    (c.forward.ensures.values x are)
    (c.forward-then-levels-gt-FEW_LEVELS.ensures.values x are)

pub returns-then-levels-gt1-clause-values : goal.returns-then-levels-gt1-clause-values
returns-then-levels-gt1-clause-values g t c = λ x are.
    let K = g.F.Field.field in
    let roots = c.args.roots.now in
    let len = length roots + length roots in
    let block = c.args.block in
    let n = c.args.levels in
    let some = c.if-levels-gt1.true in
    let size = pow_fourth n some in
    let old = c.args.values.now in
    let mid = c.down_to_fours.new.values in
    let new = c.fours.new.values in
    let all : length mid ≡ 2 ^ n = c.down_to_fours.ensures.len ∙ c.requires.size in
    let share : length mid / 4 ≡ 2 ^ (n - 2) = quarter_len n (length mid) some all in
    subst (λ q. (i : ℕ) → i < q → of_list K new i ≡ value_below K q (of_list K old) (x (block * q + i))) (sym size)
    (blocks_joined K g.met.F.Field.field_laws len x are.reversed block 2 (2 ^ (n - 2)) (subst (λ q. suc block * q ≤ len) size c.requires.within)
    (of_list K old) (of_list K mid) (of_list K new)
    (c.down_to_fours.ensures.values x are)
    (λ r j l s. subst (λ q. of_list K new (4 * r + j) ≡ value_below K 4 (λ i. of_list K mid (4 * r + i)) (x (4 * (block * q + r) + j))) share
    (c.fours.ensures.values x are r j (omega (arith, l, size, all)) s)))

pub returns-else-levels-gt1-clause-values : goal.returns-else-levels-gt1-clause-values
returns-else-levels-gt1-clause-values g t c = λ x are i l.
    let K = g.F.Field.field in
    let n = c.args.levels in
    let none : n ≡ 0 = omega (arith, c.if-levels-eq1.false, c.if-levels-gt1.false) in
    value_of_one K g.met.F.Field.field_laws (2 ^ n) (of_list K c.args.values.now) (x (c.args.block * 2 ^ n + i)) i (ap (λ q. 2 ^ q) none) l
