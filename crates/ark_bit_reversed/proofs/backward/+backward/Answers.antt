use Rattle.std.proofs.Common.{rules, arith, ◌≡◌, ◌+◌, ◌*◌, ◌-◌, ◌/◌, ◌^◌, ◌<◌, ◌≤◌, suc, ℕ, length, refl, sym, ◌∙◌, ap, subst}
use Rattle.std.proofs.lemmas.List.{get_or_read}
use Rattle.ark_math.specs.Field.{minus, power}
use Rattle.ark_math.specs.Univariate.{of_list, scaled, value_below}
use Rattle.ark_math_polynomials.proofs.Polynomials.UnivariateValues.{value_below-scaled}
use Rattle.ark_bit_reversed.proofs.BlockParts.{gathered, values_of_half, values_of_row, halves_back, pair_at_last, one_at_last, one_more, two_more}
use Rattle.ark_bit_reversed.proofs.Joined.{by_halves, front_item, back_item, pow_half, pow_fourth, half_within, halves_within}
use Rattle.ark_bit_reversed.proofs.Undone.{two}
use Rattle.ark_bit_reversed.proofs.backward.+backward.Goals as goal

pub overflow_mul-block : goal.overflow_mul-block
overflow_mul-block g t c = omega (arith, halves_within c.args.block c.args.levels (length c.args.inverses.now + length c.args.inverses.now) (omega arith) c.requires.within)

pub overflow_mul-block-then-levels-gt-FEW_LEVELS : goal.overflow_mul-block-then-levels-gt-FEW_LEVELS
overflow_mul-block-then-levels-gt-FEW_LEVELS g t c = omega (arith, halves_within c.args.block c.args.levels (length c.args.inverses.now + length c.args.inverses.now) (omega arith) c.requires.within)

pub overflow_add-block : goal.overflow_add-block
overflow_add-block g t c = omega (arith, halves_within c.args.block c.args.levels (length c.args.inverses.now + length c.args.inverses.now) (omega arith) c.requires.within)

pub backward-requires : goal.backward-requires
backward-requires g t c κs within =
    let n = c.args.levels in
    let some : 1 ≤ n = omega arith in
    let at : suc (2 * c.args.block + 0) * 2 ^ (n - 1) ≤ length c.args.inverses.now + length c.args.inverses.now = half_within c.args.block n (length c.args.inverses.now + length c.args.inverses.now) 0 some (omega arith) c.requires.within in (
      omega arith,
      (
        search rules,
        (
          omega (arith, c.split_at_mut-low.ensures.front_len, c.requires.size, pow_half n some),
          (omega (arith, at), c.requires.fits),
        ),
      ),
    )

pub backward-requires-then-levels-gt-FEW_LEVELS : goal.backward-requires-then-levels-gt-FEW_LEVELS
backward-requires-then-levels-gt-FEW_LEVELS g t c κs within =
    let n = c.args.levels in
    let some : 1 ≤ n = omega arith in (
      omega arith,
      (
        search rules,
        (
          omega (arith, c.split_at_mut-low.ensures.back_len, c.requires.size, pow_half n some),
          (half_within c.args.block n (length c.args.inverses.now + length c.args.inverses.now) 1 some (omega arith) c.requires.within, c.requires.fits),
        ),
      ),
    )

pub join_halves-requires-clause-same : goal.join_halves-requires-clause-same
join_halves-requires-clause-same g t c =
    c.backward.ensures.len
    ∙ omega (arith, c.split_at_mut-low.ensures.front_len, c.split_at_mut-low.ensures.back_len, c.requires.size, pow_half c.args.levels (omega arith))
    ∙ sym c.backward-then-levels-gt-FEW_LEVELS.ensures.len

pub join_halves-requires-clause-within : goal.join_halves-requires-clause-within
join_halves-requires-clause-within g t c = omega (arith, halves_within c.args.block c.args.levels (length c.args.inverses.now + length c.args.inverses.now) (omega arith) c.requires.within)

pub fours-requires-clause-whole : goal.fours-requires-clause-whole
fours-requires-clause-whole g t c = omega (arith, c.requires.size, pow_fourth c.args.levels (omega arith))

pub fours-requires-clause-within : goal.fours-requires-clause-within
fours-requires-clause-within g t c =
    let n = c.args.levels in
    let b = c.args.block in
    let size = length c.args.inverses.now + length c.args.inverses.now in
    let four = pow_fourth n (omega arith) in
    let quarter : length c.args.values.now / 4 ≡ 2 ^ (n - 2) = omega (arith, c.requires.size, four) in
    let whole : suc b * (4 * 2 ^ (n - 2)) ≤ size = subst (λ u. suc b * u ≤ size) four c.requires.within in
    omega (arith, ap (λ u. b * u) quarter, quarter, c.requires.size, four, whole)

pub returns-then-levels-eq1-clause-coefficients : goal.returns-then-levels-eq1-clause-coefficients
returns-then-levels-eq1-clause-coefficients g t c = λ x a known values.
    let K = g.F.Field.field in
    let old = c.args.values.now in
    let inverses = c.args.inverses.now in
    let named = halves_within c.args.block c.args.levels (length c.args.inverses.now + length c.args.inverses.now) (omega arith) c.requires.within in
    pair_at_last K g.met.F.Field.field_laws x inverses known c.args.levels c.args.block a (of_list K old) (of_list K c.pair.new.values) (omega arith) named c.pair.ensures.sum
    (c.pair.ensures.difference ∙ ap (λ u. K.times u (minus K (of_list K old 0) (of_list K old 1))) (get_or_read inverses _ _ (omega (arith, named)) c.index-inverses-block.is K.zero))
    values

pub returns-else-levels-gt1-clause-coefficients : goal.returns-else-levels-gt1-clause-coefficients
returns-else-levels-gt1-clause-coefficients g t c = λ x a known.
    one_at_last g.F.Field.field g.met.F.Field.field_laws x c.args.inverses.now known c.args.levels c.args.block a (of_list g.F.Field.field c.args.values.now) (omega arith)

pub returns-then-levels-gt1-clause-coefficients : goal.returns-then-levels-gt1-clause-coefficients
returns-then-levels-gt1-clause-coefficients g t c = λ x a known values i l.
    let K = g.F.Field.field in
    let N = g.met.F.Field.field_laws in
    let n = c.args.levels in
    let b = c.args.block in
    let m = 2 ^ (n - 2) in
    let old = c.args.values.now in
    let size = length c.args.inverses.now + length c.args.inverses.now in
    let some : 2 ≤ n = omega arith in
    let four : 2 ^ n ≡ 4 * 2 ^ (n - 2) = pow_fourth n some in
    let quarter : length old / 4 ≡ 2 ^ (n - 2) = omega (arith, c.requires.size, four) in
    let twice = power K (two K) 2 in
    let rest = power K (two K) (n - 2) in
    c.up_from_fours.ensures.coefficients x (scaled K twice a) known
    (λ r j lr lj.
    let d = b * (length old / 4) + r in
    let row = λ (j : ℕ). value_below K m (λ k. a (4 * k + j)) (x d) in
    let named : d ≡ b * 2 ^ (n - 2) + r = ap (λ u. b * u + r) quarter in
    c.fours.ensures.coefficients x row known r (omega (arith, lr, quarter, c.requires.size, four))
    (values_of_row K N size x known.reversed m (2 ^ n) b r d a (of_list K old) four lr named c.requires.within values) j lj
    ∙ ap (λ u. K.times twice (value_below K m (λ k. a (4 * k + j)) (x u))) named
    ∙ sym (value_below-scaled K N m twice (λ k. a (4 * k + j)) (x (b * m + r))))
    i l
    ∙ sym (N.times_assoc rest twice (a i))
    ∙ ap (λ u. K.times u (a i)) (N.times_comm rest twice ∙ two_more K N n some)

pub returns-then-levels-gt-FEW_LEVELS-clause-coefficients : goal.returns-then-levels-gt-FEW_LEVELS-clause-coefficients
returns-then-levels-gt-FEW_LEVELS-clause-coefficients g t c = λ x a known values i l.
    let K = g.F.Field.field in
    let N = g.met.F.Field.field_laws in
    let n = c.args.levels in
    let b = c.args.block in
    let m = 2 ^ (n - 1) in
    let inverses = c.args.inverses.now in
    let size = length inverses + length inverses in
    let old = c.args.values.now in
    let low = c.split_at_mut-low in
    let q0 = c.backward in
    let q1 = c.backward-then-levels-gt-FEW_LEVELS in
    let new = c.join_halves.new in
    let some : 1 ≤ n = omega arith in
    let both : 2 ^ n ≡ 2 * 2 ^ (n - 1) = pow_half n some in
    let half : length old / 2 ≡ 2 ^ (n - 1) = omega (arith, c.requires.size, both) in
    let parts : 2 ^ n ≡ 2 ^ (n - 1) * 2 = omega (arith, both) in
    let added : 2 ^ n ≡ 2 ^ (n - 1) + 2 ^ (n - 1) = omega (arith, both) in
    let named : 2 * b + 1 < size = halves_within b n size some c.requires.within in
    let item_0 : (k : ℕ) → k < m → of_list K low.result.0.now k ≡ of_list K old (0 * m + k) = λ k h.
    low.ensures.by_index.0 k K.zero (omega (arith, h, half)) ∙ ap (of_list K old) (omega arith) in
    let item_1 : (k : ℕ) → k < m → of_list K low.result.1.now k ≡ of_list K old (1 * m + k) = λ k h.
    low.ensures.by_index.1 k K.zero ∙ ap (of_list K old) (omega (arith, half)) in
    let up_0 = q0.ensures.coefficients x (gathered K x 2 m (2 * b) a) known
    (values_of_half K N size x known.reversed (n - 1) (2 ^ n) b 0 (2 * b) a (of_list K old) (of_list K low.result.0.now) parts (omega arith) (omega arith) c.requires.within values item_0) in
    let up_1 = q1.ensures.coefficients x (gathered K x 2 m (2 * b + 1) a) known
    (values_of_half K N size x known.reversed (n - 1) (2 ^ n) b 1 (2 * b + 1) a (of_list K old) (of_list K low.result.1.now) parts refl (omega arith) c.requires.within values item_1) in
    let len_0 : length q0.new.values ≡ m = q0.ensures.len ∙ omega (arith, low.ensures.front_len, half) in
    let len_a : length new.low ≡ m = c.join_halves.ensures.low_len ∙ len_0 in
    let back = λ (k : ℕ) (h : k < m). halves_back K N x inverses known b m k (power K (two K) (n - 1)) a (of_list K q0.new.values k) (of_list K q1.new.values k) named (up_0 k h) (up_1 k h) in
    let more = one_more K N n some in
    by_halves (λ j. of_list K _ j ≡ K.times (power K (two K) n) (a j)) m
    (λ k h. front_item K.zero new.low new.high m k len_a h ∙ c.join_halves.ensures.sums k (omega (arith, h, len_0)) ∙ (back k h).0 ∙ ap (λ u. K.times u (a k)) more)
    (λ k h. back_item K.zero new.low new.high m k len_a ∙ c.join_halves.ensures.differences x known k (omega (arith, h, len_0))
    ∙ (back k h).1 ∙ ap (λ u. K.times u (a (m + k))) more)
    i (subst (λ u. i < u) added l)
