use Rattle.std.proofs.Common.{◌≡◌, ◌+◌, ◌/◌, ◌<◌, length, sym, ap, ap₂, subst, ◌∙◌, arith, rules, get_or-set_same}
use Rattle.std.proofs.lemmas.List.{length-set}
use Rattle.ark_math.specs.Field.{power}
use Rattle.ark_bit_reversed.specs.Blocks.{IsPowerOfTwo, element_of}
use Rattle.ark_bit_reversed.proofs.Tables.{half_of_power, power_of_few, power_of_square, one_root, next_roots, joined_roots}
use Rattle.ark_bit_reversed.proofs.table.+fill.Goals as goal

pub fill-requires : goal.fill-requires
fill-requires g t c κs within =
    let K = g.F.Field.field in
    let n = length c.args.roots.now in
    let low = c.split_at_mut-low.ensures.front_len in
    let h = half_of_power n c.requires.size c.if-half-eq0.false in (
      omega arith,
      (
        search rules,
        (
          subst IsPowerOfTwo (sym low) h.0,
          ap₂ (power K) (g.met.F.Field.mul_law _ _ _ c.mul.ensures) low
              ∙ power_of_square K g.met.F.Field.field_laws c.args.root (n / 2)
              ∙ ap (power K c.args.root) (sym h.1)
              ∙ c.requires.root,
        ),
      ),
    )

pub multiply_each-requires : goal.multiply_each-requires
multiply_each-requires g t c =
    let h = half_of_power (length c.args.roots.now) c.requires.size c.if-half-eq0.false in
    omega (arith, h.1, c.split_at_mut-low.ensures.front_len, c.split_at_mut-low.ensures.back_len, c.fill.ensures.len)

pub returns-then-half-eq0-clause-roots : goal.returns-then-half-eq0-clause-roots
returns-then-half-eq0-clause-roots g t c =
    let K = g.F.Field.field in
    let one = power_of_few (length c.args.roots.now) c.requires.size c.if-half-eq0.true in
    one_root K g.met.F.Field.field_laws _ (length-set c.args.roots.now 0 c.one.result ∙ one)
    (get_or-set_same c.args.roots.now 0 c.one.result K.zero (omega (arith, one)) ∙ c.one.ensures ∙ g.met.F.Field.one_law)

pub returns-else-half-eq0-clause-roots : goal.returns-else-half-eq0-clause-roots
returns-else-half-eq0-clause-roots g t c =
    let K = g.F.Field.field in
    let h = half_of_power (length c.args.roots.now) c.requires.size c.if-half-eq0.false in
    let low = c.fill.new.roots in
    let len : length low ≡ length c.args.roots.now / 2 = c.fill.ensures.len ∙ c.split_at_mut-low.ensures.front_len in
    joined_roots K g.met.F.Field.field_laws low c.multiply_each.new.items c.args.root
    (omega (arith, len, h.1, c.multiply_each.ensures.len, c.split_at_mut-low.ensures.back_len))
    c.multiply_each.ensures.products
    c.fill.ensures.roots
    (λ i l.
    ap (λ t. element_of K low (t + i)) c.fill.ensures.len
    ∙ c.fill.ensures.next i (subst (λ t. i < t) c.fill.ensures.len l)
    ∙ ap (K.times (element_of K low i)) (g.met.F.Field.mul_law _ _ _ c.mul.ensures))
    (omega (arith, len, c.if-half-eq0.false))

pub returns-else-half-eq0-clause-next : goal.returns-else-half-eq0-clause-next
returns-else-half-eq0-clause-next g t c = λ i l.
    let h = half_of_power (length c.args.roots.now) c.requires.size c.if-half-eq0.false in
    next_roots g.F.Field.field g.met.F.Field.field_laws c.fill.new.roots c.multiply_each.new.items c.args.root
    (omega (arith, h.1, c.fill.ensures.len, c.split_at_mut-low.ensures.front_len, c.multiply_each.ensures.len, c.split_at_mut-low.ensures.back_len))
    c.multiply_each.ensures.products
    (length c.args.roots.now) i
    (omega (arith, h.1, c.fill.ensures.len, c.split_at_mut-low.ensures.front_len))
    l
