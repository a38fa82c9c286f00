use Rattle.std.proofs.Common.{◌≡◌, ℕ, ◌+◌, ◌*◌, ◌-◌, ◌<◌, ◌≤◌, ◌^◌, length, drop, length-take-le, length-drop, sym, ap, ap₂, ◌∙◌, subst, arith}
use Rattle.std.proofs.lemmas.List.{get_or-take}
use Rattle.ark_math.specs.Field.{minus}
use Rattle.ark_math.specs.Univariate.{of_list, product, value_below}
use Rattle.ark_math.proofs.Lists.Lists.{written_back}
use Rattle.ark_bit_reversed.specs.Blocks.{AreTables, AreInverseRoots, AreRoots, AreValuesFrom, element_of, size_of}
use Rattle.ark_bit_reversed.proofs.Evaluations.{halved, turned, turned_values, upper_values}
use Rattle.ark_bit_reversed.proofs.Callers.Padded.{item_from, log_is}
use Rattle.ark_bit_reversed.proofs.Callers.Splits.{value_of_same}
use Rattle.ark_bit_reversed.proofs.table.BlockRoots.twice_upper_half.Goals as goal

pub backward-requires-clause-size : goal.backward-requires-clause-size
backward-requires-clause-size g c =
    let e = c.ilog2-levels.ensures in
    let made = c.in_ok-turned.ensures.len in
    let from = length-take-le (length c.args.left.now - c.args.half) (drop c.args.half c.args.left.now) (omega (arith, length-drop c.args.half c.args.left.now)) in
    let len : length c.as_mut_slice-items.result.now ≡ c.args.half = omega (arith, made, from, c.requires.left, ap length c.as_mut_slice-items.ensures.value) in
    len ∙ log_is c.args.half c.ilog2-levels.result c.requires.power e.power_le e.next_power_gt

pub forward-requires-clause-size : goal.forward-requires-clause-size
forward-requires-clause-size g c =
    let e = c.ilog2-levels.ensures in
    let made = c.in_ok-turned.ensures.len in
    let from = length-take-le (length c.args.left.now - c.args.half) (drop c.args.half c.args.left.now) (omega (arith, length-drop c.args.half c.args.left.now)) in
    let len : length c.scale_each.new.coeffs ≡ c.args.half = omega (arith, made, from, c.requires.left, ap length c.as_mut_slice-items.ensures.value, c.scale_each.auto.coeffs, c.backward.ensures.len) in
    len ∙ log_is c.args.half c.ilog2-levels.result c.requires.power e.power_le e.next_power_gt

pub returns-clause-values : goal.returns-clause-values
returns-clause-values g c = λ a b d A B below few upper.
    let K = g.F.Field.field in
    let N = g.met.F.Field.field_laws in
    let e = c.ilog2-levels.ensures in
    let levels = c.ilog2-levels.result in
    let half = c.self.inside.half in
    let s = c.args.half in
    let m = 2 ^ levels in
    let left = c.args.left.now in
    let right = c.args.right.now in
    let first = c.in_ok-turned.turned.items in
    let items = c.as_mut_slice-items.result.now in
    let scaled = c.scale_each.new.coeffs in
    let last = c.subtract_from_products.new.items in
    let table = c.args.self.now in
    let x = element_of K table in
    let p = product K a b in
    let own : AreTables K table c.self.inside.inverses.items half = subst (λ t. AreTables K t c.self.inside.inverses.items half) c.self.view_is c.self.invariant in
    let rev = own.roots.reversed in
    let room : s + s ≤ size_of table = c.requires.room in
    let R : AreRoots K x c.deref-2.result.now = subst (AreRoots K x) (sym (c.deref-2.ensures.value ∙ c.self.view_is)) own.roots in
    let I : AreInverseRoots K x c.deref.result.now = subst (AreInverseRoots K x) (sym c.deref.ensures.value) own.inverse in
    let size : s ≡ m = log_is s levels c.requires.power e.power_le e.next_power_gt in
    let from = length-take-le (length left - s) (drop s left) (omega (arith, length-drop s left)) in
    let len : length items ≡ s = omega (arith, c.in_ok-turned.ensures.len, from, c.requires.left, ap length c.as_mut_slice-items.ensures.value) in
    let many : length scaled ≡ s = omega (arith, len, c.scale_each.auto.coeffs, c.backward.ensures.len) in
    let whole : length last ≡ s = omega (arith, many, c.subtract_from_products.ensures.len, c.forward.ensures.len) in
    let back = written_back last (drop (length last) first) c.in_ok-turned.turned.len (omega (arith, whole, len, c.as_mut_slice-items.ensures.len)) in
    -- the products at the second block's elements
    let there : (i : ℕ) → i < m → of_list K items i ≡ value_below K m (turned K N s p) (x (1 * m + i)) = λ i l.
    let inside : i < s = subst (λ t. i < t) (sym size) l in
    let place : s + i ≡ 1 * m + i = omega (arith, size) in
    ap (λ t. of_list K t i) c.as_mut_slice-items.ensures.value
    ∙ c.in_ok-turned.ensures.products i (omega (arith, inside, from, c.requires.left))
    ∙ ap₂ K.times (item_from K left s i (omega (arith, inside, c.requires.left))) (item_from K right s i (omega (arith, inside, c.requires.right)))
    ∙ turned_values K N (size_of table) s x rev c.requires.power room a b left right A B below i inside
    ∙ ap₂ (λ t j. value_below K t (turned K N s p) (x j)) size place in
    -- the coefficients
    let coefficients : (i : ℕ) → i < m → of_list K scaled i ≡ turned K N s p i = λ i l.
    ap (λ t. t i) c.scale_each.ensures
    ∙ N.times_comm _ _
    ∙ ap₂ K.times (c.backward.ensures.coefficients x (turned K N s p) I there i l) c.pow.ensures
    ∙ halved K N half own.half_of levels (turned K N s p i) in
    -- and their values at the first block's elements
    let here : (i : ℕ) → i < s → of_list K c.forward.new.values i ≡ value_below K s (turned K N s p) (x i) = λ i l.
    let place : 0 * m + i ≡ i = omega arith in
    c.forward.ensures.values x R i (subst (λ t. i < t) size l)
    ∙ value_of_same K N m (of_list K scaled) (turned K N s p) (x (0 * m + i)) coefficients
    ∙ ap₂ (λ t j. value_below K t (turned K N s p) (x j)) (sym size) place in
    subst (AreValuesFrom K x 0 s d) (sym back)
    (upper_values K N (size_of table) s x rev c.requires.power room a b left right A B below d last (of_list K c.forward.new.values) few upper here whole (λ i l.
    c.subtract_from_products.ensures.differences i (omega (arith, l, many, c.forward.ensures.len))
    ∙ ap₂ (λ t r. minus K (K.times t r) (of_list K c.forward.new.values i)) (get_or-take s left i K.zero l) (get_or-take s right i K.zero l)))
