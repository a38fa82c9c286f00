use Rattle.std.proofs.Common.{◌≡◌, ℕ, ◌+◌, ◌*◌, ◌-◌, ◌^◌, ◌<◌, ◌≤◌, ◌++◌, length, take, drop, replicate, sym, ap, ap₂, ◌∙◌, subst, arith}
use Rattle.std.proofs.lemmas.List.{get_or-drop, length-append}
use Rattle.ark_math.specs.Univariate.{of_list, value_below}
use Rattle.ark_math.proofs.Lists.Lists.{written_back}
use Rattle.ark_bit_reversed.proofs.Evaluations.{value_at_block}
use Rattle.ark_bit_reversed.proofs.Callers.Padded.{item_behind, item_of_back, item_of_front, log_is, padded_behind}
use Rattle.ark_bit_reversed.proofs.values.push_block.Goals as goal

pub overflow_add-start : goal.overflow_add-start
overflow_add-start g c = omega (arith, c.requires.room, c.len-start.ensures)

pub forward-requires-clause-size : goal.forward-requires-clause-size
forward-requires-clause-size g c =
    let e = c.ilog2.ensures in
    let s = c.split_at_mut-before.ensures in
    let len : length c.fold_in.new.low ≡ c.args.len = omega (arith, c.fold_in.ensures.len, s.back_len, c.as_mut_slice.ensures.len, c.in_ok-resize.ensures.len) in
    len ∙ log_is c.args.len c.ilog2.result c.requires.power e.power_le e.next_power_gt

pub returns-clause-values : goal.returns-clause-values
returns-clause-values g c = λ x R i l.
    let K = g.F.Field.field in
    let N = g.met.F.Field.field_laws in
    let e = c.ilog2.ensures in
    let s = c.split_at_mut-before.ensures in
    let len = c.args.len in
    let b = c.args.block in
    let roots = c.args.roots.now in
    let coeffs = c.args.coeffs.now in
    let old = c.args.values.now.items in
    let low = c.split_at.result.0.now in
    let high = c.split_at.result.1.now in
    let before = c.split_at_mut-before.result.0.now in
    let added = c.split_at_mut-before.result.1.now in
    let folded = c.fold_in.new.low in
    let new = c.forward.new.values in
    let all = c.resize.new.self in
    let n = length old in
    let start = c.len-start.result in
    let m = 2 ^ c.ilog2.result in
    let zeros = start + len - c.extend_from_slice.new.self.len in
    let many : len ≡ m = log_is len c.ilog2.result c.requires.power e.power_le e.next_power_gt in
    let behind : length added ≡ len = omega (arith, s.back_len, c.as_mut_slice.ensures.len, c.in_ok-resize.ensures.len) in
    let front : length before ≡ n = omega (arith, s.front_len, c.len-start.ensures) in
    let whole : length (before ++ new) ≡ all.len = omega (arith, length-append before new, c.forward.ensures.len, c.fold_in.ensures.len, behind, s.front_len, c.in_ok-resize.ensures.len) in
    let back = written_back (before ++ new) (drop (length (before ++ new)) all.items) all.len whole in
    let short : length low ≤ len = omega (arith, c.split_at.ensures.front_len, c.min.ensures) in
    let lows : (j : ℕ) → j < len → of_list K added j ≡ of_list K coeffs j = λ j few.
    s.by_index.1 j K.zero
    ∙ ap (λ t. of_list K t (start + j)) (c.as_mut_slice.ensures.value ∙ c.in_ok-resize.ensures.items ∙ ap (λ t. take (start + len) t ++ replicate zeros c.zero.result) c.in_ok-extend_from_slice.ensures.items)
    ∙ padded_behind K old low start (start + len) zeros c.zero.result (omega (arith, c.len-start.ensures)) (omega (arith, short)) (c.zero.ensures ∙ g.met.F.Field.zero_law) j
    ∙ ap (λ t. of_list K t j) (c.split_at.ensures.front ∙ ap (λ t. take t coeffs) c.min.ensures)
    ∙ item_of_front K coeffs len j few in
    let highs : (j : ℕ) → of_list K high j ≡ of_list K coeffs (len + j) = λ j.
    ap (λ t. of_list K t j) c.split_at.ensures.back
    ∙ get_or-drop c.min.result coeffs j K.zero
    ∙ ap (λ t. of_list K coeffs (t + j)) c.min.ensures
    ∙ item_of_back K coeffs len j in
    let each : (j : ℕ) → j < len → of_list K folded j ≡ K.plus (of_list K coeffs j) (K.times (x b) (of_list K coeffs (len + j))) = λ j few.
    c.fold_in.ensures.sums x R j (subst (λ t. j < t) (sym behind) few)
    ∙ ap₂ (λ p q. K.plus p (K.times (x b) q)) (lows j few) (highs j) in
    ap (λ t. of_list K t (n + i)) back
    ∙ item_behind K before new n front i
    ∙ c.forward.ensures.values x R i (subst (λ t. i < t) many l)
    ∙ ap (λ t. value_below K t (of_list K folded) (x (b * t + i))) (sym many)
    ∙ value_at_block K N (length roots + length roots) len b x (of_list K coeffs) (of_list K folded) R.reversed c.requires.power c.requires.within each i l
