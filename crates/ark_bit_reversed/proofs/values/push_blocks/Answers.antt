use Rattle.std.proofs.Common.{◌≡◌, ◌+◌, ◌-◌, ◌*◌, ◌<◌, ◌≤◌, inl, inr, List, length, take, sym, ap, ◌∙◌, arith}
use Rattle.std.proofs.lemmas.Bool.{cases_lt}
use Rattle.std.proofs.lemmas.List.{get_or-take, length-take, take-take}
use Rattle.ark_math.specs.Univariate.{of_list, value_below}
use Rattle.ark_bit_reversed.proofs.values.push_blocks.Goals as goal

front_kept : {X : Type 0} (a b c : List X) → take (length a) b ≡ a → take (length b) c ≡ b → take (length a) c ≡ a
front_kept a b c p q =
    let few : length a ≤ length b = omega (arith, ap length p, length-take (length a) b) in
    sym (take-take (length a) (length b) c few) ∙ ap (take (length a)) q ∙ p

pub returns-in_err-push_block-clause-before : goal.returns-in_err-push_block-clause-before
returns-in_err-push_block-clause-before g c =
    front_kept c.args.values.now.items c.loop-block.values.items c.push_block.new.values.items c.loop-block.invariant.before c.in_err-push_block.ensures.before

pub loop-block-preserved : goal.loop-block-preserved
loop-block-preserved g c =
    let K = g.F.Field.field in
    let v = c.loop-block.invariant in
    let d = c.in_ok-push_block.ensures in
    let len = c.args.len in
    let start = c.loop-block.block * len in
    let old = c.loop-block.values.items in
    let new = c.push_block.new.values.items in
    let coeffs = of_list K c.args.coeffs.now in
    let next : (c.loop-block.block + 1) * len ≡ start + len = omega arith in
    record {
      before = front_kept c.args.values.now.items old new v.before d.before;
      len = d.len ∙ ap (λ t. t + len) v.len ∙ sym next;
      done = λ x R known i l. elim (cases_lt i start) [
        | inl before ↦
            let inside : i < length old = omega (arith, before, v.len) in
            sym (get_or-take (length old) new i K.zero inside) ∙ ap (λ t. of_list K t i) d.before ∙ v.done x R known i before
        | inr past ↦
            let k = i - start in
            let place : start + k ≡ i = omega (arith, past) in
            let there : length old + k ≡ i = omega (arith, place, v.len) in
            ap (of_list K new) (sym there)
            ∙ d.values x R k (omega (arith, l, next, place))
            ∙ ap (λ t. value_below K (len + len) coeffs (x t)) place
      ];
    }
