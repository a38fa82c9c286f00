use Rattle.std.proofs.Common.{◌≡◌, ◌+◌, ◌*◌, ◌/◌, ◌<◌, ◌≤◌, ◌++◌, ℕ, inr, length, ap, sym, subst, ◌∙◌, arith}
use Rattle.std.proofs.lemmas.List.{length-append}
use Rattle.ark_math.specs.Univariate.{of_list, value_below}
use Rattle.ark_bit_reversed.proofs.Joined.{outside_item}
use Rattle.ark_bit_reversed.proofs.Levels.{block_more}
use Rattle.ark_bit_reversed.proofs.forward.halve_blocks.Goals as goal

pub loop-r-preserved : goal.loop-r-preserved
loop-r-preserved g c =
    let K = g.F.Field.field in
    let v = c.loop-r.invariant in
    let q = c.loop-r.r in
    let h = c.args.half in
    let start = c.args.start in
    let roots = c.args.roots.now in
    let old = c.args.values.now in
    let e = c.split_at_mut-before.ensures in
    let o = c.split_at_mut-own.ensures in
    let before = c.split_at_mut-before.result.0.now in
    let own = c.split_at_mut-own.result.0.now in
    let after = c.split_at_mut-own.result.1.now in
    let new = c.halve.new.values in
    let made : length new ≡ 2 * h = c.halve.ensures.len ∙ o.front_len in
    let parts : c.loop-r.values ≡ before ++ (own ++ after) = e.value ∙ ap (λ t. before ++ t) o.value in
    let share : length own / 2 ≡ h = omega (arith, o.front_len) in
    let rest : (k : ℕ) → 2 * h * q ≤ k → of_list K (before ++ (own ++ after)) k ≡ of_list K old k = λ k l. ap (λ t. of_list K t k) (sym parts) ∙ v.rest k l in
    record {
      len = omega (arith, length-append before (new ++ after), length-append new after, made, e.front_len, e.back_len, o.back_len, v.len);
      done = λ x are. block_more K g.met.F.Field.field_laws (length roots + length roots) x are.reversed start h q old before own after new e.front_len o.front_len made rest
          (λ r i j l two few. ap (λ t. of_list K t (h * (2 * r + i) + j)) (sym parts) ∙ v.done x are r i j l two few)
          (λ i j two few. subst (λ t. of_list K new (t * i + j) ≡ value_below K 2 (λ k. of_list K own (t * k + j)) (x (2 * (start + q) + i))) share
          (c.halve.ensures.values x are i j two (subst (λ t. j < t) (sym share) few)));
      rest = λ k l.
          let next : 2 * h * (q + 1) ≡ 2 * h * q + 2 * h = omega arith in
          outside_item K.zero before own after new (2 * h * q) (2 * h) e.front_len o.front_len made k (inr (subst (λ t. t ≤ k) next l)) ∙ rest k (omega (arith, l, next));
    }
