use Rattle.std.proofs.Common.{◌≡◌, ◌+◌, ◌*◌, [], ◌∷◌, sym, ap, ap₂, ◌∙◌, arith}
use Rattle.std.proofs.lemmas.List.{get_or_read}
use Rattle.ark_math.specs.Field.{minus, natural}
use Rattle.ark_math.specs.Univariate.{of_list}
use Rattle.ark_sum_check.specs.Cube.{bound_to, product_of, sum_at}
use Rattle.ark_sum_check.proofs.TwoTables.{bound-two, sum_at-two, sum_next}
use Rattle.ark_sum_check.proofs.pairs.sums_of_two.Goals as goal

pub loop-corner-preserved : goal.loop-corner-preserved
loop-corner-preserved g c =
    let K = g.F.Field.field in
    let F = g.met.F.Field in
    let N = F.field_laws in
    let xs = c.args.left.now in
    let ys = c.args.right.now in
    let s = of_list K xs in
    let t = of_list K ys in
    let ts = product_of K (s ∷ t ∷ []) in
    let n = c.loop-corner.corner in
    let v = c.loop-corner.invariant in
    let none : 2 * n ≡ 2 * n + 0 = omega arith in
    let low : c.index-left-corner.result ≡ s (2 * n) = get_or_read xs (2 * n) c.index-left-corner.result (omega arith) c.index-left-corner.is K.zero in
    let high : c.index-left-corner-in-loop-corner.result ≡ s (2 * n + 1) =
    get_or_read xs (2 * n + 1) c.index-left-corner-in-loop-corner.result (omega arith) c.index-left-corner-in-loop-corner.is K.zero in
    let other_low : c.index-right-corner.result ≡ t (2 * n) = get_or_read ys (2 * n) c.index-right-corner.result (omega arith) c.index-right-corner.is K.zero in
    let other_high : c.index-right-corner-in-loop-corner.result ≡ t (2 * n + 1) =
    get_or_read ys (2 * n + 1) c.index-right-corner-in-loop-corner.result (omega arith) c.index-right-corner-in-loop-corner.is K.zero in
    let at_two : c.add.result ≡ K.plus (s (2 * n + 1)) (minus K (s (2 * n + 1)) (s (2 * n))) =
    F.add_law _ _ _ c.add.ensures ∙ ap₂ K.plus high (F.sub_law _ _ _ c.sub.ensures ∙ ap₂ (minus K) high low) in
    let other_at_two : c.add-in-loop-corner.result ≡ K.plus (t (2 * n + 1)) (minus K (t (2 * n + 1)) (t (2 * n))) =
    F.add_law _ _ _ c.add-in-loop-corner.ensures ∙ ap₂ K.plus other_high (F.sub_law _ _ _ c.sub-in-loop-corner.ensures ∙ ap₂ (minus K) other_high other_low) in
    record {
      zero =
          sum_next K N n (λ b. sum_at K ts (2 * b + 0)) c.loop-corner.zero c.mul.result c.add_assign.new.self v.zero
          (F.mul_law _ _ _ c.mul.ensures ∙ ap₂ K.times (low ∙ ap s none) (other_low ∙ ap t none) ∙ sym (sum_at-two K N s t (2 * n + 0)))
          (F.add_assign_law _ _ _ c.add_assign.ensures.after);
      one =
          sum_next K N n (λ b. sum_at K ts (2 * b + 1)) c.loop-corner.one c.mul-in-loop-corner.result c.add_assign-in-loop-corner.new.self v.one
          (F.mul_law _ _ _ c.mul-in-loop-corner.ensures ∙ ap₂ K.times high other_high ∙ sym (sum_at-two K N s t (2 * n + 1)))
          (F.add_assign_law _ _ _ c.add_assign-in-loop-corner.ensures.after);
      two =
          sum_next K N n (sum_at K (bound_to K (natural K 2) ts)) c.loop-corner.two c.mul-in-loop-corner-2.result c.add_assign-in-loop-corner-2.new.self v.two
          (F.mul_law _ _ _ c.mul-in-loop-corner-2.ensures ∙ ap₂ K.times at_two other_at_two ∙ sym (bound-two K N s t n))
          (F.add_assign_law _ _ _ c.add_assign-in-loop-corner-2.ensures.after);
    }
