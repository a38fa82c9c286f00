use Rattle.std.proofs.Common.{◌≡◌, [], ◌∷◌, ◌++◌, refl, sym, ap, subst, ◌∙◌}
use Rattle.ark_math.specs.Field.{natural}
use Rattle.ark_math.specs.Univariate.{of_list}
use Rattle.ark_sum_check.specs.Cube.{product_of, round_value}
use Rattle.ark_sum_check.proofs.TrueRounds.{AreFirst, AreFirst-none, AreFirst-push, AreFirst-round, natural-one, round_value-bound, round_value-side_one, round_value-side_zero}
use Rattle.ark_sum_check.proofs.pairs.round_of_two.Goals as goal

pub returns-clause-truth : goal.returns-clause-truth
returns-clause-truth g c = λ m power.
    let K = g.F.Field.field in
    let N = g.met.F.Field.field_laws in
    let ts = product_of K (of_list K c.args.left.now ∷ of_list K c.args.right.now ∷ []) in
    let h = c.args.half in
    let sums = c.sums_of_two-zero.result in
    let zero : sums.0 ≡ round_value K m ts (natural K 0) = c.sums_of_two-zero.ensures.zero ∙ round_value-side_zero K N m h ts power in
    let one : sums.1 ≡ round_value K m ts (natural K 1) =
    c.sums_of_two-zero.ensures.one ∙ round_value-side_one K N m h ts power ∙ sym (ap (round_value K m ts) (natural-one K N)) in
    let two : sums.2 ≡ round_value K m ts (natural K 2) = c.sums_of_two-zero.ensures.two ∙ round_value-bound K N m h ts (natural K 2) power in
    AreFirst-round K m ts 2 3 _ refl
    (subst (AreFirst K m ts 3)
    (sym (c.in_ok-push-3.ensures.items ∙ ap (λ vs. vs ++ sums.2 ∷ []) (c.in_ok-push-2.ensures.items ∙ ap (λ vs. vs ++ sums.1 ∷ []) (c.in_ok-push.ensures.items ∙ ap (λ vs. vs ++ sums.0 ∷ []) c.in_ok-values.ensures.items))))
    (AreFirst-push K m ts 2 ([] ++ sums.0 ∷ [] ++ sums.1 ∷ []) sums.2 (AreFirst-push K m ts 1 ([] ++ sums.0 ∷ []) sums.1 (AreFirst-push K m ts 0 [] sums.0 (AreFirst-none K m ts) zero) one) two))
