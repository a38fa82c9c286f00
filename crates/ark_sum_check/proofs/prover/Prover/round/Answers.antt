use Rattle.std.proofs.Common.{◌≡◌, ◌-◌, [], ◌∷◌, None, length, max, not, sym, ap, ap₂, subst, ◌∙◌, arith}
use Rattle.ark_math.specs.Univariate.{of_list}
use Rattle.std.proofs.lemmas.Result.{IfOk-weaker}
use Rattle.ark_sum_check.specs.Cube.{degree_of, product_of}
use Rattle.ark_sum_check.specs.Provers.{sum_of, variables_of}
use Rattle.ark_sum_check.specs.Rounds.{IsTrueRound}
use Rattle.ark_sum_check.proofs.Factors.{longest-all, none_seen, round_seen, sum_seen, summed, summed-two}
use Rattle.ark_sum_check.proofs.prover.Prover.round.Goals as goal

pub returns-clause-truth : goal.returns-clause-truth
returns-clause-truth g c =
    let K = g.F.Field.field in
    let vs = c.self.inside.tables.items in
    let bs = c.self.inside.addends in
    let n = c.self.inside.num_vars in
    let p = c.args.self.now in
    let d = c.degree.result in
    IfOk-weaker c.round_of_sum.result
    (λ values. IsTrueRound K d (n - 1) (summed K c.deref-2.result.now bs) values.items)
    (λ values. IsTrueRound K (max 1 (degree_of (sum_of K p))) (variables_of p - 1) (sum_of K p) values.items)
    (λ values h. round_seen K vs bs n p d values.items c.self.view_is c.degree.ensures.degree
    (subst (λ us. IsTrueRound K d (n - 1) (summed K us bs) values.items) c.deref-2.ensures.value h))
    (c.round_of_sum.ensures.truth (n - 1) c.half-half.ensures.power)

pub returns-then-len-eq2-clause-truth : goal.returns-then-len-eq2-clause-truth
returns-then-len-eq2-clause-truth g c =
    let K = g.F.Field.field in
    let vs = c.self.inside.tables.items in
    let bs = c.self.inside.addends in
    let n = c.self.inside.num_vars in
    let p = c.args.self.now in
    let left = c.deref.result.now in
    let right = c.deref-then-len-eq2.result.now in
    let s = product_of K (of_list K left ∷ of_list K right ∷ []) in
    let count : length vs ≡ 2 = omega (arith, c.len.ensures, c.if-len-eq2.true, c.self.inside.tables.ok) in
    let none : bs ≡ None = none_seen bs (c.is_none.ensures ∙ ap not c.if-is_none.true) in
    let same : summed K vs bs ≡ s =
    ap (summed K vs) none
    ∙ summed-two K vs c.index.result.now c.index-then-len-eq2.result.now count c.index.ensures c.index-then-len-eq2.ensures
    ∙ ap₂ (λ x y. product_of K (of_list K x ∷ of_list K y ∷ [])) (sym c.deref.ensures.value) (sym c.deref-then-len-eq2.ensures.value) in
    let two : degree_of (sum_of K p) ≡ 2 = ap degree_of (sym (sum_seen K vs bs n p c.self.view_is) ∙ same) ∙ longest-all K 2 in
    let degree : 2 ≡ max 1 (degree_of (sum_of K p)) = omega (arith, two) in
    IfOk-weaker c.round_of_two.result
    (λ values. IsTrueRound K 2 (n - 1) s values.items)
    (λ values. IsTrueRound K (max 1 (degree_of (sum_of K p))) (variables_of p - 1) (sum_of K p) values.items)
    (λ values h. round_seen K vs bs n p 2 values.items c.self.view_is degree (subst (λ t. IsTrueRound K 2 (n - 1) t values.items) (sym same) h))
    (c.round_of_two.ensures.truth (n - 1) c.half-half.ensures.power)
