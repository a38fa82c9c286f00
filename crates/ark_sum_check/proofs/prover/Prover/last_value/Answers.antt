use Rattle.std.proofs.Common.{◌≡◌, ◌<◌, ◌^◌, ◌++◌, ◌∷◌, [], get_or, length, length-append, ap, subst, ◌∙◌, arith}
use Rattle.std.proofs.lemmas.List.{get_or_read}
use Rattle.ark_math.specs.Univariate.{of_list}
use Rattle.ark_math.proofs.Lists.Lists.{item_of}
use Rattle.ark_sum_check.specs.Cube.{combined, sum_value}
use Rattle.ark_sum_check.specs.Lists.{FitTables, as_sum}
use Rattle.ark_sum_check.specs.Provers.{addends_of}
use Rattle.ark_sum_check.proofs.Factors.{first_values-push, last_summed, sum_seen}
use Rattle.ark_sum_check.proofs.prover.Prover.last_value.Goals as goal

pub index-requires : goal.index-requires
index-requires g c =
    let vs = c.self.inside.tables.items in
    let n = c.self.inside.num_vars in
    let u = c.table-item.result in
    let j = c.loop-table.table-index in
    let items = c.deref-table-items.ensures.value in
    let none : n ≡ 0 = ap (λ p. p.variables) c.self.view_is ∙ c.requires in
    let one : 2 ^ n ≡ 1 = ap (λ k. 2 ^ k) none in
    let at : u ≡ get_or vs j u = c.table-item.is ∙ ap (λ us. get_or us j u) items in
    let whole : length u.items ≡ 2 ^ n = item_of (λ t. length t.items ≡ 2 ^ n) vs j u c.self.invariant.whole (omega (arith, c.loop-table-test.true, ap length items)) at in
    omega (arith, u.ok)

pub loop-table-preserved : goal.loop-table-preserved
loop-table-preserved g c =
    let K = g.F.Field.field in
    let vs = c.self.inside.tables.items in
    let n = c.self.inside.num_vars in
    let u = c.table-item.result in
    let j = c.loop-table.table-index in
    let xs = c.loop-table.values.items in
    let v = c.loop-table.invariant in
    let items = c.deref-table-items.ensures.value in
    let y = c.index.result.now in
    let none : n ≡ 0 = ap (λ p. p.variables) c.self.view_is ∙ c.requires in
    let one : 2 ^ n ≡ 1 = ap (λ k. 2 ^ k) none in
    let inside : j < length vs = omega (arith, c.loop-table-test.true, ap length items) in
    let at : u ≡ get_or vs j u = c.table-item.is ∙ ap (λ us. get_or us j u) items in
    let whole : length u.items ≡ 2 ^ n = item_of (λ t. length t.items ≡ 2 ^ n) vs j u c.self.invariant.whole inside at in
    let pushed : c.push.new.self.items ≡ xs ++ y ∷ [] = c.in_ok-push.ensures.items in
    record {
      count = omega (arith, ap length pushed, length-append xs (y ∷ []), v.count);
      values = λ i l.
          ap (λ us. of_list K us i) pushed
          ∙ first_values-push K g.met.F.Field.field_laws vs xs j u y v.count inside at (get_or_read u.items 0 y (omega arith) c.index.ensures K.zero) v.values i l;
    }

pub sum_of_products-requires : goal.sum_of_products-requires
sum_of_products-requires g c =
    let vs = c.self.inside.tables.items in
    let bs = c.self.inside.addends in
    let v = c.loop-table.invariant in
    let count : length vs ≡ length c.deref.result.now = omega (arith, ap length c.deref.ensures.value, ap length c.deref-table-items.ensures.value, v.count) in
    subst (λ n. FitTables n bs) count c.self.invariant.within

pub returns-clause-value : goal.returns-clause-value
returns-clause-value g c =
    let K = g.F.Field.field in
    let vs = c.self.inside.tables.items in
    let bs = c.self.inside.addends in
    let xs = c.loop-table.values.items in
    let v = c.loop-table.invariant in
    let all : c.loop-table.table-index ≡ length vs = omega (arith, ap length c.deref-table-items.ensures.value) in
    last_summed K vs bs g.met.F.Field.field_laws xs c.sum_of_products.result (v.count ∙ all)
    (λ i l. v.values i (omega (arith, all)))
    (c.sum_of_products.ensures ∙ ap (λ us. combined K (addends_of K (length us) (as_sum bs)) (of_list K us)) c.deref.ensures.value)
    ∙ ap (λ s. sum_value K s []) (sum_seen K vs bs c.self.inside.num_vars c.args.self.now c.self.view_is)
