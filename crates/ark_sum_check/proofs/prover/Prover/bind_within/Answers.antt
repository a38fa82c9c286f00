use Rattle.std.proofs.Common.{◌≡◌, ◌-◌, ◌*◌, ◌/◌, ◌^◌, ◌<◌, [], length, refl, sym, subst, ap, ◌∙◌, arith}
use Rattle.std.specs.Prelude.{All}
use Rattle.std.proofs.lemmas.List.Elements.{All-weaker}
use Rattle.ark_sum_check.specs.Cube.{bound_to, sum_with}
use Rattle.ark_sum_check.specs.Embedded.{embedded_sum}
use Rattle.ark_sum_check.specs.Lists.{FitTables, as_tables}
use Rattle.ark_sum_check.proofs.Embeddings.{summed-embedded}
use Rattle.ark_sum_check.proofs.Factors.{sum_of-summed, sum_seen}
use Rattle.ark_sum_check.proofs.Products.{half_whole}
use Rattle.ark_sum_check.proofs.prover.Prover.bind_within.Goals as goal

pub bound_tables-requires : goal.bound_tables-requires
bound_tables-requires g c =
    let n = c.self.inside.num_vars in
    let some : 0 < n = let v = ap (λ p. p.variables) c.self.view_is in omega (arith, c.requires) in
    let whole : 2 ^ n ≡ 2 * 2 ^ (n - 1) = half_whole n (2 ^ (n - 1)) some refl in
    subst (All (λ t. length t.items ≡ 2 * (length t.items / 2))) (sym c.deref.ensures.value)
    (All-weaker (λ t. length t.items ≡ 2 ^ n) (λ t. length t.items ≡ 2 * (length t.items / 2)) (λ t e. omega (arith, e, whole)) c.self.inside.tables.items c.self.invariant.whole)

pub returns-clause-sum : goal.returns-clause-sum
returns-clause-sum g c =
    let K = g.F.Field.field in
    let E = g.E.Field.field in
    let e = g.E.ExtensionOf.within in
    let x = c.args.challenge in
    let n = c.self.inside.num_vars in
    let vs = c.self.inside.tables.items in
    let bs = c.self.inside.addends in
    let us = c.in_ok-tables.tables.items in
    let cs = c.in_ok-addends.addends in
    let slice = c.deref.ensures.value in
    sum_of-summed E us cs (n - 1)
    ∙ summed-embedded K E e g.met.E.ExtensionOf.embeds x vs bs us cs (c.in_ok-tables.ensures.count ∙ ap length slice)
    (c.in_ok-tables.ensures.values ∙ ap (λ ts. bound_to E x (embedded_sum e (sum_with K (as_tables K ts) []))) slice)
    c.in_ok-addends.ensures.sum
    ∙ ap (λ s. bound_to E x (embedded_sum e s)) (sum_seen K vs bs n c.args.self.now c.self.view_is)

pub invariant_of-result : goal.invariant_of-result
invariant_of-result g c =
    let n = c.self.inside.num_vars in
    let vs = c.self.inside.tables.items in
    let cs = c.in_ok-addends.addends in
    let slice = c.deref.ensures.value in
    let some : 0 < n = let v = ap (λ p. p.variables) c.self.view_is in omega (arith, c.requires) in
    let whole : 2 ^ n ≡ 2 * 2 ^ (n - 1) = half_whole n (2 ^ (n - 1)) some refl in
    let all : All (λ t. length t.items ≡ 2 * 2 ^ (n - 1)) c.deref.result.now =
    subst (All (λ t. length t.items ≡ 2 * 2 ^ (n - 1))) (sym slice)
    (All-weaker (λ t. length t.items ≡ 2 ^ n) (λ t. length t.items ≡ 2 * 2 ^ (n - 1)) (λ t e. e ∙ whole) vs c.self.invariant.whole) in
    record {
      whole = c.in_ok-tables.ensures.len (2 ^ (n - 1)) all;
      few = omega (arith, c.self.invariant.few);
      within = subst (λ k. FitTables k cs) (sym (c.in_ok-tables.ensures.count ∙ ap length slice)) (c.in_ok-addends.ensures.within (length vs) c.self.invariant.within);
    }
