use Rattle.std.proofs.Common.{◌<◌, length, subst, ap, sym, ◌∙◌, length-set}
use Rattle.std.proofs.lemmas.List.{length-replicate}
use Rattle.ark_math.specs.Univariate.{of_list}
use Rattle.ark_math_polynomials.proofs.Polynomials.UnivariateLists.{of_list-replicate}
use Rattle.ark_math.proofs.Lists.Lists.{item_of}
use Rattle.ark_tables.proofs.HeldTables.{listed_more}
use Rattle.ark_tables.proofs.windows.values_of_entries.Goals as goal

pub loop-i-init : goal.loop-i-init
loop-i-init g c =
    let K = g.F.Field.field in
    let e = c.in_ok-values.ensures in
    (ap length e ∙ length-replicate c.args.len K.zero, ap (of_list K) e ∙ of_list-replicate K c.args.len)

pub loop-i-preserved : goal.loop-i-preserved
loop-i-preserved g c =
    let h = c.loop-i.invariant in
    let e = c.index-entries-i.result in
    let within : e.0 < c.args.len = item_of (λ p. p.0 < c.args.len) c.args.entries.now c.loop-i.i e c.requires.within c.loop-i-test.true c.index-entries-i.is in (
      length-set c.loop-i.values.items e.0 e.1 ∙ h.0,
      listed_more g.F.Field.field g.met.F.Field.field_laws c.args.entries.now c.loop-i.values.items c.loop-i.i e c.requires.sparse h.1 c.loop-i-test.true c.index-entries-i.is (subst (λ n. e.0 < n) (sym h.0) within),
    )
