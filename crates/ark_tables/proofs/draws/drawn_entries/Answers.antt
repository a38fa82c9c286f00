use Rattle.std.proofs.Common.{◌+◌, ◌<◌, ◌^◌, All, length, subst, sym, ap, ◌∙◌, arith, true≢false}
use Rattle.std.proofs.lemmas.List.{length_push}
use Rattle.std.proofs.lemmas.List.Elements.{All-push}
use Rattle.ark_math.specs.Univariate.{IsBelow}
use Rattle.ark_math_variables.proofs.Polynomials.Tables.{pairs_below, sparse_below}
use Rattle.ark_tables.proofs.SparseTables.{no_more_entries}
use Rattle.ark_tables.proofs.draws.drawn_entries.Goals as goal

pub loop-preserved : goal.loop-preserved
loop-preserved g c =
    let h = c.loop.invariant in
    let es = c.loop.entries.items in
    let more = c.in_ok-push.ensures.items in (
      ap length more ∙ length_push es _ ∙ ap (λ n. n + 1) h.0,
      subst (All (λ p. p.0 < 2 ^ c.args.num_vars)) (sym more) (All-push (λ p. p.0 < 2 ^ c.args.num_vars) es _ h.1 c.in-Some.ensures.below),
      λ none. absurd (true≢false (c.in-Some.ensures.spent none)),
    )

pub returns-clause-within : goal.returns-clause-within
returns-clause-within g c =
    let K = g.F.Field.field in
    let N = g.met.F.Field.field_laws in
    let h = c.in_ok-gathered_terms.ensures in
    sparse_below K N (2 ^ c.args.num_vars) c.in_ok-gathered_terms.field-0.items h.sparse (subst (IsBelow K (2 ^ c.args.num_vars)) (sym h.sum) (pairs_below K N (2 ^ c.args.num_vars) c.loop.entries.items c.loop.invariant.1))

pub returns-clause-count : goal.returns-clause-count
returns-clause-count g c =
    let K = g.F.Field.field in
    let h = c.in_ok-gathered_terms.ensures in
    let few = no_more_entries K g.met.F.Field.field_laws c.in_ok-gathered_terms.field-0.items c.loop.entries.items h.sparse h.sum in
    let all = c.loop.invariant.0 in
    let end = c.loop.auto.counter-end in
    omega (arith, few, all, end)
