use Rattle.std.proofs.Common.{◌≡◌, max, length, refl, sym, subst, ◌∙◌, rules, true≢false}
use Rattle.std.proofs.lemmas.Bool.{eq-eqb, eqb-true}
use Rattle.ark_word_sums.proofs.AddendFronts.{BeginOfTables, none_given, none_left, some_left, split_given, tables_all, tables_bad, tables_more, tables_stuck}
use Rattle.ark_word_sums.proofs.addends.are_addends.Goals as goal

pub returns-in_default : goal.returns-in_default
returns-in_default g c =
    let f = g.F.WordElement.spelled in (
      (λ e. absurd (true≢false (sym e))),
      (λ p. absurd
          (tables_stuck f c.args.count c.args.words.now c.loop-rest.rest.now c.loop-rest.longest c.loop-rest.invariant
          (some_left c.loop-rest.rest.now c.is_empty.result c.is_empty.ensures c.loop-rest-test.true)
          (none_given f g.F.WordElement.WIDTH _ g.met.F.WordElement.spelled_law c.WIDTH.result c.WIDTH.ensures c.loop-rest.rest.now (c.in_default.ensures.none refl)) p.0 p.1)),
    )

pub returns-then-not-are_below : goal.returns-then-not-are_below
returns-then-not-are_below g c =
    let f = g.F.WordElement.spelled in
    let is =
    split_given f g.F.WordElement.WIDTH _ g.met.F.WordElement.spelled_law c.WIDTH.result c.WIDTH.ensures c.loop-rest.rest.now
    c.in-Some.field-0-0.now c.in-Some.factors.now c.in-Some.next.now c.in-Some.ensures.width c.in-Some.ensures.words in (
      (λ e. absurd (true≢false (sym e))),
      (λ p. absurd
          (tables_bad f c.args.count c.args.words.now c.loop-rest.rest.now c.loop-rest.longest c.loop-rest.invariant
          c.in-Some.field-0-0.now c.in-Some.factors.now c.in-Some.next.now is c.args.degree
          (λ all. true≢false (sym (c.are_below.ensures.1 all) ∙ c.if-not-are_below.true)) p.0 p.1 p.2)),
    )

pub loop-rest-preserved : goal.loop-rest-preserved
loop-rest-preserved g c =
    let f = g.F.WordElement.spelled in
    let is =
    split_given f g.F.WordElement.WIDTH _ g.met.F.WordElement.spelled_law c.WIDTH.result c.WIDTH.ensures c.loop-rest.rest.now
    c.in-Some.field-0-0.now c.in-Some.factors.now c.in-Some.next.now c.in-Some.ensures.width c.in-Some.ensures.words in
    let greater : c.max-longest.result ≡ max c.loop-rest.longest (length c.in-Some.factors.now) = search rules in
    subst (BeginOfTables f c.args.count c.args.words.now c.in-Some.next.now) (sym greater)
    (tables_more f c.args.count c.args.words.now c.loop-rest.rest.now c.loop-rest.longest c.loop-rest.invariant
    c.in-Some.field-0-0.now c.in-Some.factors.now c.in-Some.next.now is (c.are_below.ensures.0 c.if-not-are_below.false))

pub returns : goal.returns
returns g c =
    let end = none_left c.loop-rest.rest.now c.is_empty.result c.is_empty.ensures c.loop-rest-test.false in
    let all = tables_all g.F.WordElement.spelled c.args.count c.args.words.now c.loop-rest.rest.now c.loop-rest.longest c.loop-rest.invariant c.args.degree end in (
      (λ e. all.0 (eqb-true c.loop-rest.longest c.args.degree e)),
      (λ p. eq-eqb c.loop-rest.longest c.args.degree (all.1 p)),
    )
