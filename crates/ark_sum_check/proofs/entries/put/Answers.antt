use Rattle.std.proofs.Common.{◌≡◌, ◌-◌, set, ap, subst, take, ◌∙◌, arith}
use Rattle.std.proofs.lemmas.List.{get_or_default}
use Rattle.ark_math.specs.Univariate.{added, monomial, of_pairs}
use Rattle.ark_sum_check.proofs.EntryTables.{below_after, below_onto, put_after, put_onto, rising_after, rising_onto}
use Rattle.ark_sum_check.proofs.entries.put.Goals as goal
use Rattle.ark_sum_check.proofs.entries.put.Goals.{else-kept-gt0, then-kept-gt0+else-last-index}

pub returns-then-last-index-clause-sum : goal.returns-then-last-index-clause-sum
returns-then-last-index-clause-sum g c =
    let K = g.F.Field.field in
    let F = g.met.F.Field in
    let ps = c.args.entries.now in
    let k = c.args.kept in
    let w = c.add.result in
    subst (λ i. of_pairs K (take k (set ps (k - 1) (i, w))) ≡ added K (of_pairs K (take k ps)) (monomial K i c.args.value)) c.if-last-index.true
    (put_onto K F.field_laws ps k c.index-entries-kept.result c.args.value w (omega arith) c.requires c.index-entries-kept.is (F.add_law _ _ _ c.add.ensures))

pub returns-then-last-index-clause-below : goal.returns-then-last-index-clause-below
returns-then-last-index-clause-below g c = λ n b h. below_onto n c.args.entries.now c.args.kept (c.args.index, c.add.result) (omega arith) b h

pub returns-clause-sum : goal.returns-clause-sum
returns-clause-sum g c = put_after g.F.Field.field g.met.F.Field.field_laws c.args.entries.now c.args.kept (c.args.index, c.args.value) c.requires

pub returns-clause-below : goal.returns-clause-below
returns-clause-below g c = λ n b h. below_after n c.args.entries.now c.args.kept (c.args.index, c.args.value) c.requires b h

pub returns-then-last-index-clause-rising : goal.returns-then-last-index-clause-rising
returns-then-last-index-clause-rising g c = λ h most.
    rising_onto c.args.entries.now c.args.kept (c.args.index, c.add.result) c.index-entries-kept.result (omega arith) c.requires c.index-entries-kept.is c.if-last-index.true h

pub returns-clause-rising : goal.returns-clause-rising
returns-clause-rising g c = λ h most.
    let ps = c.args.entries.now in
    let j = c.args.kept - 1 in
    rising_after ps c.args.kept (c.args.index, c.args.value) c.requires
    (elim c.if-kept-gt0.branch [
      | then-kept-gt0+else-last-index w ↦ λ d some e.
          w.if-last-index.false (ap (λ p. p.0) (w.index-entries-kept.is ∙ get_or_default ps j w.index-entries-kept.result d (omega arith)) ∙ e)
      | else-kept-gt0 w ↦ λ d some e. absurd (omega arith)
    ])
    most h
