use Rattle.std.proofs.Common.{◌≡◌, ℕ, ◌+◌, ◌*◌, ◌<◌, get_or, length, sym, ap, ◌∙◌, arith}
use Rattle.ark_math.specs.Field.{minus}
use Rattle.ark_math.specs.Univariate.{nothing, of_list}
use Rattle.ark_math.proofs.Lists.Lists.{item_of}
use Rattle.ark_math_polynomials.proofs.Polynomials.UnivariateLists.{of_list-past}
use Rattle.ark_math_polynomials.proofs.Polynomials.UnivariateLoops.{zipped-begin, zipped-end, zipped-set}
use Rattle.ark_sum_check.specs.Lists.{as_tables}
use Rattle.ark_sum_check.proofs.BoundTables.{past_tables}
use Rattle.ark_sum_check.proofs.Products.{table_is}
use Rattle.ark_sum_check.proofs.sums.take_corner.Goals as goal

pub loop-i-init : goal.loop-i-init
loop-i-init g c =
    let K = g.F.Field.field in
    let t = λ (i b : ℕ). get_or (as_tables K c.args.tables.now) i (nothing K) b in
    let b = c.args.corner in
    record {
      values = zipped-begin K (λ _ y. y) (of_list K c.args.values.now) (λ i. t i (2 * b));
      steps = zipped-begin K (λ _ y. y) (of_list K c.args.steps.now) (λ i. minus K (t i (2 * b + 1)) (t i (2 * b)));
    }

pub line_at-low-requires-clause-within : goal.line_at-low-requires-clause-within
line_at-low-requires-clause-within g c =
    let b = c.args.corner in
    let u = c.index-tables-i.result in
    let inside : 2 * b + 1 < length u.items = item_of (λ t. 2 * b + 1 < length t.items) c.args.tables.now c.loop-i.i u c.requires.within c.loop-i-test.true c.index-tables-i.is in
    let same : length c.deref.result.now ≡ length u.items = ap length c.deref.ensures.value in
    omega arith

pub loop-i-preserved : goal.loop-i-preserved
loop-i-preserved g c =
    let K = g.F.Field.field in
    let vs = c.args.tables.now in
    let t = λ (i b : ℕ). get_or (as_tables K vs) i (nothing K) b in
    let b = c.args.corner in
    let i = c.loop-i.i in
    let same : of_list K c.deref.result.now ≡ get_or (as_tables K vs) i (nothing K) =
    ap (of_list K) c.deref.ensures.value ∙ table_is K g.met.F.Field.field_laws vs i c.index-tables-i.result c.loop-i-test.true c.index-tables-i.is in
    let line = c.line_at-low in
    record {
      values =
          zipped-set K (λ _ y. y) (of_list K c.args.values.now) (λ i. t i (2 * b)) i c.loop-i.values line.result.0 (omega arith) c.loop-i.invariant.values
          (line.ensures.low ∙ ap (λ f. f (2 * b)) same);
      steps =
          zipped-set K (λ _ y. y) (of_list K c.args.steps.now) (λ i. minus K (t i (2 * b + 1)) (t i (2 * b))) i c.loop-i.steps line.result.1 (omega arith) c.loop-i.invariant.steps
          (line.ensures.step ∙ ap (λ f. minus K (f (2 * b + 1)) (f (2 * b))) same);
    }

pub returns-clause-values : goal.returns-clause-values
returns-clause-values g c i =
    let K = g.F.Field.field in
    let vs = c.args.tables.now in
    let t = λ (i b : ℕ). get_or (as_tables K vs) i (nothing K) b in
    let b = c.args.corner in
    let a = of_list K c.args.values.now in
    ap (λ f. f i)
    (c.loop-i.invariant.values
    ∙ zipped-end K (λ _ y. y) c.loop-i.i a (λ i. t i (2 * b))
    (λ k l. ap (λ f. f (2 * b)) (past_tables K vs k (omega arith)) ∙ sym (of_list-past K c.args.values.now k (omega (arith, c.requires.values)))))

pub returns-clause-steps : goal.returns-clause-steps
returns-clause-steps g c i =
    let K = g.F.Field.field in
    let vs = c.args.tables.now in
    let t = λ (i b : ℕ). get_or (as_tables K vs) i (nothing K) b in
    let b = c.args.corner in
    let a = of_list K c.args.steps.now in
    ap (λ f. f i)
    (c.loop-i.invariant.steps
    ∙ zipped-end K (λ _ y. y) c.loop-i.i a (λ i. minus K (t i (2 * b + 1)) (t i (2 * b)))
    (λ k l.
    ap (λ f. minus K (f (2 * b + 1)) (f (2 * b))) (past_tables K vs k (omega arith))
    ∙ g.met.F.Field.field_laws.plus_negated K.zero
    ∙ sym (of_list-past K c.args.steps.now k (omega (arith, c.requires.steps)))))
