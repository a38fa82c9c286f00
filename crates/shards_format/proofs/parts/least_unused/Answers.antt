use Rattle.std.proofs.Common.{◌≡◌, ◌+◌, sym, subst, refl, arith, length}
use Rattle.shards_format.proofs.UsedPlaces.{Met, none_met, none_true, met_more, met_same, all_before}
use Rattle.shards_format.proofs.parts.least_unused.Goals as goal
use Rattle.shards_format.proofs.parts.least_unused.Goals.{then-number-lt-CANDIDATES, else-number-lt-CANDIDATES}

pub loop-number-preserved : goal.loop-number-preserved
loop-number-preserved c =
    elim c.if-number-lt-CANDIDATES.branch [
      | then-number-lt-CANDIDATES w ↦
          let more : Met _ c.args.numbers.now (c.loop-number.number-index + 1) = met_more c.loop-number.used c.args.numbers.now c.loop-number.number-index c.loop-number.invariant w.if-number-lt-CANDIDATES.true in
          subst (λ u. Met u c.args.numbers.now (c.loop-number.number-index + 1)) (sym w.used-is) more
      | else-number-lt-CANDIDATES w ↦
          let more : Met _ c.args.numbers.now (c.loop-number.number-index + 1) = met_same c.loop-number.used c.args.numbers.now c.loop-number.number-index c.loop-number.invariant w.if-number-lt-CANDIDATES.false in
          subst (λ u. Met u c.args.numbers.now (c.loop-number.number-index + 1)) (sym w.used-is) more
    ]

pub loop-number-init : goal.loop-number-init
loop-number-init c = none_met _ c.args.numbers.now refl (omega arith) (λ j. none_true 1025 j)

pub returns-clause-least : goal.returns-clause-least
returns-clause-least c = λ x l unused.
    let all : c.loop-number.number-index ≡ length c.args.numbers.now = omega (arith, c.loop-number-test.false, c.loop-number.auto.number-index-end) in
    all_before c.loop-number.used c.args.numbers.now c.first_false.result x (subst (Met c.loop-number.used c.args.numbers.now) all c.loop-number.invariant) c.first_false.ensures.first l unused
