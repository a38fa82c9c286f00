use Rattle.std.proofs.Common.{ap, ◌∙◌, length, take}
use Rattle.std.proofs.lemmas.List.{take_all}
use borrow.Author.Count.{falls}
use Rattle.ark_math_variables.specs.Term.{power_of}
use Rattle.ark_tables.proofs.GatheredPowers.{gathered_step_same, gathered_step_next, gathered_fits}
use Rattle.ark_tables.proofs.powers.gathered_powers.Goals.{then-pair-variable+in_ok-push_power, else-pair-variable}
use Rattle.ark_tables.proofs.powers.gathered_powers.Goals as goal

pub loop-pair-preserved : goal.loop-pair-preserved
loop-pair-preserved c =
    let ps = c.args.powers.now in
    let done = c.loop-pair.gathered.items in
    let new = c.if-pair-variable in
    let i = c.loop-pair.pair-index in
    let h = c.loop-pair.invariant in
    let inside = c.loop-pair-test.true in
    elim c.if-pair-variable.branch [
      | then-pair-variable+in_ok-push_power w ↦ gathered_step_next ps done w.push_power.new.powers.items new.gathered.items i c.loop-pair.variable c.loop-pair.power new.variable new.power h c.requires.rising inside w.if-pair-variable.true w.in_ok-push_power.ensures.term w.in_ok-push_power.ensures.powers w.in_ok-push_power.ensures.total w.in_ok-push_power.ensures.below (ap (λ v. v.items) w.gathered-is) w.variable-is w.power-is
      | else-pair-variable w ↦ gathered_step_same ps done new.gathered.items i c.loop-pair.variable c.loop-pair.power new.variable new.power h inside w.if-pair-variable.false (ap (λ v. v.items) w.gathered-is) w.variable-is w.power-is
    ]

pub push_power-requires-clause-term : goal.push_power-requires-clause-term
push_power-requires-clause-term c = c.loop-pair.invariant.term

pub push_power-requires-clause-below : goal.push_power-requires-clause-below
push_power-requires-clause-below c = c.loop-pair.invariant.below

pub push_power-requires-clause-fits : goal.push_power-requires-clause-fits
push_power-requires-clause-fits c = gathered_fits c.args.powers.now c.loop-pair.gathered.items c.loop-pair.pair-index c.loop-pair.variable c.loop-pair.power c.loop-pair.invariant c.requires.fits

pub loop-pair-smaller : goal.loop-pair-smaller
loop-pair-smaller c = falls (length c.args.powers.now) c.loop-pair.pair-index c.loop-pair-test.true

pub push_power-requires-2-clause-term : goal.push_power-requires-2-clause-term
push_power-requires-2-clause-term c = c.loop-pair.invariant.term

pub push_power-requires-2-clause-below : goal.push_power-requires-2-clause-below
push_power-requires-2-clause-below c = c.loop-pair.invariant.below

pub push_power-requires-2-clause-fits : goal.push_power-requires-2-clause-fits
push_power-requires-2-clause-fits c = gathered_fits c.args.powers.now c.loop-pair.gathered.items c.loop-pair.pair-index c.loop-pair.variable c.loop-pair.power c.loop-pair.invariant c.requires.fits

pub returns-clause-term : goal.returns-clause-term
returns-clause-term c = c.in_ok-push_power-2.ensures.term

pub returns-clause-powers : goal.returns-clause-powers
returns-clause-powers c v = c.in_ok-push_power-2.ensures.powers v ∙ c.loop-pair.invariant.powers v ∙ ap (λ ps. power_of ps v) (take_all c.loop-pair.pair-index c.args.powers.now c.loop-pair-test.false)
