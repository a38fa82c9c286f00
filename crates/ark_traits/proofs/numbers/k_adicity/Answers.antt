use Rattle.std.proofs.Common.{sym, subst, arith}
use Rattle.ark_math.specs.Root.{IsGreatestPower}
use Rattle.ark_math.proofs.Numbers.GreatestPowers.{greatest_power, divided, few_factors}
use Rattle.ark_traits.proofs.numbers.k_adicity.Goals as goal

pub overflow_add-adicity : goal.overflow_add-adicity
overflow_add-adicity c =
    let few = few_factors c.args.k c.divide.adicity c.divide.rest c.args.n c.requires c.divide.invariant.1 c.divide.invariant.0 c.ranges.n.fits in
    omega (arith, few)

pub divide-preserved : goal.divide-preserved
divide-preserved c = divided c.args.k c.divide.adicity c.divide.rest c.args.n (omega (arith, c.requires)) c.divide.invariant.1 c.divide.invariant.0 c.divide-test.true

pub returns-clause-greatest : goal.returns-clause-greatest
returns-clause-greatest c some =
    subst (λ n. IsGreatestPower c.args.k n c.divide.adicity) (sym c.divide.invariant.0)
    (greatest_power c.args.k c.divide.adicity c.divide.rest (omega (arith, c.requires)) c.divide-test.false)
