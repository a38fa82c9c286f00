use Rattle.ark_prime256.proofs.Inverses.{inverse_where_turned, inverse_where_not}
use Rattle.ark_prime256.proofs.prime_field.PrimeField256.inverse_by_steps.Goals as goal

pub returns-then-last : goal.returns-then-last
returns-then-last g c =
    inverse_where_turned g.M.PrimeModulus256.modulus c.args.self c.reduce-factor.result c.half.result c.pow.result c.mul-negative.result c.last_step-last.result
    c.reduce-factor.ensures c.half.ensures c.pow.ensures c.mul-negative.ensures c.last_step-last.ensures c.if-last.true

pub returns-else-last : goal.returns-else-last
returns-else-last g c =
    inverse_where_not g.M.PrimeModulus256.modulus c.args.self c.reduce-factor.result c.half.result c.pow.result c.mul-negative.result c.last_step-last.result c.neg.result
    c.reduce-factor.ensures c.half.ensures c.pow.ensures c.mul-negative.ensures c.last_step-last.ensures c.if-last.false c.neg.ensures
