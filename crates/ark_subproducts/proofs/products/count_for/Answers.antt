use Rattle.std.proofs.Common.{arith}
use Rattle.ark_math.proofs.Domains.Sizes.{next_at_most}
use Rattle.ark_subproducts.proofs.products.count_for.Goals as goal

pub returns-clause-least : goal.returns-clause-least
returns-clause-least c count power room =
    let next = c.next_power_of_two.ensures in
    let least = next_at_most _ c.next_power_of_two.result next.power.0 power.0 next.power.1 next.upper_bound (omega (arith, room, power.1)) in
    omega (arith, least, power.1)
