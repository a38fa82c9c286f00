use Rattle.std.proofs.Common.{◌≡◌, ◌*◌, ◌^◌, ◌<◌}
use Rattle.ark_traits.proofs.numbers.k_adicity.Given as goal

abbrev pub invariant-divide : goal.invariant-divide
invariant-divide l = (l.fn.n ≡ l.fn.k ^ l.adicity * l.rest) × (0 < l.rest)

abbrev pub decreases-divide : goal.decreases-divide
decreases-divide l = l.rest
