use Rattle.std.proofs.Common.{arith, rules}
use Rattle.ark_words.proofs.Corners.{too_many}
use Rattle.ark_words.proofs.extensions.are_corners.Goals as goal

pub returns-then-variables-ge64 : goal.returns-then-variables-ge64
returns-then-variables-ge64 c = (
  (λ t. absurd (search rules)),
  (λ e. absurd (too_many c.args.count c.args.variables c.ranges.count.fits (omega arith) e)),
)
