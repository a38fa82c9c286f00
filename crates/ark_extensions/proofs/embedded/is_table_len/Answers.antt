use Rattle.std.proofs.Common.{arith, rules}
use Rattle.ark_extensions.proofs.BaseLists.{too_many}
use Rattle.ark_extensions.proofs.embedded.is_table_len.Goals as goal

pub returns-then-variables-ge64 : goal.returns-then-variables-ge64
returns-then-variables-ge64 c = (
  (λ t. absurd (search rules)),
  (λ e. absurd (too_many c.args.len c.args.variables c.ranges.len.fits (omega arith) e)),
)
