use Rattle.std.proofs.Common.{arith, refl, rules}
use Rattle.ark_words.proofs.Corners.{too_few, no_cube, left_told}
use Rattle.ark_words.proofs.extensions.are_left.Goals as goal

pub returns-then-variables-bound : goal.returns-then-variables-bound
returns-then-variables-bound c = (
  (λ t. absurd (search rules)),
  (λ h. absurd (too_few c.args.corners c.args.bound c.args.left c.log2-variables.result c.log2-variables.ensures c.if-variables-bound.true h)),
)

pub returns-then-not-are_corners : goal.returns-then-not-are_corners
returns-then-not-are_corners c = (
  (λ t. absurd (search rules)),
  (λ h. absurd (no_cube c.args.corners c.args.bound c.args.left c.log2-variables.result c.log2-variables.ensures (λ e. absurd (search rules)) h)),
)

pub returns : goal.returns
returns c =
    left_told c.args.corners c.args.bound c.args.left c.log2-variables.result _ c.log2-variables.ensures (omega arith) (c.if-not-are_corners.ensures.0 refl) c.are_corners-2.ensures
