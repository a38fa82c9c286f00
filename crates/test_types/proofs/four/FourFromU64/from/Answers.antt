use Rattle.test_types.specs.FourLaws.{four_natural}
use Rattle.test_types.proofs.four.FourFromU64.from.Goals as goal

pub returns : goal.returns
returns c = four_natural c.args.value
