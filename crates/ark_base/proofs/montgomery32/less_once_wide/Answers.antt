use Rattle.std.proofs.Common.{ap, ◌∙◌, ◌%◌, ◌*◌, ◌-◌, arith}
use Rattle.ark_base.proofs.WordReduction.{less_wide}
use Rattle.ark_base.proofs.montgomery32.less_once_wide.Goals as goal

pub returns-else-value-whole-clause-residue : goal.returns-else-value-whole-clause-residue
returns-else-value-whole-clause-residue c = less_wide c.args.value c.args.p _ (omega arith) (omega (arith, c.requires, c.if-value-whole.false))
