use Rattle.std.proofs.Common.{Some}
use Rattle.ark_sum_check.proofs.Factors.{sum_of-summed}
use Rattle.ark_sum_check.proofs.prover.Prover.of_sum.Goals as goal

pub returns-clause-sum : goal.returns-clause-sum
returns-clause-sum g c = sum_of-summed g.F.Field.field c.args.tables.items (Some c.args.addends) c.args.num_vars
