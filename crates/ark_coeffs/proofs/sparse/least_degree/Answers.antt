use Rattle.std.proofs.Common.{arith}
use Rattle.ark_coeffs.proofs.SparseSums.{lowest_first}
use Rattle.ark_coeffs.proofs.sparse.least_degree.Goals as goal

pub returns-in-Some-Some-clause-left : goal.returns-in-Some-Some-clause-left
returns-in-Some-Some-clause-left g c =
    lowest_first g.F.Field.field g.met.F.Field.field_laws c.args.left.now c.in-Some-Some.term.now c.min.result c.requires.left c.in-Some-Some.ensures.value (omega (arith, c.min.ensures))

pub returns-in-Some-Some-clause-right : goal.returns-in-Some-Some-clause-right
returns-in-Some-Some-clause-right g c =
    lowest_first g.F.Field.field g.met.F.Field.field_laws c.args.right.now c.in-Some-Some.other.now c.min.result c.requires.right c.in-Some-Some.ensures'.value (omega (arith, c.min.ensures))

pub returns-in-Some-None-clause-left : goal.returns-in-Some-None-clause-left
returns-in-Some-None-clause-left g c =
    lowest_first g.F.Field.field g.met.F.Field.field_laws c.args.left.now c.in-Some-None.term.now c.in-Some-None.term.now.0 c.requires.left c.in-Some-None.ensures.value (omega arith)

pub returns-in-None-Some-clause-right : goal.returns-in-None-Some-clause-right
returns-in-None-Some-clause-right g c =
    lowest_first g.F.Field.field g.met.F.Field.field_laws c.args.right.now c.in-None-Some.term.now c.in-None-Some.term.now.0 c.requires.right c.in-None-Some.ensures'.value (omega arith)
