use Rattle.std.proofs.Common.{refl}
use Rattle.ark_base.proofs.WordReduction.{reduced_is}
use Rattle.ark_base.proofs.montgomery32.reduce.Goals as goal

pub returns-clause-residue : goal.returns-clause-residue
returns-clause-residue c = reduced_is c.args.value c.args.i c.args.p _ c.less_once.result c.requires.inverse refl c.less_once.ensures.residue
