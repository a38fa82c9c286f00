use Rattle.std.proofs.Common.{suc, arith}
use Rattle.ark_math.proofs.Numbers.PowersOfTwo.{pow_twice}
use Rattle.ark_bit_reversed.proofs.table.BlockRoots.double.Goals as goal

pub extend-requires-clause-whole : goal.extend-requires-clause-whole
extend-requires-clause-whole g c =
    let p = c.requires.power in
    (suc p.0, omega (arith, c.len-count.ensures, p.1, pow_twice p.0))
