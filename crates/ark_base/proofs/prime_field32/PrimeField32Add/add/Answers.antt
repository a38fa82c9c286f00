use Rattle.std.proofs.Common.{◌+◌, ◌%◌, ap, ◌∙◌}
use Rattle.ark_base.proofs.Element32.{sum_is}
use Rattle.ark_base.proofs.prime_field32.PrimeField32Add.add.Goals as goal

pub returns : goal.returns
returns g c =
    sum_is {g = g.M.PrimeModulus32} g.M.PrimeModulus32.modulus c.args.self c.args.rhs _
    (c.plus.ensures.residue ∙ ap (λ p. (c.args.self.word + c.args.rhs.word) % p) c.MODULUS.ensures)
