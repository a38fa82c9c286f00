use Rattle.std.proofs.Common.{◌+◌, ◌-◌, ◌%◌, ap, ◌∙◌}
use Rattle.ark_base.proofs.Element32.{difference_is}
use Rattle.ark_base.proofs.prime_field32.PrimeField32Sub.sub.Goals as goal

pub returns : goal.returns
returns g c =
    difference_is {g = g.M.PrimeModulus32} g.M.PrimeModulus32.modulus c.args.self c.args.rhs _
    (c.minus.ensures.residue ∙ ap (λ p. (c.args.self.word + (p - c.args.rhs.word)) % p) c.MODULUS.ensures)
