use Rattle.std.proofs.Common.{◌-◌, ◌%◌, ap, ◌∙◌}
use Rattle.ark_base.proofs.Element32.{negated_is}
use Rattle.ark_base.proofs.prime_field32.PrimeField32Neg.neg.Goals as goal

pub returns : goal.returns
returns g c =
    negated_is {g = g.M.PrimeModulus32} g.M.PrimeModulus32.modulus c.args.self _
    (c.negated.ensures.residue ∙ ap (λ p. (p - c.args.self.word) % p) c.MODULUS.ensures)
