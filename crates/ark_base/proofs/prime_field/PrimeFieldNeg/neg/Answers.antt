use Rattle.std.proofs.Common.{ap, ◌∙◌, ◌-◌, ◌%◌}
use Rattle.ark_base.specs.Element.{same_from_value}
use Rattle.ark_base.proofs.prime_field.PrimeFieldNeg.neg.Goals as goal

pub returns : goal.returns
returns g c = same_from_value _ _ (c.reduce_once.ensures ∙ ap (λ p. (p - c.args.self.value) % g.M.PrimeModulus.MODULUS) c.MODULUS.ensures)
