use Rattle.ark_base.proofs.Element.{natural_number}
use Rattle.ark_base.proofs.prime_field.PrimeField.value.Goals as goal

pub returns-clause-natural : goal.returns-clause-natural
returns-clause-natural g c = natural_number g.M.PrimeModulus.modulus.prime c.args.self
