use Rattle.ark_base.specs.Euclid.{Euclid}
use Rattle.ark_base.proofs.prime_field.PrimeFieldField.inverse.Given as goal

abbrev pub invariant-divide : goal.invariant-divide
invariant-divide g l = Euclid g.M.PrimeModulus.MODULUS l.self.value l.last l.last_factor.value l.rest l.factor.value

abbrev pub decreases-divide : goal.decreases-divide
decreases-divide g l = l.rest
