use Rattle.std.proofs.Common.{refl}
use Rattle.ark_prime256.specs.Words.{integer}
use Rattle.ark_prime256.proofs.ElementBytes.{past_the_modulus}
use Rattle.ark_prime256.proofs.prime_field.bytes.PrimeField256CanonicalDeserialize.deserialize_with_mode.Goals as goal

pub returns-in-None : goal.returns-in-None
returns-in-None g c =
    past_the_modulus g.M.PrimeModulus256.modulus _ _ (integer c.in_ok-value.value) (c.in-None.ensures.none.0 refl) c.in_ok-value.ensures
