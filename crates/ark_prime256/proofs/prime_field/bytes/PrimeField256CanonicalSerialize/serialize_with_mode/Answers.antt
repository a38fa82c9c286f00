use Rattle.ark_prime256.specs.Words.{integer}
use Rattle.ark_prime256.proofs.ElementBytes.{written_element}
use Rattle.ark_prime256.proofs.prime_field.bytes.PrimeField256CanonicalSerialize.serialize_with_mode.Goals as goal

pub returns : goal.returns
returns g c = written_element _ _ c.args.self.now (integer c.into_bigint.result) c.write_words.result c.into_bigint.ensures.number c.write_words.ensures
