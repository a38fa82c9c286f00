use Rattle.ark_base.proofs.Element32.{same_words_or_numbers}
use Rattle.ark_base.proofs.prime_field32.PrimeField32PartialEq.eq.Goals as goal

pub returns : goal.returns
returns g c = same_words_or_numbers {g = g.M.PrimeModulus32} g.M.PrimeModulus32.modulus c.args.self.now c.args.other.now
