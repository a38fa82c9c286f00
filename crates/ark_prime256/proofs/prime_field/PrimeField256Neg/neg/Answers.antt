use Rattle.ark_prime256.specs.Words.{integer}
use Rattle.ark_prime256.proofs.Element.{below_read, negated_is}
use Rattle.ark_prime256.proofs.prime_field.PrimeField256Neg.neg.Goals as goal

pub negated-requires : goal.negated-requires
negated-requires g c =
    let m = g.M.PrimeModulus256 in
    below_read m m.modulus c.MODULUS_WORDS.result (integer c.args.self.words) c.MODULUS_WORDS.ensures c.args.self.reduced

pub returns : goal.returns
returns g c = negated_is g.M.PrimeModulus256.modulus c.args.self _ c.MODULUS_WORDS.result c.MODULUS_WORDS.ensures c.negated.ensures.residue
