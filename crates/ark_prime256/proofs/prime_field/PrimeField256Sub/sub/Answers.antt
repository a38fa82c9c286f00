use Rattle.ark_prime256.specs.Words.{integer}
use Rattle.ark_prime256.proofs.Element.{below_read, difference_is}
use Rattle.ark_prime256.proofs.prime_field.PrimeField256Sub.sub.Goals as goal

pub minus-requires : goal.minus-requires
minus-requires g c =
    let m = g.M.PrimeModulus256 in
    let e = c.MODULUS_WORDS.ensures in
    record {
      a_in = below_read m m.modulus c.MODULUS_WORDS.result (integer c.args.self.words) e c.args.self.reduced;
      b_in = below_read m m.modulus c.MODULUS_WORDS.result (integer c.args.rhs.words) e c.args.rhs.reduced;
    }

pub returns : goal.returns
returns g c =
    difference_is g.M.PrimeModulus256.modulus c.args.self c.args.rhs _ c.MODULUS_WORDS.result c.MODULUS_WORDS.ensures c.minus.ensures.residue
