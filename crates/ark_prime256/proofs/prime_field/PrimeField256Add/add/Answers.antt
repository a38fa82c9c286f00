use Rattle.ark_prime256.specs.Words.{integer}
use Rattle.ark_prime256.proofs.Element.{small_read, below_read, sum_is}
use Rattle.ark_prime256.proofs.prime_field.PrimeField256Add.add.Goals as goal

pub plus-requires : goal.plus-requires
plus-requires g c =
    let m = g.M.PrimeModulus256 in
    let e = c.MODULUS_WORDS.ensures in
    record {
      small = small_read m m.modulus c.MODULUS_WORDS.result e;
      a_in = below_read m m.modulus c.MODULUS_WORDS.result (integer c.args.self.words) e c.args.self.reduced;
      b_in = below_read m m.modulus c.MODULUS_WORDS.result (integer c.args.rhs.words) e c.args.rhs.reduced;
    }

pub returns : goal.returns
returns g c =
    sum_is g.M.PrimeModulus256.modulus c.args.self c.args.rhs _ c.MODULUS_WORDS.result c.MODULUS_WORDS.ensures c.plus.ensures.residue
