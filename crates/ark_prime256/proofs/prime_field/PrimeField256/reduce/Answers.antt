use Rattle.ark_prime256.specs.Words.{integer}
use Rattle.ark_prime256.proofs.Element.{square_below, number_of_reduced}
use Rattle.ark_prime256.proofs.prime_field.PrimeField256.reduce.Goals as goal

pub montgomery_product-requires : goal.montgomery_product-requires
montgomery_product-requires g c = square_below g.M.PrimeModulus256 g.M.PrimeModulus256.modulus c.R_SQUARED.result c.R_SQUARED.ensures

pub returns : goal.returns
returns g c =
    number_of_reduced g.M.PrimeModulus256.modulus _ c.R_SQUARED.result (integer c.args.value) c.R_SQUARED.ensures c.montgomery_product.ensures.residue
