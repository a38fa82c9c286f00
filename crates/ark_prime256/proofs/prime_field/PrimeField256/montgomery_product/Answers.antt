use Rattle.std.proofs.Common.{◌≡◌, ◌*◌, ◌%◌, ◌^◌, subst}
use Rattle.ark_prime256.specs.Words.{integer}
use Rattle.ark_prime256.proofs.Element.{read_modulus, read_montgomery, below_read, below_modulus}
use Rattle.ark_prime256.proofs.prime_field.PrimeField256.montgomery_product.Goals as goal

pub product-requires-clause-wide : goal.product-requires-clause-wide
product-requires-clause-wide g c =
    let m = g.M.PrimeModulus256 in
    read_montgomery m m.modulus c.MODULUS_WORDS.result c.NEGATED_INVERSE.result c.MODULUS_WORDS.ensures c.NEGATED_INVERSE.ensures

pub product-requires-clause-a_in : goal.product-requires-clause-a_in
product-requires-clause-a_in g c =
    let m = g.M.PrimeModulus256 in
    below_read m m.modulus c.MODULUS_WORDS.result (integer c.args.a) c.MODULUS_WORDS.ensures c.requires

pub returns-clause-below : goal.returns-clause-below
returns-clause-below g c =
    let m = g.M.PrimeModulus256 in
    below_modulus m m.modulus c.MODULUS_WORDS.result (integer c.product.result) c.MODULUS_WORDS.ensures c.product.ensures.below

pub returns-clause-residue : goal.returns-clause-residue
returns-clause-residue g c =
    let m = g.M.PrimeModulus256 in
    subst (λ n. (2 ^ 256 * integer c.product.result) % n ≡ (integer c.args.a * integer c.args.b) % n)
    (read_modulus m m.modulus c.MODULUS_WORDS.result c.MODULUS_WORDS.ensures) c.product.ensures.residue
